-- What a WAVE file holds, or why it is refused.
use Rattle.std.specs.Prelude.{◌≡◌, ◌⊎◌, Option, Some, None, Result, Ok, Err, unwrap_or, Bool, false, cond, ◌&&◌, List, ℕ, ◌+◌, ◌*◌, ◌/◌, ◌%◌, ◌≤◌, eqb, leb, length}
use Rattle.byte_order.specs.declared.bytes.ByteOrder.TheVariants.{Little}
use Rattle.byte_order.specs.Bytes.{number_at}
use Rattle.iff_chunks.specs.declared.form.Chunks.{Chunks}
use Rattle.iff_chunks.specs.Chunks.{identifier, size_at, is_form, walk_of}
use Rattle.pcm.specs.declared.sample.Encoding.{Encoding}
use Rattle.pcm.specs.declared.sample.Encoding.TheVariants.{Pcm16, Float32}
use Rattle.pcm.specs.Sample.{width}
use Rattle.wave_sound.specs.declared.sound.Sound.{Sound}
use Rattle.wave_sound.specs.declared.refusal.Refusal.{Refusal}
use Rattle.wave_sound.specs.declared.refusal.Refusal.TheVariants.{NoWave, Broken, OtherKind}

unfoldable pub riff : ℕ
riff = identifier "RIFF"

unfoldable pub wave : ℕ
wave = identifier "WAVE"

unfoldable pub format_chunk : ℕ
format_chunk = identifier "fmt "

unfoldable pub data_chunk : ℕ
data_chunk = identifier "data"

-- One channel or two.
unfoldable pub channels_ok : ℕ → Bool
channels_ok channels = leb 1 channels && leb channels 2

-- 8000 Hz to 192000 Hz.
unfoldable pub rate_ok : ℕ → Bool
rate_ok rate = leb 8000 rate && leb rate 192000

-- A sample kind that we read, by its number in the format chunk and the bits of a sample.
unfoldable pub kind_of : ℕ → ℕ → Option Encoding
kind_of tag bits = cond (eqb tag 1 && eqb bits 16) (Some Pcm16) (cond (eqb tag 3 && eqb bits 32) (Some Float32) None)

-- What is known of a sound that a file holds: one channel or two, and its frames are in the file.
pub record Inside (file : List ℕ) (sound : Sound) : Type 0 where
  pub sides : (sound.channels ≡ 1) ⊎ (sound.channels ≡ 2)
  pub room : sound.start + sound.frames * sound.channels * width sound.encoding ≤ length file

-- 14 and 15, of data of so many bytes that begin at a place: do they end with a frame, and are their channels one or two?
unfoldable pub sound_of : Encoding → ℕ → ℕ → ℕ → ℕ → Result Sound Refusal
sound_of encoding channels rate start size =
    let frame = channels * width encoding in
    cond (channels_ok channels)
    (cond (eqb (size % frame) 0) (Ok (record { rate = rate; channels = channels; encoding = encoding; start = start; frames = size / frame })) (Err Broken))
    (Err OtherKind)

-- 15, of the sample kind.
unfoldable pub sound_kind : Option Encoding → ℕ → ℕ → ℕ → ℕ → Result Sound Refusal
sound_kind (Some encoding) channels rate start size = sound_of encoding channels rate start size
sound_kind None channels rate start size = Err OtherKind

-- By the places of the format chunk (kind, channels, rate, two fields that nobody asks about, bits) and of the data chunk.
unfoldable pub sound_at : List ℕ → ℕ → ℕ → Result Sound Refusal
sound_at file format body =
    sound_kind (kind_of (number_at Little file (format + 8) 2) (number_at Little file (format + 22) 2))
    (number_at Little file (format + 10) 2) (number_at Little file (format + 12) 4) (body + 8) (size_at Little file body)

-- 13: a first format chunk of 16 bytes and a data chunk.
unfoldable pub has_chunks : List ℕ → Option ℕ → Option ℕ → Bool
has_chunks file None body = false
has_chunks file (Some format) None = false
has_chunks file (Some format) (Some body) = eqb (size_at Little file format) 16

-- The place of a chunk that is there.
abbrev pub place_of : Option ℕ → ℕ
place_of place = unwrap_or place 0

-- 13, then 14, of the chunks.
unfoldable pub sound_among : List ℕ → Chunks → Result Sound Refusal
sound_among file chunks =
    cond (has_chunks file chunks.first chunks.second)
    (cond chunks.whole (sound_at file (place_of chunks.first) (place_of chunks.second)) (Err Broken))
    (Err NoWave)

unfoldable pub sound_in : List ℕ → Result Sound Refusal
sound_in file = cond (is_form file riff wave) (sound_among file (walk_of Little format_chunk data_chunk file)) (Err NoWave)
