-- What an AIFF file holds, or why it is refused.
use Rattle.std.specs.Prelude.{Option, Some, None, Result, Ok, Err, unwrap_or, Bool, false, cond, ◌&&◌, List, ℕ, ◌+◌, ◌*◌, eqb, leb}
use Rattle.byte_order.specs.declared.bytes.ByteOrder.TheVariants.{Big}
use Rattle.byte_order.specs.Bytes.{number_at}
use Rattle.iff_chunks.specs.declared.form.Chunks.{Chunks}
use Rattle.iff_chunks.specs.Chunks.{identifier, size_at, is_form, walk_of}
use Rattle.pcm.specs.declared.sample.Encoding.TheVariants.{Pcm16}
use Rattle.wave_sound.specs.declared.sound.Sound.{Sound}
use Rattle.wave_sound.specs.declared.refusal.Refusal.{Refusal}
use Rattle.wave_sound.specs.declared.refusal.Refusal.TheVariants.{Broken, OtherKind, NoAiff, FileRate}
use Rattle.wave_sound.specs.Sound.{channels_ok, rate_ok, place_of}
use Rattle.aiff_rate.specs.Rate.{whole_at}

unfoldable pub form_chunk : ℕ
form_chunk = identifier "FORM"

unfoldable pub aiff : ℕ
aiff = identifier "AIFF"

unfoldable pub common_chunk : ℕ
common_chunk = identifier "COMM"

unfoldable pub sound_chunk : ℕ
sound_chunk = identifier "SSND"

-- 15 of the channels and the bits of a sample, 14 of the frames, which begin at an offset in the sound chunk's data (8 bytes of its size stand in
-- front of these), and 18 of the rate.
unfoldable pub sound_of : ℕ → ℕ → ℕ → ℕ → ℕ → ℕ → ℕ → Result Sound Refusal
sound_of start size offset channels frames bits rate =
    cond (channels_ok channels && eqb bits 16)
    (cond (leb (8 + offset + frames * channels * 2) size)
    (cond (rate_ok rate) (Ok (record { rate = rate; channels = channels; encoding = Pcm16; start = start; frames = frames })) (Err FileRate))
    (Err Broken))
    (Err OtherKind)

-- By the places of the common chunk (channels, frames, bits, rate, 0 where it is no whole number) and of the sound chunk (offset, a block size that nobody asks about, data).
unfoldable pub sound_at : List ℕ → ℕ → ℕ → Result Sound Refusal
sound_at file common body =
    sound_of (body + 16 + number_at Big file (body + 8) 4) (size_at Big file body) (number_at Big file (body + 8) 4)
    (number_at Big file (common + 8) 2) (number_at Big file (common + 10) 4) (number_at Big file (common + 14) 2) (unwrap_or (whole_at file (common + 16)) 0)

-- 16: a first common chunk of 18 bytes and a first sound chunk of 8 or more.
unfoldable pub has_chunks : List ℕ → Option ℕ → Option ℕ → Bool
has_chunks file None body = false
has_chunks file (Some common) None = false
has_chunks file (Some common) (Some body) = eqb (size_at Big file common) 18 && leb 8 (size_at Big file body)

-- 16, then 14, of the chunks.
unfoldable pub sound_among : List ℕ → Chunks → Result Sound Refusal
sound_among file chunks =
    cond (has_chunks file chunks.first chunks.second)
    (cond chunks.whole (sound_at file (place_of chunks.first) (place_of chunks.second)) (Err Broken))
    (Err NoAiff)

unfoldable pub sound_in : List ℕ → Result Sound Refusal
sound_in file = cond (is_form file form_chunk aiff) (sound_among file (walk_of Big common_chunk sound_chunk file)) (Err NoAiff)
