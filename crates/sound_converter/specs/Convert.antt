-- What the converters answer, and the file that they leave. A refusal leaves the file as it was. The converted file is the one that is written of the
-- samples that are read.
use Rattle.std.specs.Prelude.{Result, Ok, Err, Bool, true, cond, ◌&&◌, List, ℕ, ◌+◌, ◌*◌, ◌<◌, eqb, leb, length}
use Rattle.scene_tables.specs.Bytes.{every}
use Rattle.byte_order.specs.declared.bytes.ByteOrder.{ByteOrder}
use Rattle.byte_order.specs.declared.bytes.ByteOrder.TheVariants.{Little, Big}
use Rattle.byte_order.specs.Bytes.{bytes_of}
use Rattle.pcm.specs.declared.sample.Encoding.{Encoding}
use Rattle.pcm.specs.declared.sample.Encoding.TheVariants.{Pcm16, Float32}
use Rattle.pcm.specs.Sample.{Whole16, whole16, width, pattern_of}
use Rattle.sound_data.specs.Data.{value_at}
use Rattle.wave_sound.specs.declared.sound.Sound.{Sound}
use Rattle.wave_sound.specs.declared.refusal.Refusal.{Refusal}
use Rattle.wave_sound.specs.Refusal.{refusal_number}
use Rattle.wave_sound.specs.Sound.{rate_ok, sound_in}
use Rattle.wave_reader.specs.Read.{samples_of}
use Rattle.wave_writer.specs.Write.{Writing, writing, head_length, file_most, file_of, answered}
use Rattle.aiff_sound.specs.Sound.{sound_in as aiff_in}
use Rattle.aiff_writer.specs.Write.{head_length as aiff_head, file_of as aiff_file_of}

-- ---- the values of a file's data

-- a value for each channel of each frame
unfoldable pub values_of : Sound → ℕ
values_of sound = sound.frames * sound.channels

abbrev pub values_most : ℕ
values_most = 4294967295 * 2

-- Value k as 16 bits, in another byte order.
unfoldable pub value_as16 : Encoding → ByteOrder → List ℕ → ℕ → ByteOrder → ℕ → List ℕ
value_as16 encoding order bytes start into k = bytes_of into (width Pcm16) (pattern_of Pcm16 (value_at encoding order bytes start k))

-- Every value is v / 32768 for a whole number v of 16 bits.
pub record AllWhole (encoding : Encoding) (order : ByteOrder) (bytes : List ℕ) (start count : ℕ) : Type 0 where
  pub each : (k : ℕ) → k < count → Whole16 (value_at encoding order bytes start k)

-- 17, as a test: of 16-bit data every value is.
unfoldable pub keeps16 : Encoding → ByteOrder → List ℕ → ℕ → ℕ → Bool
keeps16 Pcm16 order bytes start count = true
keeps16 Float32 order bytes start count = every count (λ k. whole16 (value_at Float32 order bytes start k))

-- 10: the file buffer's length is the converted file's, and both files' sizes have 32 bits, so that it can be converted back. The AIFF file is the longer.
unfoldable pub room_ok : ℕ → ℕ → ℕ → Bool
room_ok head size room = leb (aiff_head + size) file_most && eqb room (head + size)

-- ---- from WAVE to AIFF: 17, 18 and 10 behind what the reader asks

unfoldable pub asked_of_wave : Sound → List ℕ → ℕ → ℕ
asked_of_wave sound wave room =
    cond (keeps16 sound.encoding Little wave sound.start (values_of sound))
    (cond (rate_ok sound.rate)
    (cond (room_ok aiff_head (values_of sound * 2) room) 0 10)
    18)
    17

unfoldable pub to_aiff : Result Sound Refusal → List ℕ → List ℕ → Writing
to_aiff (Ok sound) wave aiff = answered (asked_of_wave sound wave (length aiff)) (aiff_file_of sound.rate sound.channels (samples_of Little wave sound)) aiff
to_aiff (Err refusal) wave aiff = writing (refusal_number refusal) aiff

unfoldable pub wave_to_aiff : List ℕ → List ℕ → Writing
wave_to_aiff wave aiff = to_aiff (sound_in wave) wave aiff

-- ---- from AIFF to WAVE: 10

unfoldable pub asked_of_aiff : Sound → ℕ → ℕ
asked_of_aiff sound room = cond (room_ok head_length (values_of sound * 2) room) 0 10

unfoldable pub to_wave : Result Sound Refusal → List ℕ → List ℕ → Writing
to_wave (Ok sound) aiff wave = answered (asked_of_aiff sound (length wave)) (file_of sound.rate sound.channels Pcm16 (samples_of Big aiff sound)) wave
to_wave (Err refusal) aiff wave = writing (refusal_number refusal) wave

unfoldable pub aiff_to_wave : List ℕ → List ℕ → Writing
aiff_to_wave aiff wave = to_wave (aiff_in aiff) aiff wave
