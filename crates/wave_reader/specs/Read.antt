-- What the routines that read answer, and what they leave in what they are lent. A refusal leaves all as it was.
use Rattle.std.specs.Prelude.{Result, Ok, Err, cond, List, ℕ, ◌*◌, eqb, length, Float}
use Rattle.byte_order.specs.declared.bytes.ByteOrder.{ByteOrder}
use Rattle.byte_order.specs.declared.bytes.ByteOrder.TheVariants.{Little}
use Rattle.pcm.specs.Sample.{bits_of}
use Rattle.sound_data.specs.Data.{samples_in}
use Rattle.wave_sound.specs.declared.sound.Sound.{Sound}
use Rattle.wave_sound.specs.declared.refusal.Refusal.{Refusal}
use Rattle.wave_sound.specs.Refusal.{refusal_number}
use Rattle.wave_sound.specs.Sound.{sound_in}

-- ---- info: the number, the rate, the channels, the bits of a sample, the frames

pub data Info : Type 0 where
  held : ℕ → ℕ → ℕ → ℕ → ℕ → Info

unfoldable pub info_from : Result Sound Refusal → ℕ → ℕ → ℕ → ℕ → Info
info_from (Ok sound) rate channels bits frames = held 0 sound.rate sound.channels (bits_of sound.encoding) sound.frames
info_from (Err refusal) rate channels bits frames = held (refusal_number refusal) rate channels bits frames

unfoldable pub info_of : List ℕ → ℕ → ℕ → ℕ → ℕ → Info
info_of file rate channels bits frames = info_from (sound_in file) rate channels bits frames

-- ---- read: the number, the samples, the rate, of a file in either byte order. 10 is a sample buffer of another length than the frames need.

pub data Reading : Type 0 where
  reading : ℕ → List Float → ℕ → Reading

unfoldable pub samples_of : ByteOrder → List ℕ → Sound → List Float
samples_of order file sound = samples_in sound.encoding order sound.channels file sound.start sound.frames

unfoldable pub read_from : ByteOrder → Result Sound Refusal → List ℕ → List Float → ℕ → Reading
read_from order (Ok sound) file samples rate =
    cond (eqb (length samples) (sound.frames * 2)) (reading 0 (samples_of order file sound) sound.rate) (reading 10 samples rate)
read_from order (Err refusal) file samples rate = reading (refusal_number refusal) samples rate

unfoldable pub read_of : List ℕ → List Float → ℕ → Reading
read_of file samples rate = read_from Little (sound_in file) file samples rate
