-- What the routines that read AIFF files answer, and what they leave in what they are lent. A refusal leaves all as it was.
use Rattle.std.specs.Prelude.{Result, Ok, Err, List, ℕ, Float}
use Rattle.byte_order.specs.declared.bytes.ByteOrder.TheVariants.{Big}
use Rattle.wave_sound.specs.declared.sound.Sound.{Sound}
use Rattle.wave_sound.specs.declared.refusal.Refusal.{Refusal}
use Rattle.wave_sound.specs.Refusal.{refusal_number}
use Rattle.wave_reader.specs.Read.{Reading, read_from}
use Rattle.aiff_sound.specs.Sound.{sound_in}

-- ---- info: the number, the rate, the channels, the frames

pub data Info : Type 0 where
  held : ℕ → ℕ → ℕ → ℕ → Info

unfoldable pub info_from : Result Sound Refusal → ℕ → ℕ → ℕ → Info
info_from (Ok sound) rate channels frames = held 0 sound.rate sound.channels sound.frames
info_from (Err refusal) rate channels frames = held (refusal_number refusal) rate channels frames

unfoldable pub info_of : List ℕ → ℕ → ℕ → ℕ → Info
info_of file rate channels frames = info_from (sound_in file) rate channels frames

-- ---- read: the number, the samples, the rate

unfoldable pub read_of : List ℕ → List Float → ℕ → Reading
read_of file samples rate = read_from Big (sound_in file) file samples rate
