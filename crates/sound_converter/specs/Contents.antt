-- What a file holds, by its rate, channels and samples, and what converting keeps.
use Rattle.std.specs.Prelude.{◌≡◌, Result, Ok, Err, List, ℕ, ◌+◌, length, Float}
use Rattle.byte_order.specs.declared.bytes.ByteOrder.{ByteOrder}
use Rattle.byte_order.specs.declared.bytes.ByteOrder.TheVariants.{Little, Big}
use Rattle.wave_sound.specs.declared.sound.Sound.{Sound}
use Rattle.wave_sound.specs.declared.refusal.Refusal.{Refusal}
use Rattle.wave_sound.specs.Refusal.{refusal_number}
use Rattle.wave_sound.specs.Sound.{sound_in}
use Rattle.wave_reader.specs.Read.{samples_of}
use Rattle.wave_writer.specs.Write.{head_length, writing}
use Rattle.aiff_sound.specs.Sound.{sound_in as aiff_in}
use Rattle.aiff_writer.specs.Write.{head_length as aiff_head}
use Rattle.sound_converter.specs.Convert.{wave_to_aiff, aiff_to_wave}

pub data Contents : Type 0 where
  contents : ℕ → ℕ → List Float → Contents
  none : ℕ → Contents

unfoldable pub contents_of : ByteOrder → Result Sound Refusal → List ℕ → Contents
contents_of order (Ok sound) file = contents sound.rate sound.channels (samples_of order file sound)
contents_of order (Err refusal) file = none (refusal_number refusal)

unfoldable pub wave_contents : List ℕ → Contents
wave_contents wave = contents_of Little (sound_in wave) wave

unfoldable pub aiff_contents : List ℕ → Contents
aiff_contents aiff = contents_of Big (aiff_in aiff) aiff

-- An AIFF file that was made of a WAVE file holds what that does, and is converted back, in a buffer of the length for it, to a file that does too.
pub record FromWave (wave aiff : List ℕ) : Type 0 where
  pub there : aiff_contents aiff ≡ wave_contents wave
  pub back : (room : List ℕ) → length room + aiff_head ≡ head_length + length aiff → (again : List ℕ) × (aiff_to_wave aiff room ≡ writing 0 again) × (wave_contents again ≡ wave_contents wave)

-- The other way round.
pub record FromAiff (aiff wave : List ℕ) : Type 0 where
  pub there : wave_contents wave ≡ aiff_contents aiff
  pub back : (room : List ℕ) → length room + head_length ≡ aiff_head + length wave → (again : List ℕ) × (wave_to_aiff wave room ≡ writing 0 again) × (aiff_contents again ≡ aiff_contents aiff)
