-- What the routines that read AIFF files answer, in each case. Assumes nothing.
use mathlib.Core.Path.{◌≡◌, refl, ap}
use mathlib.Core.List.{List}
use Prim.Native.Nat.{ℕ}
use lib.Ieee.{Float}
use Rattle.byte_order.specs.declared.bytes.ByteOrder.TheVariants.{Big}
use Rattle.wave_sound.specs.declared.sound.Sound.{Sound}
use Rattle.wave_sound.specs.declared.refusal.Refusal.{Refusal}
use Rattle.wave_sound.specs.Refusal.{refusal_number}
use Rattle.std.specs.Prelude.{Result, Ok, Err}
use Rattle.wave_reader.specs.Read.{read_from}
use Rattle.aiff_sound.specs.Sound.{sound_in}
use Rattle.aiff_reader.specs.Read.{held, info_from, info_of, read_of}

module _ (file : List ℕ) where
  pub info_holds : (s : Sound) (rate channels frames : ℕ) → sound_in file ≡ Ok s → info_of file rate channels frames ≡ held 0 s.rate s.channels s.frames
  unfolding info_of info_from
  info_holds s rate channels frames e = ap (λ (f : Result Sound Refusal). info_from f rate channels frames) e

  pub info_refused : (r : Refusal) (rate channels frames : ℕ) → sound_in file ≡ Err r → info_of file rate channels frames ≡ held (refusal_number r) rate channels frames
  unfolding info_of info_from
  info_refused r rate channels frames e = ap (λ (f : Result Sound Refusal). info_from f rate channels frames) e

  pub read_is : (samples : List Float) (rate : ℕ) → read_from Big (sound_in file) file samples rate ≡ read_of file samples rate
  unfolding read_of
  read_is samples rate = refl
