-- What making a chunk asks of a mixer.
use Rattle.std.specs.Prelude.{ℕ, ◌+◌, ◌^◌, ◌≤◌, ◌<◌, T, get_or}
use Rattle.decibels.specs.Decibels.{admitted}
use Rattle.scene.specs.declared.scene.Scene.{Scene}
use Rattle.accepted.specs.Lines.{sound_line}
use Rattle.mixer.specs.declared.mixer.Mixer.{Mixer}
use Rattle.mixer.specs.Mixer.{parameter_of}

pub record MixerMixes (s : Scene) (m : Mixer) : Type 0 where
  pub routes : (r : ℕ) → r < s.route_count → T (admitted (parameter_of m.routes r).raw_value.0)
  pub played : (k : ℕ) → k < s.sound_count → get_or m.played k 0 ≤ (sound_line s k).count
  -- the program can count a sound's frames
  pub room : (k : ℕ) → k < s.sound_count → (sound_line s k).first + (sound_line s k).count < 2 ^ 63
