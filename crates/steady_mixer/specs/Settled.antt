-- A motion has settled where working out its value again gives the value that stands there. A fade counts while its track is pausing.
use Rattle.std.specs.Prelude.{◌≡◌, Bool, true, false, List, ℕ, ◌-◌, ◌<◌, get_or}
use Rattle.parameter.specs.declared.parameter.Parameter.{Parameter}
use Rattle.parameter.specs.Parameter.{new_raw_value}
use Rattle.scene.specs.declared.scene.Scene.{Scene}
use Rattle.accepted.specs.Lines.{absent_route_line}
use Rattle.mixer.specs.declared.sub.Track.{Track}
use Rattle.mixer.specs.declared.mixer.Mixer.{Mixer}
use Rattle.mixer.specs.Mixer.{state_of, parameter_of}
use Rattle.steady_mixer.specs.Steady.{is_pausing}

-- ---- a parameter

abbrev pub Settled : Parameter → Type 0
Settled p = p.stagnant ≡ false → new_raw_value p ≡ p.raw_value

-- ---- a track

pub record SettledTrack (t : Track) : Type 0 where
  pub volume : t.reached ≡ true → Settled t.volume
  pub fade : t.reached ≡ true → is_pausing t.playback.state ≡ true → Settled t.playback.volume_fade

-- ---- the mixer

abbrev pub route_reached : Scene → List Track → ℕ → Bool
route_reached s tracks r = (state_of tracks ((get_or s.routes r absent_route_line).track - 1)).reached

pub record SettledMixer (s : Scene) (m : Mixer) : Type 0 where
  pub main : Settled m.main_volume
  pub sends : (i : ℕ) → i < s.send_count → Settled (parameter_of m.sends i)
  pub tracks : (t : ℕ) → t < s.track_count → SettledTrack (state_of m.tracks t)
  pub routes : (r : ℕ) → r < s.route_count → route_reached s m.tracks r ≡ true → Settled (parameter_of m.routes r)
