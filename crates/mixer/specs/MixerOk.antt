-- What a mixer keeps to while an accepted scene is rendered: every value stays in its range, so that what is read of it is a number of at most 20 dB.
use Rattle.std.specs.Prelude.{◌≡◌, ℕ, ◌*◌, ◌≤◌, ◌<◌, get_or, length}
use Rattle.limits.specs.Limits.{track_places, send_lines, route_lines, sound_lines}
use Rattle.clock.specs.WhenToStart.{ClocksWithin}
use Rattle.parameter.specs.Range.{ParameterIn, value_range}
use Rattle.playback.specs.Runs.{Runs}
use Rattle.scene.specs.declared.scene.Scene.{Scene}
use Rattle.accepted.specs.Lines.{sound_line}
use Rattle.mixer.specs.declared.sub.Track.{Track}
use Rattle.mixer.specs.declared.mixer.Mixer.{Mixer}
use Rattle.mixer.specs.Mixer.{state_of, parameter_of}

pub record TrackOk (clocks : ℕ) (t : Track) : Type 0 where
  pub volume : ParameterIn value_range t.volume
  pub playback : Runs clocks t.playback

-- after so many chunks
pub record MixerOk (s : Scene) (chunks : ℕ) (m : Mixer) : Type 0 where
  pub clock_count : m.clocks.count ≡ s.clock_count
  pub clocks : ClocksWithin (chunks * 1001) m.clocks
  pub main : ParameterIn value_range m.main_volume
  pub track_places : length m.tracks ≡ track_places
  pub send_places : length m.sends ≡ send_lines
  pub route_places : length m.routes ≡ route_lines
  pub sound_places : length m.played ≡ sound_lines
  pub tracks : (t : ℕ) → t < s.track_count → TrackOk s.clock_count (state_of m.tracks t)
  pub sends : (i : ℕ) → i < s.send_count → ParameterIn value_range (parameter_of m.sends i)
  pub routes : (r : ℕ) → r < s.route_count → ParameterIn value_range (parameter_of m.routes r)
  pub played : (k : ℕ) → k < s.sound_count → get_or m.played k 0 ≤ (sound_line s k).count
