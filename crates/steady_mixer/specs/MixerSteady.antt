-- When a mixer stands still.
use Rattle.std.specs.Prelude.{Bool, ◌&&◌, List, ℕ, ◌-◌, ◌<◌, get_or}
use Rattle.laws.specs.DecibelRange.{ValueRange}
use Rattle.scene_tables.specs.Bytes.{every}
use Rattle.scene.specs.declared.scene.Scene.{Scene}
use Rattle.scene.specs.declared.scene.TrackLine.{TrackLine}
use Rattle.scene.specs.declared.scene.RouteLine.{RouteLine}
use Rattle.accepted.specs.Lines.{absent_track_line, absent_route_line}
use Rattle.parameter.specs.declared.parameter.Parameter.{Parameter}
use Rattle.mixer.specs.declared.sub.Track.{Track}
use Rattle.mixer.specs.declared.mixer.Mixer.{Mixer}
use Rattle.mixer.specs.Mixer.{state_of, parameter_of, live_above}
use Rattle.steady_mixer.specs.Steady.{Ahead, parameter_steady, steady_where, route_steady}

unfoldable pub steady_track : Ahead → List TrackLine → List Track → ℕ → Bool
steady_track h lines tracks t = steady_where h (state_of tracks t) (live_above tracks (get_or lines t absent_track_line).parent)

unfoldable pub steady_route : Ahead → List RouteLine → List Track → List Parameter → ℕ → Bool
steady_route h lines tracks routes r = route_steady h (parameter_of routes r) (state_of tracks ((get_or lines r absent_route_line).track - 1)).reached

unfoldable pub steady_send : Ahead → List Parameter → ℕ → Bool
steady_send h sends i = parameter_steady h (parameter_of sends i)

unfoldable pub mixer_steady : Ahead → Scene → Mixer → Bool
mixer_steady h s m =
    parameter_steady h m.main_volume
    && (every s.send_count (steady_send h m.sends)
    && (every s.track_count (steady_track h s.tracks m.tracks)
    && every s.route_count (steady_route h s.routes m.tracks m.routes)))

-- ---- what the code asks: the levels that it compares are numbers

abbrev pub ValueIn : Parameter → Type 0
ValueIn p = ValueRange p.previous_raw_value.0 × ValueRange p.raw_value.0

abbrev pub TrackIn : Track → Type 0
TrackIn t = ValueIn t.volume × ValueIn t.playback.volume_fade

pub record LevelsIn (s : Scene) (m : Mixer) : Type 0 where
  pub main : ValueIn m.main_volume
  pub sends : (i : ℕ) → i < s.send_count → ValueIn (parameter_of m.sends i)
  pub tracks : (t : ℕ) → t < s.track_count → TrackIn (state_of m.tracks t)
  pub routes : (r : ℕ) → r < s.route_count → ValueIn (parameter_of m.routes r)
