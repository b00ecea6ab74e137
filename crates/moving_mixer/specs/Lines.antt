-- What moving a mixer asks of a scene: the lines that tracks and routes name are there.
use Rattle.std.specs.Prelude.{ℕ, ◌<◌, ◌≤◌, List, get_or}
use Rattle.limits.specs.Limits.{track_places, track_lines, send_lines, route_lines}
use Rattle.scene.specs.declared.scene.Scene.{Scene}
use Rattle.scene.specs.declared.scene.TrackLine.{TrackLine}
use Rattle.scene.specs.declared.scene.RouteLine.{RouteLine}
use Rattle.accepted.specs.Lines.{absent_track_line, absent_route_line}
use Rattle.accepted.specs.SceneOk.{Names}

-- of the first `count` lines
abbrev pub Below : ℕ → List TrackLine → Type 0
Below count lines = (t : ℕ) → t < count → (get_or lines t absent_track_line).parent ≤ track_places

abbrev pub Named : ℕ → List RouteLine → Type 0
Named count lines = (r : ℕ) → r < count → Names track_places (get_or lines r absent_route_line).track

pub record Lines (s : Scene) : Type 0 where
  pub tracks : s.track_count ≤ track_lines
  pub sends : s.send_count ≤ send_lines
  pub routes : s.route_count ≤ route_lines
  pub below : Below s.track_count s.tracks
  pub named : Named s.route_count s.routes
