-- What is asked of the listener and of the placings before a scene is made of them: the ranges that a level at a distance is defined for. An
-- accepted file has them, by questions 3 to 5 (`placings_ok` of `accepted`).
use Rattle.std.specs.Prelude.{ℕ, ◌<◌, ◌≤◌, List, [], length, slice_index_or}
use Rattle.limits.specs.Limits.{track_lines}
use Rattle.spatial.specs.Spatial.{PositionIn, DistancesIn}
use Rattle.scene_tables.specs.Tables.{natural, listener, placings, placing_column}
use Rattle.scene_questions.specs.Questions.{Tables, rows_at, field}
use Rattle.scene.specs.Scene.{listener_of, position_of, distances_of}

abbrev pub ListenersOk : List (List ℕ) → Type 0
ListenersOk rows = (i : ℕ) → i < length rows → PositionIn (listener_of (slice_index_or rows i []))

pub record PlacingOk (row : List ℕ) : Type 0 where
  pub track : (1 ≤ natural (field row placing_column.track)) × (natural (field row placing_column.track) ≤ track_lines)
  pub position : PositionIn (position_of row)
  pub distances : DistancesIn (distances_of row)

pub record PlacingsOk (ts : Tables) : Type 0 where
  pub listeners : ListenersOk (rows_at ts listener)
  pub lines : (i : ℕ) → i < length (rows_at ts placings) → PlacingOk (slice_index_or (rows_at ts placings) i [])
