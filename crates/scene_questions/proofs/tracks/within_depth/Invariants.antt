use mathlib.Core.Path.{◌≡◌}
use Prim.Native.Nat.{◌-◌}
use Rattle.limits.specs.Limits.{track_depth}
use Rattle.scene_tables.specs.Tables.{table_at, width, tracks}
use Rattle.scene_questions.specs.Questions.{within_depth}
use Rattle.scene_questions.specs.Places.{rows_in}
use Rattle.scene_questions.proofs.tracks.within_depth.Given as goal

abbrev pub invariant-loop : goal.invariant-loop
invariant-loop l =
    let rows = rows_in l.values l.start (width (table_at tracks)) l.lines in
    within_depth (track_depth - l.counter) rows l.line ≡ within_depth track_depth rows l.track
