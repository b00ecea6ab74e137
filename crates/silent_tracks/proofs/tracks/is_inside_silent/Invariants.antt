use mathlib.Core.Path.{◌≡◌}
use Prim.Native.Nat.{◌-◌}
use Rattle.scene_questions.specs.Places.{stored}
use Rattle.noninterference.specs.Removed.{inside_within, inside}
use Rattle.silent_tracks.specs.Silence.{muted_or_held}
use Rattle.silent_tracks.proofs.tracks.is_inside_silent.Given as goal

abbrev pub invariant-loop : goal.invariant-loop
invariant-loop l =
    let ts = stored l.starts l.counts l.values in
    inside_within (l.line - l.counter) ts (muted_or_held ts) l.reached ≡ inside ts (muted_or_held ts) l.line
