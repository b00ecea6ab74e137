use mathlib.Core.Path.{◌≡◌}
use Prim.Native.Nat.{◌-◌}
use lib.Dec.{eqb}
use Rattle.scene_questions.specs.Places.{stored}
use Rattle.noninterference.specs.Removed.{inside_within, inside}
use Rattle.muted_or_held.proofs.below.is_inside.Given as goal

abbrev pub invariant-loop : goal.invariant-loop
invariant-loop l =
    let ts = stored l.starts l.counts l.values in
    inside_within (l.line - l.counter) ts (eqb l.track) l.reached ≡ inside ts (eqb l.track) l.line
