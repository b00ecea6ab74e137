use mathlib.Core.Path.{◌≡◌}
use Prim.Native.Nat.{◌≤◌}
use Rattle.laws.specs.Loop.{upto}
use Rattle.scene_questions.specs.Places.{stored}
use Rattle.muted_or_held.proofs.laws.Held.{or_more}
use Rattle.muted_or_held.proofs.held.pauses_and_resumes.Given as goal

abbrev pub invariant-loop-i : goal.invariant-loop-i
invariant-loop-i l = (l.n ≤ l.i) × (l.n ≡ upto (or_more (stored l.starts l.counts l.values) l.track) l.i 0)
