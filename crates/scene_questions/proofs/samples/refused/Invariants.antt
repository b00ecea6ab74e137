use mathlib.Core.Path.{◌≡◌}
use Rattle.laws.specs.Count.{counted}
use Rattle.scene_questions.proofs.laws.Samples.{is_refused}
use Rattle.scene_questions.proofs.samples.refused.Given as goal

abbrev pub invariant-loop-x : goal.invariant-loop-x
invariant-loop-x l = l.count ≡ counted (is_refused l.samples) l.x-index
