use Rattle.std.proofs.Common.{◌≡◌}
use Rattle.laws.specs.Loop.{upto}
use Rattle.scene_questions.specs.Places.{stored}
use Rattle.scene.specs.Scene.{placing_step, all_plain}
use Rattle.scene.proofs.scene.placings_of.Given as goal

abbrev pub invariant-loop-i : goal.invariant-loop-i
invariant-loop-i l = l.out ≡ upto (placing_step (stored l.starts l.counts l.values)) l.i all_plain
