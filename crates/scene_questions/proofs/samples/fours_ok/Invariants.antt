use mathlib.Core.Path.{◌≡◌}
use mathlib.Core.Bool.{true}
use Prim.Native.Nat.{◌*◌}
use lib.ListN.{get_or}
use lib.Ieee.{nan}
use Rattle.scene_tables.specs.Bytes.{every}
use Rattle.scene_questions.specs.Questions.{sample_ok}
use Rattle.scene_questions.proofs.samples.fours_ok.Given as goal

abbrev pub invariant-loop-i : goal.invariant-loop-i
invariant-loop-i l = every (l.i * 4) (λ i. sample_ok (get_or l.samples i nan)) ≡ true
