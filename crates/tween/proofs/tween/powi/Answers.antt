-- `tween::powi` meets its contract. The loop's invariant: with as many bits to go as the rest of the power has or more, the definition gives from the
-- values at hand what it gives from the start. The measure is the rest. Assumes nothing.
use mathlib.Core.Path.{◌≡◌, refl, sym, ap, ◌∙◌}
use Prim.Native.Nat.{◌%◌}
use native.Mathlib.Omega.{arith}
use lib.Dec.{eqb}
use lib.Ieee.{binary64, mul, of_bits}
use borrow.Author.Tests.{eq-eqb, ne_eqb}
use Rattle.laws.proofs.laws.Choice.{cond-true, cond-false}
use Rattle.tween.specs.Tween.{powi_from, powi}
use Rattle.tween.proofs.tween.powi.Invariants.{done, turn}
use Rattle.tween.proofs.tween.powi.Goals as goal
use Rattle.tween.proofs.tween.powi.Goals.{then-left-eq1, else-left-eq1}

pub loop-left-init : goal.loop-left-init
unfolding powi of_bits
loop-left-init c = (32, omega (arith, c.ranges.power), refl)

pub loop-left-preserved : goal.loop-left-preserved
loop-left-preserved c =
    turn c.args.x c.args.power c.loop-left.result c.loop-left.base c.loop-left.left c.if-left-eq1.result (omega arith) c.loop-left.invariant
    (elim c.if-left-eq1.branch [
      | then-left-eq1 w ↦ w.result-is ∙ sym (cond-true (eqb (c.loop-left.left % 2) 1) (mul binary64 c.loop-left.result c.loop-left.base) c.loop-left.result (eq-eqb (c.loop-left.left % 2) 1 w.if-left-eq1.true))
      | else-left-eq1 w ↦ w.result-is ∙ sym (cond-false (eqb (c.loop-left.left % 2) 1) (mul binary64 c.loop-left.result c.loop-left.base) c.loop-left.result (ne_eqb (c.loop-left.left % 2) 1 w.if-left-eq1.false))
    ])

pub returns : goal.returns
returns c =
    let zero_left : c.loop-left.left ≡ 0 = omega arith in
    sym (done c.loop-left.invariant.0 c.loop-left.result c.loop-left.base) ∙ ap (powi_from c.loop-left.invariant.0 c.loop-left.result c.loop-left.base) (sym zero_left) ∙ c.loop-left.invariant.2
