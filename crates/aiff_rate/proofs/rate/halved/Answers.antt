-- `halved` meets its contract: at each turn the digits and their power are the same number. Assumes nothing.
use mathlib.Core.Path.{◌≡◌, refl, ap, ◌∙◌}
use Prim.Native.Nat.{ℕ}
use native.Mathlib.Omega.{arith}
use Rattle.aiff_rate.specs.Rate.{unit, whole_of}
use Rattle.aiff_rate.proofs.laws.Whole.{half_turn, odd_none}
use borrow.Author.Rules.{rules}
use Rattle.aiff_rate.proofs.rate.halved.Goals as goal

pub loop-at-init : goal.loop-at-init
loop-at-init c = (search rules, refl)

pub returns-then-rest-ne0 : goal.returns-then-rest-ne0
returns-then-rest-ne0 c = odd_none unit c.loop-at.at c.loop-at.rest (search rules) (search rules) ∙ c.loop-at.invariant.1

pub loop-at-preserved : goal.loop-at-preserved
loop-at-preserved c = (search rules, half_turn unit c.loop-at.at c.loop-at.rest (search rules) ∙ c.loop-at.invariant.1)

pub returns : goal.returns
returns c =
    let e : unit ≡ c.loop-at.at = omega arith in
    ap (λ (k : ℕ). whole_of unit k c.loop-at.rest) e ∙ c.loop-at.invariant.1
