use mathlib.Core.Path.{◌≡◌, refl, ap, ◌∙◌}
use mathlib.Core.Bool.{cond}
use Prim.Native.Nat.{ℕ, zero, suc, ◌/◌, ◌%◌, ◌^◌, ◌<◌}
use native.Mathlib.Nat.{two-pow-succ}
use native.Mathlib.Omega.{arith}
use lib.Dec.{eqb}
use lib.Ieee.{Float, binary64, mul}
use Rattle.tween.specs.Tween.{powi_from, powi}
use Rattle.tween.proofs.tween.powi.Given as goal

abbrev pub Left : Float → ℕ → Float → Float → ℕ → Type 0
Left x power result base left = (bits : ℕ) × (left < 2 ^ bits) × (powi_from bits result base left ≡ powi x power)

-- with nothing left of the power the result stands
pub done : (bits : ℕ) (result base : Float) → powi_from bits result base 0 ≡ result
unfolding powi_from
done zero result base = refl
done (suc bits) result base = done bits result (mul binary64 base base)

pub turn : (x : Float) (power : ℕ) (result base : Float) (left : ℕ) (next : Float) → 0 < left → Left x power result base left
    → next ≡ cond (eqb (left % 2) 1) (mul binary64 result base) result → Left x power next (mul binary64 base base) (left / 2)
turn x power result base left next h (bits, few, same) e = go bits few same
  where
    go : (bits : ℕ) → left < 2 ^ bits → powi_from bits result base left ≡ powi x power → Left x power next (mul binary64 base base) (left / 2)
    go zero few same = absurd (omega arith)
    go (suc bits) few same =
        (bits, omega (arith, two-pow-succ bits), ap (λ (z : Float). powi_from bits z (mul binary64 base base) (left / 2)) e ∙ unfold powi_from in same)

abbrev pub invariant-loop-left : goal.invariant-loop-left
invariant-loop-left l = Left l.x l.power l.result l.base l.left

abbrev pub decreases-loop-left : goal.decreases-loop-left
decreases-loop-left l = l.left
