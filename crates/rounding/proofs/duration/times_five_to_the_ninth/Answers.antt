-- `times_five_to_the_ninth` meets its contract: the two halves make the product. Assumes nothing.
use mathlib.Core.Path.{◌≡◌, refl, sym, ap, ◌∙◌}
use Prim.Native.Nat.{ℕ, zero, suc, ◌+◌, ◌*◌, ◌/◌, ◌%◌, ◌^◌, ◌<◌}
use native.Mathlib.Nat.{mod-eq_of_lt}
use native.Mathlib.Omega.{arith}
use Rattle.rounding.specs.Nearest.{sticky, sticky_quotient}
use Rattle.rounding.proofs.duration.times_five_to_the_ninth.Goals as goal
use Rattle.rounding.proofs.duration.times_five_to_the_ninth.Goals.{then-rest-eq0, else-rest-eq0}

-- by the test of the cut digits
none_cut : (r v : ℕ) → r ≡ 0 → v ≡ 0 → v ≡ sticky r
none_cut r v e f = f ∙ sym (ap sticky e)

some_cut : (r v : ℕ) → (r ≡ 0 → ⊥) → v ≡ 1 → v ≡ sticky r
some_cut zero v h f = absurd (h refl)
some_cut (suc r) v h f = f

module _ (d v : ℕ) (D : d < 2 ^ 53) (e : v ≡ sticky (d % 2 ^ 32 * 1953125 % 2 ^ 32 % 2 ^ 12)) where
  whole : d * 5 ^ 9 / 2 ^ 12 ≡ (d / 2 ^ 32 * 1953125 + d % 2 ^ 32 * 1953125 / 2 ^ 32) * 2 ^ 20 + d % 2 ^ 32 * 1953125 % 2 ^ 32 / 2 ^ 12
  whole = omega arith

  part : d % 2 ^ 32 * 1953125 % 2 ^ 32 % 2 ^ 12 ≡ d * 5 ^ 9 % 2 ^ 12
  part = omega (arith, whole)

  computed : (d / 2 ^ 32 * 1953125 + d % 2 ^ 32 * 1953125 / 2 ^ 32) * 2 ^ 21 % 2 ^ 64 + d % 2 ^ 32 * 1953125 % 2 ^ 32 / 2 ^ 12 * 2 % 2 ^ 64 + v ≡ sticky_quotient (d * 5 ^ 9) (2 ^ 12)
  computed =
      let h = d / 2 ^ 32 * 1953125 + d % 2 ^ 32 * 1953125 / 2 ^ 32 in
      let r = d % 2 ^ 32 * 1953125 % 2 ^ 32 / 2 ^ 12 in
      let a : h * 2 ^ 21 % 2 ^ 64 ≡ h * 2 ^ 21 = mod-eq_of_lt (omega arith) in
      let b : r * 2 % 2 ^ 64 ≡ r * 2 = mod-eq_of_lt (omega arith) in
      let t : v ≡ sticky (d * 5 ^ 9 % 2 ^ 12) = e ∙ ap sticky part in
      omega (arith, whole)

pub returns : goal.returns
returns c =
    let d = c.args.digits in
    let v = c.if-rest-eq0.sticky in
    let r = d % 2 ^ 32 * 1953125 % 2 ^ 32 % 2 ^ 12 in
    computed d v c.requires (elim c.if-rest-eq0.branch [ then-rest-eq0 w ↦ none_cut r v w.if-rest-eq0.true w.sticky-is | else-rest-eq0 w ↦ some_cut r v w.if-rest-eq0.false w.sticky-is ])
