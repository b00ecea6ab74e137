-- How many of the first n numbers a test picks, as a loop counts them: `for i in 0..n { count += usize::from(p(i)) }`. Assumes nothing.
use mathlib.Core.Path.{◌≡◌, refl, ap, ◌∙◌}
use mathlib.Core.Bool.{Bool, true, false}
use Prim.Native.Nat.{ℕ, zero, suc, ◌+◌, ◌≤◌, ◌<◌, zero-le}
use native.Mathlib.Nat.{le_refl}
use native.Mathlib.Numerals.{add-one}
use native.Mathlib.Decide.{ℕ_discrete}
use native.Mathlib.Omega.{arith}
use Rattle.laws.specs.Count.{counted, if_picked}

pub counted_zero : (p : ℕ → Bool) → counted p 0 ≡ 0
unfolding counted
counted_zero p = refl

pub counted_next : (p : ℕ → Bool) (n : ℕ) → counted p (n + 1) ≡ counted p n + if_picked (p n)
unfolding counted
counted_next p n = ap (counted p) (add-one n)

one_at_most : (b : Bool) → if_picked b ≤ 1
one_at_most true = le_refl 1
one_at_most false = zero-le

pub counted_le : (p : ℕ → Bool) (n : ℕ) → counted p n ≤ n
unfolding counted
counted_le p zero = le_refl 0
counted_le p (suc n) = omega (arith, counted_le p n, one_at_most (p n))

not_picked : (b : Bool) → if_picked b ≡ 0 → b ≡ false
not_picked true h = absurd (omega (arith, h))
not_picked false h = refl

-- none is picked where the count is 0
pub none_picked : (p : ℕ → Bool) (n : ℕ) → counted p n ≡ 0 → (i : ℕ) → i < n → p i ≡ false
unfolding counted
none_picked p zero h i l = absurd (omega (arith, l))
none_picked p (suc n) h i l = elim (ℕ_discrete i n) [
  | yes e ↦ ap p e ∙ not_picked (p n) (omega (arith, h))
  | no d ↦ none_picked p n (omega (arith, h)) i (omega (arith, l, d))
]

-- and where one is, the count is not 0
pub some_picked : (p : ℕ → Bool) (n : ℕ) → (counted p n ≡ 0 → ⊥) → ((i : ℕ) → i < n → p i ≡ false) → ⊥
unfolding counted
some_picked p zero h f = h refl
some_picked p (suc n) h f = some_picked p n (λ e. h (ap (λ (b : Bool). counted p n + if_picked b) (f n (le_refl (suc n))) ∙ omega (arith, e))) (λ i l. f i (omega (arith, l)))
