-- The root of an f32 is never in the middle of two f32 that stand side by side: twice the middle is an odd number of 25 digits times a power of two, its square has an odd
-- factor of 49 digits at least, or is odd itself, and four times an f32 is neither. Assumes nothing.
use mathlib.Core.Path.{◌≡◌, sym, ap, ◌∙◌}
use mathlib.Core.Logic.{inl, inr}
use Prim.Native.Nat.{ℕ, suc, ◌+◌, ◌-◌, ◌*◌, ◌^◌, ◌≤◌, ◌<◌}
use native.Mathlib.Nat.{le_trans, le_of_eq, lt_of_lt_of_le, not-le_of_lt, mul-le-mul, mul-le-mul_left, mul-one, mul_assoc, mul_left_comm, eq_of_mul-eq-mul_right, sub-add_cancel, pow-succ'}
use native.Mathlib.Omega.{arith}
use lib.Dec.{lit≤}
use lib.Pow.{pow-add, pow_pos}
use lib.Ieee.{binary32}
use Rattle.laws.proofs.laws.FloatOrder.{OnGrid}
use Rattle.laws.proofs.laws.FloatRound.{below_or_not}
use Rattle.root.specs.Root.{units}
use Rattle.root.proofs.laws.Patterns.{Next}

-- the powers of two on both sides taken off
taken : (D d a b : ℕ) → a ≤ b → D * 2 ^ a ≡ d * 2 ^ b → D ≡ d * 2 ^ (b - a)
taken D d a b l e =
    eq_of_mul-eq-mul_right (2 ^ a) (pow_pos a) D (d * 2 ^ (b - a))
    (e ∙ ap (λ (z : ℕ). d * 2 ^ z) (sym (sub-add_cancel l)) ∙ ap (λ (z : ℕ). d * z) (pow-add 2 (b - a) a) ∙ sym (mul_assoc d (2 ^ (b - a)) (2 ^ a)))

odd_even : (m n : ℕ) → (2 * m + 1) * (2 * m + 1) ≡ 2 * n → ⊥
odd_even m n e = parity (m * m) m n (sym (square m) ∙ e)
  where
    square : (m : ℕ) → (2 * m + 1) * (2 * m + 1) ≡ 4 * (m * m) + 4 * m + 1
    square m = omega arith

    parity : (s m n : ℕ) → 4 * s + 4 * m + 1 ≡ 2 * n → ⊥
    parity s m n e = omega arith

-- an odd square times 2 ^ (p + p), and d times 2 ^ (q + 151), where the square is above d if p is above 0
apart : (m d p q : ℕ) → (0 < p → d < (2 * m + 1) * (2 * m + 1)) → (2 * m + 1) * (2 * m + 1) * 2 ^ (p + p) ≡ d * 2 ^ (q + 151) → ⊥
apart m d p q large e = elim (below_or_not (p + p) (q + 151)) [
  | inl l ↦
      let c : q + 151 - (p + p) ≡ suc (q + 150 - (p + p)) = omega arith in
      let t : (2 * m + 1) * (2 * m + 1) ≡ d * 2 ^ (q + 151 - (p + p)) = taken ((2 * m + 1) * (2 * m + 1)) d (p + p) (q + 151) (omega arith) e in
      odd_even m (d * 2 ^ (q + 150 - (p + p))) (t ∙ ap (λ (z : ℕ). d * 2 ^ z) c ∙ ap (λ (z : ℕ). d * z) (pow-succ' 2 (q + 150 - (p + p))) ∙ mul_left_comm d 2 (2 ^ (q + 150 - (p + p))))
  | inr g ↦
      let t : d ≡ (2 * m + 1) * (2 * m + 1) * 2 ^ (p + p - (q + 151)) = taken d ((2 * m + 1) * (2 * m + 1)) (q + 151) (p + p) g (sym e) in
      not-le_of_lt (large (omega arith)) (le_trans (le_of_eq (sym (mul-one ((2 * m + 1) * (2 * m + 1))))) (le_trans (mul-le-mul_left ((2 * m + 1) * (2 * m + 1)) (pow_pos (p + p - (q + 151)))) (le_of_eq (sym t))))
]

pub no_tie : (v k : ℕ) → OnGrid binary32 v → Next k → (units k + units (suc k)) * (units k + units (suc k)) ≡ 4 * (v * 2 ^ 149) → ⊥
no_tie v k g n e =
    let m = n.digits in
    let p = n.place in
    let d = g.digits in
    let q = g.place in
    apart m d p q (λ h. large m d (n.normal h) g.few)
    (ap (λ (z : ℕ). (2 * m + 1) * (2 * m + 1) * z) (pow-add 2 p p)
    ∙ sym (square m (2 ^ p))
    ∙ ap (λ (z : ℕ). z * z) (sym (sum m (2 ^ p) (units k) (units (suc k)) n.this n.next))
    ∙ e
    ∙ ap (λ (z : ℕ). 4 * (z * 2 ^ 149)) g.is
    ∙ four d (2 ^ q) (2 ^ 149)
    ∙ ap (λ (z : ℕ). d * z) (sym (pow-add 2 q 151)))
  where
    sum : (m p a b : ℕ) → a ≡ m * p → b ≡ suc m * p → a + b ≡ (2 * m + 1) * p
    sum m p a b x y = rw (x, y) (join m p)
      where
        join : (m p : ℕ) → m * p + suc m * p ≡ (2 * m + 1) * p
        join m p = omega arith

    square : (m p : ℕ) → (2 * m + 1) * p * ((2 * m + 1) * p) ≡ (2 * m + 1) * (2 * m + 1) * (p * p)
    square m p = omega arith

    four : (d q u : ℕ) → 4 * (d * q * u) ≡ d * (q * (u * 4))
    four d q u = omega arith

    large : (m d : ℕ) → 2 ^ 23 ≤ m → d < 2 ^ 24 → d < (2 * m + 1) * (2 * m + 1)
    large m d l h = lt_of_lt_of_le h (le_trans (lit≤ tt) (mul-le-mul (more m l) (more m l)))
      where
        more : (m : ℕ) → 2 ^ 23 ≤ m → 2 ^ 24 ≤ 2 * m + 1
        more m l = omega arith
