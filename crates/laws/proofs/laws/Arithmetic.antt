-- Small facts of whole numbers and of tests that several crates use. Assumes nothing.
use mathlib.Core.Path.{◌≡◌, refl, sym, ap, ap₂, ◌∙◌}
use mathlib.Core.Bool.{Bool, true, false, ◌&&◌, ◌||◌}
use Prim.Native.Nat.{ℕ, ◌+◌, ◌-◌, ◌*◌, ◌^◌, ◌≤◌, ◌<◌}
use native.Mathlib.Nat.{le_of_lt, le_of_eq, le_of_suc-le-suc, lt_of_not-le, not-le_of_lt, mul_comm, mul-add, add-mul, mul-sub, eq-or-lt_of_le, le_dest}
use native.Mathlib.Omega.{arith}
use mathlib.Core.Logic.{inl, inr}
use lib.Dec.{T, ltb, eqb, ltb→lt, lt→ltb, eqb→eq, lit<}
use lib.Pow.{pow-lt, pow_mono}
use lib.Ieee.{Format, binary32, binary64, prec}
use lib.Ieee.Fits.{eq→eqb}

-- ---- powers of two

pub exponent_le : (k l : ℕ) → 2 ^ k ≤ 2 ^ l → k ≤ l
exponent_le k l h = le_of_suc-le-suc (lt_of_not-le (λ (g : l < k). not-le_of_lt (pow-lt g) h))

pub exponent_lt : (k l : ℕ) → 2 ^ k < 2 ^ l → k < l
exponent_lt k l h = lt_of_not-le (λ (g : l ≤ k). not-le_of_lt h (pow_mono g))

pub one_digit : (f : Format) → 1 < 2 ^ prec f
one_digit binary32 = lit< tt
one_digit binary64 = lit< tt

-- ---- differences

pub minus_times : (a b c : ℕ) → (a - b) * c ≡ a * c - b * c
minus_times a b c = mul_comm (a - b) c ∙ mul-sub c a b ∙ ap₂ (λ (x y : ℕ). x - y) (mul_comm c a) (mul_comm c b)

-- ---- products

-- a ≤ b and c ≤ d
pub rearranged : (a b c d : ℕ) → a ≤ b → c ≤ d → b * c + a * d ≤ a * c + b * d
rearranged a b c d h k =
    let l = le_dest h in
    let m = le_dest k in
    go a l.0 b c m.0 d (sym l.1) (sym m.1)
  where
    go : (a k b c l d : ℕ) → b ≡ a + k → d ≡ c + l → b * c + a * d ≤ a * c + b * d
    go a k b c l d p q =
        let x : b * c ≡ a * c + k * c = ap (λ (z : ℕ). z * c) p ∙ add-mul a k c in
        let y : b * d ≡ a * d + k * d = ap (λ (z : ℕ). z * d) p ∙ add-mul a k d in
        let z : k * d ≡ k * c + k * l = ap (λ (z : ℕ). k * z) q ∙ mul-add k c l in
        omega arith

-- ---- tests

pub or_l : (a b : Bool) → T a → T (a || b)
or_l true b t = tt
or_l false b t = absurd t

pub or_r : (a b : Bool) → T b → T (a || b)
or_r true b t = tt
or_r false b t = t

pub both_ways : (p q : Bool) → (T p → T q) → (T q → T p) → p ≡ q
both_ways true true f g = refl
both_ways true false f g = absurd (f tt)
both_ways false true f g = absurd (g tt)
both_ways false false f g = refl

-- a ≤ b as `le` of two floats asks it, and with the sides changed
pub or_le : (a b : ℕ) → T (ltb a b || (eqb a b && true)) → a ≤ b
or_le a b t = go (ltb a b) (ltb→lt a b) (eqb a b) (eqb→eq a b) t
  where
    go : (x : Bool) → (T x → a < b) → (y : Bool) → (T y → a ≡ b) → T (x || (y && true)) → a ≤ b
    go true h y k t = le_of_lt (h tt)
    go false h true k t = le_of_eq (k tt)
    go false h false k t = absurd t

pub or_ge : (a b : ℕ) → T (ltb b a || (eqb a b && true)) → b ≤ a
or_ge a b t = go (ltb b a) (ltb→lt b a) (eqb a b) (eqb→eq a b) t
  where
    go : (x : Bool) → (T x → b < a) → (y : Bool) → (T y → a ≡ b) → T (x || (y && true)) → b ≤ a
    go true h y k t = le_of_lt (h tt)
    go false h true k t = le_of_eq (sym (k tt))
    go false h false k t = absurd t

pub le_or : (a b : ℕ) → a ≤ b → T (ltb a b || (eqb a b && true))
le_or a b h = elim (eq-or-lt_of_le h) [ inl e ↦ or_r (ltb a b) (eqb a b && true) (yes (eqb a b) (eq→eqb e)) | inr l ↦ or_l (ltb a b) (eqb a b && true) (lt→ltb a b l) ]
  where
    yes : (b : Bool) → T b → T (b && true)
    yes true t = tt
    yes false t = absurd t
