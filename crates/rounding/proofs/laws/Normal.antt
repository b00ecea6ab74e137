-- Laws of the numbers that are normal in both formats: which they are, by their size in units of f64's smallest value, and what they
-- are narrowed to. Assumes nothing.
use mathlib.Core.Path.{◌≡◌, sym, ap}
use mathlib.Core.Logic.{◌⊎◌, inl, inr}
use mathlib.Core.Bool.{true, false, not}
use Prim.Native.Nat.{ℕ, ◌+◌, ◌-◌, ◌*◌, ◌/◌, ◌%◌, ◌^◌, ◌≤◌, ◌<◌}
use native.Mathlib.Nat.{le_trans, le_of_eq, lt_of_lt_of_le, lt_of_le_of_lt, not-le_of_lt, zero-add, le-div_iff_mul-le, div-lt_iff_lt-mul}
use native.Mathlib.Omega.{arith}
use lib.Dec.{T}
use lib.Pow.{pow-add, pow_pos, pow_mono}
use lib.Ieee.{Float, nan, inf, fin, binary32, binary64, up, down, size, fits, is_nan, to_bits}
use lib.Ieee.Digits.{size-lt, size-le, size_reaches}
use Rattle.rounding.proofs.laws.Rounding.{size_gt}
use Rattle.laws.specs.FloatOrder.{Number, plus, minus, magnitude}
use Rattle.laws.proofs.laws.FloatOrder.{one_sided}
use Rattle.laws.specs.FloatRound.{Between}
use Rattle.laws.proofs.laws.FloatRound.{units_least, units_most}
use Rattle.rounding.specs.Nearest.{nearest_quotient}
use Rattle.rounding.specs.Narrow.{narrowed, narrowed_bits, IsNormal}
use Rattle.rounding.proofs.laws.NarrowBits.{narrowed_at_once, narrowed_from_bits}

-- ---- which numbers are normal

-- the bits of n units: the field counts the digits that are cut, and 53 are left
abbrev cut : ℕ → ℕ
cut n = size n - 53

bits_least : (n : ℕ) → 2 ^ 948 ≤ n → 897 * 2 ^ 52 ≤ cut n * 2 ^ 52 + n / 2 ^ cut n
bits_least n h = go (size n) (size_gt n 948 h) (size_reaches n (52 + cut n))
  where
    go : (z : ℕ) → 948 < z → (52 + (z - 53) < z → 2 ^ (52 + (z - 53)) ≤ n) → 897 * 2 ^ 52 ≤ (z - 53) * 2 ^ 52 + n / 2 ^ (z - 53)
    go z l r =
        let q : 2 ^ 52 ≤ n / 2 ^ (z - 53) = (le-div_iff_mul-le (pow_pos (z - 53))).1 (le_trans (le_of_eq (sym (pow-add 2 52 (z - 53)))) (r (omega arith))) in
        omega arith

bits_most : (n : ℕ) → n < 2 ^ 1202 → cut n * 2 ^ 52 + n / 2 ^ cut n < 1151 * 2 ^ 52
bits_most n h = go (size n) (size-le n 1202 h) (size-lt n)
  where
    go : (z : ℕ) → z ≤ 1202 → n < 2 ^ z → (z - 53) * 2 ^ 52 + n / 2 ^ (z - 53) < 1151 * 2 ^ 52
    go z u r =
        let far : z ≤ 53 + (z - 53) = omega arith in
        let q : n / 2 ^ (z - 53) < 2 ^ 53 = (div-lt_iff_lt-mul (pow_pos (z - 53))).1 (lt_of_lt_of_le r (le_trans (pow_mono far) (le_of_eq (pow-add 2 53 (z - 53))))) in
        omega arith

-- 2 ^ -126 to 2 ^ 128 in units of 2 ^ -1074: 2 ^ -10 to 16 lies well inside
pub is_normal : (x : Float) → 2 ^ 948 ≤ plus binary64 x → plus binary64 x < 2 ^ 1202 → IsNormal x
unfolding plus magnitude to_bits
is_normal nan h k = absurd (not-le_of_lt (pow_pos 948) h)
is_normal (inf s) h k = absurd (not-le_of_lt (pow_pos 948) h)
is_normal (fin true m e) h k = absurd (not-le_of_lt (pow_pos 948) h)
is_normal (fin false m e) h k =
    let n = m * up e * 2 ^ 1074 / down e in
    let bare = ap (λ (z : ℕ). z + n / 2 ^ cut n) (sym (zero-add (cut n * 2 ^ 52))) in
    record { least = le_trans (bits_least n h) (le_of_eq bare); most = lt_of_le_of_lt (le_of_eq (sym bare)) (bits_most n k) }

-- the same of what lies between two numbers
pub between_normal : (lo hi x : Float) → Number binary64 lo → Number binary64 hi → 2 ^ 948 ≤ plus binary64 lo → plus binary64 hi < 2 ^ 1202 → Between binary64 lo hi x → IsNormal x
between_normal lo hi x N M l h b =
    is_normal x
    (le_trans l (ordered (plus binary64 lo) (plus binary64 x) (minus binary64 x) (minus binary64 lo) (one_sided binary64 lo) (units_least binary64 lo hi x N M b)))
    (lt_of_le_of_lt (ordered (plus binary64 x) (plus binary64 hi) (minus binary64 hi) (minus binary64 x) (one_sided binary64 x) (units_most binary64 lo hi x N M b)) h)
  where
    ordered : (p q m n : ℕ) → (p ≡ 0) ⊎ (n ≡ 0) → p + m ≤ q + n → p ≤ q
    ordered p q m n (inl e) g = omega arith
    ordered p q m n (inr e) g = omega arith

-- ---- what they are narrowed to

pub normal_no_nan : (x : Float) → IsNormal x → T (not (is_nan x))
unfolding is_nan to_bits
normal_no_nan nan I = omega (arith, I.most)
normal_no_nan (inf s) I = tt
normal_no_nan (fin s m e) I = tt

module _ (x : Float) (F : T (fits binary64 x)) (I : IsNormal x) where
  pub normal_written : nearest_quotient (to_bits binary64 x) (2 ^ 29) ≡ to_bits binary32 (narrowed x) + 896 * 2 ^ 23
  normal_written =
      let b = to_bits binary64 x in
      let e : b % 2 ^ 63 ≡ b = omega arith in
      omega (arith, narrowed_at_once b I.least I.most, narrowed_from_bits x F (normal_no_nan x I), ap (λ (y : ℕ). narrowed_bits y) e)
