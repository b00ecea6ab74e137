-- The whole part of an f64 of 1 or more, from its bits: the digits, with the leading one, without those below the point.
-- Assumes nothing.
use mathlib.Core.Path.{◌≡◌, refl, sym, ap, ◌∙◌, subst}
use mathlib.Core.Logic.{inl, inr}
use mathlib.Core.Bool.{Bool, true, false, not, true≢false}
use Prim.Native.Nat.{ℕ, ◌+◌, ◌-◌, ◌*◌, ◌/◌, ◌%◌, ◌^◌, ◌≤◌, ◌<◌}
use native.Mathlib.Nat.{le_trans, le_of_eq, lt_of_lt_of_le, lt_of_le_of_lt, lt_irrefl, eq-zero-or-pos, mul_comm, mul_assoc, mul_right_comm, mul-le-mul_right, mul-lt-mul_of_pos_right, le_of_mul-le-mul_right, lt_of_mul-lt-mul_right, div-eq_of_lt}
use native.Mathlib.Decide.{dec_lt}
use native.Mathlib.Omega.{arith}
use lib.Dec.{T, leb, ltb→lt, nleb→lt, lit≤}
use lib.Pow.{pow-add, pow_pos, shl_lt}
use lib.Ieee.{Float, nan, inf, fin, binary64, up, down, lt, fits, is_nan, of_bits, to_bits, of_int, to_unsigned}
use lib.Ieee.Bits.{of_bits-to_bits, to_bits-lt}
use lib.Ieee.Fits.{down_pos}
use lib.Ieee.Exact.{HasValue}
use lib.Ieee.Nearest.{div_same}
use lib.Ieee.Scale.{finite}
use borrow.Author.Tests.{lt-ltb, ltb-true, ltb-false}
use Rattle.laws.proofs.laws.Arithmetic.{exponent_lt}
use Rattle.laws.specs.Float.{whole}
use Rattle.laws.proofs.laws.Choice.{false-T}
use Rattle.rounding.proofs.laws.Fields.{field_zero, field_value, field_top}
use Rattle.decibels.proofs.laws.Position.{cut}

-- ---- below 1

pub below_one : (x : Float) → lt x (whole 1) ≡ true → 0 ≡ to_unsigned 64 x
unfolding lt of_int to_unsigned
below_one nan h = refl
below_one (inf true) h = refl
below_one (inf false) h = absurd (true≢false (sym h))
below_one (fin true m e) h = refl
below_one (fin false m e) h =
    let l : m * up e < down e = omega (arith, ltb-true (m * up e * 1) (1 * down e) h) in
    let z : m * up e / down e ≡ 0 = div-eq_of_lt l in
    omega arith

-- ---- 1 or more, and below 2 ^ 53

pub record Cuttable (x : Float) : Type 0 where
  pub least : lt x (whole 1) ≡ false
  pub most : T (lt x (whole (2 ^ 53)))

cuttable_finite : (x : Float) → Cuttable x → T (finite x)
unfolding lt of_int
cuttable_finite nan R = absurd R.most
cuttable_finite (inf true) R = absurd (true≢false R.least)
cuttable_finite (inf false) R = absurd R.most
cuttable_finite (fin s m e) R = tt

pub cuttable_no_nan : (x : Float) → Cuttable x → T (not (is_nan x))
unfolding is_nan
cuttable_no_nan nan R = absurd (cuttable_finite nan R)
cuttable_no_nan (inf s) R = tt
cuttable_no_nan (fin s m e) R = tt

-- the same of the fraction a / c that it equals
record Bounds (s : Bool) (a c : ℕ) : Type 0 where
  sign : s ≡ false
  least : c ≤ a
  most : a < 2 ^ 53 * c

bounds : (x : Float) (s : Bool) (a c : ℕ) → 0 < c → HasValue x s a c → Cuttable x → Bounds s a c
unfolding lt of_int
bounds nan s a c C v R = absurd v
bounds (inf t) s a c C v R = absurd v
bounds (fin true m e) s a c C v R =
    let D = down_pos e in
    absurd (true≢false (sym (lt-ltb 0 (m * up e * 1 + 1 * down e) (omega arith)) ∙ R.least))
bounds (fin false m e) s a c C v R =
    let l : down e ≤ m * up e = omega (arith, ltb-false (m * up e * 1) (1 * down e) R.least) in
    let u : m * up e < 2 ^ 53 * down e = omega (arith, ltb→lt (m * up e * 1) (1 * 2 ^ 53 * down e) R.most) in
    record {
      sign = sym v.0;
      least = le_of_mul-le-mul_right (le_trans (le_of_eq (mul_comm c (down e))) (le_trans (mul-le-mul_right c l) (le_of_eq v.1))) (down_pos e);
      most = lt_of_mul-lt-mul_right (down e) (lt_of_le_of_lt (le_of_eq (sym v.1)) (lt_of_lt_of_le (mul-lt-mul_of_pos_right u C) (le_of_eq (mul_right_comm (2 ^ 53) (down e) c))));
    }

-- ---- from the digits d, of which l - y are below the point

module _ (x : Float) (s : Bool) (d y l : ℕ) (v : HasValue x s (d * 2 ^ y) (2 ^ l)) (R : Cuttable x) where
  known : Bounds s (d * 2 ^ y) (2 ^ l)
  known = bounds x s (d * 2 ^ y) (2 ^ l) (pow_pos l) v R

  -- not below 1: of k digits one at least is above the point
  above : (k : ℕ) → d < 2 ^ k → l < k + y
  above k h = exponent_lt l (k + y) (lt_of_le_of_lt known.least (shl_lt k y h))

  -- below 2 ^ 53: all 53 digits reach down to the point
  within : 2 ^ 52 ≤ d → y ≤ l
  within h =
      let g : 52 + y < 53 + l =
      exponent_lt (52 + y) (53 + l) (lt_of_le_of_lt (le_trans (le_of_eq (pow-add 2 52 y)) (mul-le-mul_right (2 ^ y) h)) (lt_of_lt_of_le known.most (le_of_eq (sym (pow-add 2 53 l))))) in
      omega arith

  cut_digits : y ≤ l → d / 2 ^ (l - y) ≡ to_unsigned 64 x
  cut_digits h =
      let j : l - y + y ≡ l = omega arith in
      let p : 2 ^ l ≡ 2 ^ y * 2 ^ (l - y) = ap (λ (z : ℕ). 2 ^ z) (sym j) ∙ pow-add 2 (l - y) y ∙ mul_comm (2 ^ (l - y)) (2 ^ y) in
      div_same d (2 ^ (l - y)) (d * 2 ^ y) (2 ^ l) (pow_pos (l - y)) (pow_pos l) (ap (λ (z : ℕ). d * z) p ∙ sym (mul_assoc d (2 ^ y) (2 ^ (l - y))))
      ∙ sym (cut x (d * 2 ^ y) (2 ^ l) (subst (λ (t : Bool). HasValue x t (d * 2 ^ y) (2 ^ l)) known.sign v) (pow_pos l) known.most)

-- ---- from the bits

pub record Whole (x : Float) (b : ℕ) : Type 0 where
  pub least : 1023 ≤ b / 2 ^ 52
  pub most : b / 2 ^ 52 ≤ 1075
  pub is : (b % 2 ^ 52 + 2 ^ 52) / 2 ^ (1075 - b / 2 ^ 52) ≡ to_unsigned 64 x

of_field : (x : Float) (b f : ℕ) → b < 2 ^ 64 → b % 2 ^ 63 / 2 ^ 52 ≡ f → 0 < f → HasValue x (leb (2 ^ 63) b) ((2 ^ 52 + b % 2 ^ 52) * 2 ^ (f - 1)) (2 ^ 1074) → Cuttable x → Whole x b
of_field x b f B E P v R =
    let d = 2 ^ 52 + b % 2 ^ 52 in
    let s = leb (2 ^ 63) b in
    let w : f - 1 ≤ 1074 = within x s d (f - 1) 1074 v R (omega arith) in
    let u : 1074 < 53 + (f - 1) = above x s d (f - 1) 1074 v R 53 (omega arith) in
    let n : b < 2 ^ 63 = nleb→lt (2 ^ 63) b (false-T s (known x s d (f - 1) 1074 v R).sign) in
    let e : b / 2 ^ 52 ≡ f = omega arith in
    let k : 1075 - b / 2 ^ 52 ≡ 1074 - (f - 1) = omega arith in
    let t : b % 2 ^ 52 + 2 ^ 52 ≡ d = omega arith in
    record {
      least = omega arith;
      most = omega arith;
      is = ap (λ (z : ℕ). z / 2 ^ (1075 - b / 2 ^ 52)) t ∙ ap (λ (z : ℕ). d / 2 ^ z) k ∙ cut_digits x s d (f - 1) 1074 v R w;
    }

module _ (x : Float) (F : T (fits binary64 x)) (R : Cuttable x) where
  abbrev b : ℕ
  b = to_bits binary64 x

  abbrev field : ℕ
  field = b % 2 ^ 63 / 2 ^ 52

  back : of_bits binary64 b ≡ x
  back = of_bits-to_bits binary64 x F

  -- a field of 0 is far below 1, and the highest one is no number's
  some : 0 < field
  some = elim (eq-zero-or-pos field) [
    | inl z ↦
        absurd
        (lt_irrefl 1074
        (lt_of_lt_of_le
        (above x (leb (2 ^ 63) b) (b % 2 ^ 52) 0 1074 (subst (λ (v : Float). HasValue v (leb (2 ^ 63) b) (b % 2 ^ 52 * 2 ^ 0) (2 ^ 1074)) back (field_zero binary64 b z)) R 52 (omega arith))
        (lit≤ tt)))
    | inr p ↦ p
  ]

  not_top : field < 2047
  not_top = elim (dec_lt field 2047) [
    | yes h ↦ h
    | no h ↦ absurd (field_top binary64 b (omega arith) (subst (λ (v : Float). T (finite v)) (sym back) (cuttable_finite x R)))
  ]

  pub whole_of_bits : Whole x b
  whole_of_bits =
      of_field x b field (to_bits-lt binary64 x F) refl some
      (subst (λ (v : Float). HasValue v (leb (2 ^ 63) b) ((2 ^ 52 + b % 2 ^ 52) * 2 ^ (field - 1)) (2 ^ 1074)) back (field_value binary64 b field refl some not_top)) R
