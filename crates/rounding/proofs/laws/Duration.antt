-- Laws of seconds to nanoseconds: from the f64's digits, by a product and a nearest quotient.
use mathlib.Core.Path.{◌≡◌, refl, sym, ap, ◌∙◌, subst, subst₂}
use mathlib.Core.Logic.{inl, inr}
use mathlib.Core.Bool.{Bool, true, false, not}
use Prim.Native.Nat.{ℕ, suc, ◌+◌, ◌-◌, ◌*◌, ◌/◌, ◌%◌, ◌^◌, ◌≤◌, ◌<◌}
use native.Mathlib.Nat.{le_trans, le_of_eq, lt_of_lt_of_le, eq-zero-or-pos, mul_assoc, mul_right_comm, mul-le-mul_right, le_of_mul-le-mul_right, pow-succ'}
use native.Mathlib.Decide.{dec_lt}
use native.Mathlib.Omega.{arith}
use lib.IntN.{ℤ}
use lib.Dec.{T, leb}
use lib.Pow.{pow-add, pow_pos, pow_mono}
use lib.Ieee.{Float, nan, inf, fin, binary64, up, down, le, of_int, fits, is_nan, to_bits}
use lib.Ieee.Bits.{of_bits-to_bits}
use lib.Ieee.Fits.{down_pos}
use lib.Ieee.Exact.{HasValue}
use lib.Ieee.Scale.{finite}
use Rattle.laws.proofs.laws.Arithmetic.{or_le}
use Rattle.rounding.specs.Nearest.{nearest_quotient, sticky_quotient}
use Rattle.rounding.proofs.laws.Nearest.{nearest_quotient_same, nearest_by_sticky, nearest_small}
use Rattle.rounding.proofs.laws.Fields.{field_zero, field_value, field_top}
use Rattle.rounding.proofs.laws.Narrow.{zeros_say}
use Rattle.rounding.specs.Duration.{nanos_from_secs, InAnHour}

-- ---- from the value d * 2 ^ y / 2 ^ l

nanos_of : (x : Float) (s : Bool) (a c : ℕ) → 0 < c → HasValue x s a c → nanos_from_secs x ≡ nearest_quotient (a * 10 ^ 9) c
unfolding nanos_from_secs
nanos_of nan s a c C v = absurd v
nanos_of (inf t) s a c C v = absurd v
nanos_of (fin t m e) s a c C v =
    nearest_quotient_same (m * up e * 10 ^ 9) (down e) (a * 10 ^ 9) c (down_pos e) C
    (mul_right_comm (m * up e) (10 ^ 9) c ∙ ap (λ (x : ℕ). x * 10 ^ 9) v.1 ∙ mul_right_comm a (down e) (10 ^ 9))

-- a billion is 5 ^ 9 * 2 ^ 9
billion : (d y j l : ℕ) → y + 9 + j ≡ l → nearest_quotient (d * 2 ^ y * 10 ^ 9) (2 ^ l) ≡ nearest_quotient (d * 5 ^ 9) (2 ^ j)
billion d y j l e = nearest_quotient_same (d * 2 ^ y * 10 ^ 9) (2 ^ l) (d * 5 ^ 9) (2 ^ j) (pow_pos l) (pow_pos j)
    (let p : 2 ^ l ≡ 2 ^ y * 2 ^ 9 * 2 ^ j = ap (λ (x : ℕ). 2 ^ x) (sym e) ∙ pow-add 2 (y + 9) j ∙ ap (λ (x : ℕ). x * 2 ^ j) (pow-add 2 y 9) in
    let q : d * 2 ^ l ≡ d * 2 ^ y * 2 ^ j * 2 ^ 9 = ap (λ (x : ℕ). d * x) (p ∙ mul_right_comm (2 ^ y) (2 ^ 9) (2 ^ j)) ∙ sym (mul_assoc d (2 ^ y * 2 ^ j) (2 ^ 9)) ∙ ap (λ (x : ℕ). x * 2 ^ 9) (sym (mul_assoc d (2 ^ y) (2 ^ j))) in
    omega (arith, mul_right_comm (d * 2 ^ y) (10 ^ 9) (2 ^ j), mul_right_comm d (5 ^ 9) (2 ^ l)))

nanos_by_digits : (x : Float) (s : Bool) (d y j : ℕ) → HasValue x s (d * 2 ^ y) (2 ^ 1074) → y + 9 + j ≡ 1074 → nanos_from_secs x ≡ nearest_quotient (d * 5 ^ 9) (2 ^ j)
nanos_by_digits x s d y j v e = nanos_of x s (d * 2 ^ y) (2 ^ 1074) (pow_pos 1074) v ∙ billion d y j 1074 e

-- without twelve digits, of which only the sticky digit is left
cut_twelve : (n k : ℕ) → 2 ≤ k → nearest_quotient n (2 ^ (k + 11)) ≡ nearest_quotient (sticky_quotient n (2 ^ 12)) (2 ^ k)
cut_twelve n k K =
    let h = 2 ^ (k - 2) in
    let two : 2 ^ suc (k - 2) ≡ 2 * h = pow-succ' 2 (k - 2) in
    let a : k + 11 ≡ 12 + suc (k - 2) = omega arith in
    let b : suc (suc (k - 2)) ≡ k = omega arith in
    ap (λ (x : ℕ). nearest_quotient n x) (ap (λ (x : ℕ). 2 ^ x) a ∙ pow-add 2 12 (suc (k - 2)) ∙ ap (λ (x : ℕ). 2 ^ 12 * x) two)
    ∙ nearest_by_sticky n (2 ^ 12) h (pow_pos 12) (pow_pos (k - 2))
    ∙ ap (λ (x : ℕ). nearest_quotient (sticky_quotient n (2 ^ 12)) x) (ap (λ (x : ℕ). 2 * x) (sym two) ∙ sym (pow-succ' 2 (suc (k - 2))) ∙ ap (λ (x : ℕ). 2 ^ x) b)

too_small : (x : Float) (s : Bool) (d y j : ℕ) → HasValue x s (d * 2 ^ y) (2 ^ 1074) → y + 9 + j ≡ 1074 → d < 2 ^ 53 → 75 ≤ j → nanos_from_secs x ≡ 0
too_small x s d y j v e u h = nanos_by_digits x s d y j v e ∙ nearest_small (d * 5 ^ 9) (2 ^ j) (lt_of_lt_of_le (omega arith) (pow_mono h))

-- ---- from the bits

abbrev pub exponent : Float → ℕ
exponent x = to_bits binary64 x % 2 ^ 63 / 2 ^ 52

abbrev pub digits : Float → ℕ
digits x = to_bits binary64 x % 2 ^ 63 % 2 ^ 52 + 2 ^ 52

module _ (x : Float) (F : T (fits binary64 x)) where
  value : 0 < exponent x → exponent x < 2047 → HasValue x (leb (2 ^ 63) (to_bits binary64 x)) (digits x * 2 ^ (exponent x - 1)) (2 ^ 1074)
  value p q =
      let b = to_bits binary64 x in
      let d : 2 ^ 52 + b % 2 ^ 52 ≡ digits x = omega arith in
      subst₂ (λ (v : Float) (n : ℕ). HasValue v (leb (2 ^ 63) b) (n * 2 ^ (exponent x - 1)) (2 ^ 1074)) (of_bits-to_bits binary64 x F) d (field_value binary64 b (exponent x) refl p q)

  pub nanos_tiny : exponent x < 992 → nanos_from_secs x ≡ 0
  nanos_tiny h = elim (eq-zero-or-pos (exponent x)) [
    | inl z ↦
        too_small x (leb (2 ^ 63) (to_bits binary64 x)) (to_bits binary64 x % 2 ^ 52) 0 1065
        (subst (λ (v : Float). HasValue v (leb (2 ^ 63) (to_bits binary64 x)) (to_bits binary64 x % 2 ^ 52 * 2 ^ 0) (2 ^ 1074)) (of_bits-to_bits binary64 x F) (field_zero binary64 (to_bits binary64 x) z))
        refl (omega arith) (omega arith)
    | inr p ↦ too_small x (leb (2 ^ 63) (to_bits binary64 x)) (digits x) (exponent x - 1) (1066 - exponent x) (value p (omega arith)) (omega arith) (omega arith) (omega arith)
  ]

  pub nanos_from_bits : 992 ≤ exponent x → exponent x < 1035 → nanos_from_secs x ≡ nearest_quotient (sticky_quotient (digits x * 5 ^ 9) (2 ^ 12)) (2 ^ (1055 - exponent x))
  nanos_from_bits g h =
      nanos_by_digits x (leb (2 ^ 63) (to_bits binary64 x)) (digits x) (exponent x - 1) (1055 - exponent x + 11) (value (omega arith) (omega arith)) (omega arith)
      ∙ cut_twelve (digits x * 5 ^ 9) (1055 - exponent x) (omega arith)

-- ---- what 0 to 3,600 seconds says

hour_finite : (x : Float) → InAnHour x → T (finite x)
unfolding le of_int
hour_finite nan H = absurd H.not_above
hour_finite (inf true) H = absurd H.not_below
hour_finite (inf false) H = absurd H.not_above
hour_finite (fin s m e) H = tt

pub hour_no_nan : (x : Float) → InAnHour x → T (not (is_nan x))
unfolding is_nan
hour_no_nan nan H = absurd (hour_finite nan H)
hour_no_nan (inf s) H = tt
hour_no_nan (fin s m e) H = tt

hour_most : (s : Bool) (m : ℕ) (e : ℤ) → InAnHour (fin s m e) → m * up e ≤ 3600 * down e
unfolding le of_int
hour_most false m e H = omega (arith, or_le (m * up e * 1) (3600 * down e) H.not_above)
hour_most true m e H = omega (arith, (zeros_say (0 * down e) (m * up e * 1) H.not_below).1)

-- a value of 4,096 or more
reaches : (l d y : ℕ) → 2 ^ 52 ≤ d → 12 + l ≤ 52 + y → 2 ^ 12 * 2 ^ l ≤ d * 2 ^ y
reaches l d y h g = le_trans (le_of_eq (sym (pow-add 2 12 l))) (le_trans (pow_mono g) (le_trans (le_of_eq (pow-add 2 52 y)) (mul-le-mul_right (2 ^ y) h)))

far : (x : Float) (s : Bool) (d y l : ℕ) → InAnHour x → HasValue x s (d * 2 ^ y) (2 ^ l) → 2 ^ 52 ≤ d → 12 + l ≤ 52 + y → ⊥
far nan s d y l H v h g = v
far (inf t) s d y l H v h g = v
far (fin t m e) s d y l H v h g =
    let a : 2 ^ 12 * down e * 2 ^ l ≤ m * up e * 2 ^ l =
    le_trans (le_of_eq (mul_right_comm (2 ^ 12) (down e) (2 ^ l))) (le_trans (mul-le-mul_right (down e) (reaches l d y h g)) (le_of_eq (sym v.1))) in
    let b : 2 ^ 12 * down e ≤ m * up e = le_of_mul-le-mul_right a (pow_pos l) in
    omega (arith, hour_most t m e H, down_pos e)

pub hour_exponent : (x : Float) → T (fits binary64 x) → InAnHour x → exponent x < 1035
hour_exponent x F H = elim (dec_lt (exponent x) 1035) [
  | yes h ↦ h
  | no h ↦ elim (dec_lt (exponent x) 2047) [
    | yes g ↦ absurd (far x (leb (2 ^ 63) (to_bits binary64 x)) (digits x) (exponent x - 1) 1074 H (value x F (omega arith) g) (omega arith) (omega arith))
    | no g ↦ absurd (field_top binary64 (to_bits binary64 x) (omega arith) (subst (λ (v : Float). T (finite v)) (sym (of_bits-to_bits binary64 x F)) (hour_finite x H)))
  ]
]
