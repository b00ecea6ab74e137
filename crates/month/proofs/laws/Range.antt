-- A sample is in range exactly where its magnitude is no larger than that of 1.0, and then it is no NaN. Assumes nothing.
use mathlib.Core.Path.{◌≡◌, refl, sym, ap, ◌∙◌, subst}
use mathlib.Core.Bool.{Bool, true, false, not, ◌&&◌, ◌||◌}
use Prim.Native.Nat.{ℕ, zero, suc, ◌+◌, ◌-◌, ◌*◌, ◌/◌, ◌%◌, ◌^◌, ◌≤◌, ◌<◌}
use native.Mathlib.Nat.{mul_comm, mul-one, one-mul, mul-le-mul, mul-le-mul_right, suc-mul, add-mul, lt_irrefl, lt_of_lt_of_le, le_of_mul-le-mul_right, le_trans, le_of_eq}
use native.Mathlib.Decide.{dec_le, dec_lt}
use native.Mathlib.Omega.{arith}
use borrow.Author.Tests.{eqb-true, eqb-false, lt-ltb, le-ltb, le-leb, lt-leb, eq-eqb, ne_eqb}
use lib.Dec.{T, eqb, leb, ltb}
use lib.Pow.{pow_pos, pow_mono, pow-lt, pow-add}
use lib.IntN.{pos}
use lib.Ieee.{Float, nan, inf, fin, binary32, up, down, le, lt, eq, neg, of_int, of_bits, nan_bits, low}
use lib.Ieee.Bits.{nan_bits_is}
use lib.Ieee.Exact.{HasValue}
use lib.Ieee.Fits.{down_pos}
use lib.Ieee.Scale.{finite}
use Rattle.laws.proofs.laws.Choice.{true-T, and_left, and_right, and_true}
use Rattle.rounding.proofs.laws.Fields.{field_zero, field_value, field_top}
use Rattle.pcm.specs.Sample.{InRange}
use Rattle.pcm.proofs.laws.Sixteen.{in_range_number}
use Rattle.month.specs.Month.{sample_in, magnitude, one_bits}

-- ---- the two tests of a number that is a / c in size

or_equal : (a b : ℕ) (t : Bool) → ltb a b || (eqb a b && (true || t)) ≡ leb a b
or_equal a b t = elim (dec_lt a b) [
  | yes k ↦ rw (lt-ltb a b k, le-leb a b (omega arith))
  | no k ↦
      elim (dec_le a b) [
        | yes l ↦ rw (le-ltb a b (omega arith), eq-eqb a b (omega arith), le-leb a b l)
        | no l ↦ rw (le-ltb a b (omega arith), ne_eqb a b (λ e. l (omega arith)), lt-leb a b (omega arith))
      ]
]

eqb_sym : (a b : ℕ) → eqb a b ≡ eqb b a
eqb_sym a b = go (eqb a b) refl
  where
    go : (t : Bool) → eqb a b ≡ t → eqb a b ≡ eqb b a
    go true e = e ∙ sym (eq-eqb b a (sym (eqb-true a b e)))
    go false e = e ∙ sym (ne_eqb b a (λ k. eqb-false a b e (sym k)))

same_test : (a b c d : ℕ) → (a ≤ b → c ≤ d) → (c ≤ d → a ≤ b) → leb a b ≡ leb c d
same_test a b c d h g = elim (dec_le a b) [
  | yes k ↦ le-leb a b k ∙ sym (le-leb c d (h k))
  | no k ↦ lt-leb a b (omega arith) ∙ sym (lt-leb c d (elim (dec_le c d) [ yes l ↦ absurd (k (g l)) | no l ↦ omega arith ]))
]

-- n / d is a / c in size
in_size : (n d a c : ℕ) → 0 < d → 0 < c → n * c ≡ a * d → leb (n * 1) (1 * d) ≡ leb a c
in_size n d a c D C e =
    same_test (n * 1) (1 * d) a c
    (λ h. le_of_mul-le-mul_right (le_trans (le_of_eq (sym e)) (le_trans (mul-le-mul_right c (subst (λ (z : ℕ). z ≤ d) (mul-one n) (subst (λ (z : ℕ). n * 1 ≤ z) (one-mul d) h))) (le_of_eq (mul_comm d c)))) D)
    (λ h. subst (λ (z : ℕ). n * 1 ≤ z) (sym (one-mul d)) (subst (λ (z : ℕ). z ≤ d) (sym (mul-one n)) (le_of_mul-le-mul_right (le_trans (le_of_eq e) (le_trans (mul-le-mul_right d h) (le_of_eq (mul_comm c d)))) C)))

tests : (x : Float) (s : Bool) (a c : ℕ) → 0 < c → HasValue x s a c → le (neg (of_int binary32 (pos 1))) x && le x (of_int binary32 (pos 1)) ≡ leb a c
unfolding le lt eq neg of_int
tests nan s a c C v = absurd v
tests (inf t) s a c C v = absurd v
tests (fin false m e) s a c C v =
    let D = down_pos e in
    ap (λ (b : Bool). (b || (eqb (1 * down e) (m * up e * 1) && (false || eqb (1 * down e) 0))) && (ltb (m * up e * 1) (1 * down e) || (eqb (m * up e * 1) (1 * down e) && (true || eqb (m * up e * 1) 0)))) (lt-ltb 0 (1 * down e + m * up e * 1) (omega arith))
    ∙ or_equal (m * up e * 1) (1 * down e) (eqb (m * up e * 1) 0)
    ∙ in_size (m * up e) (down e) a c D C v.1
tests (fin true m e) s a c C v =
    let D = down_pos e in
    ap (λ (b : Bool). (ltb (m * up e * 1) (1 * down e) || (eqb (1 * down e) (m * up e * 1) && (true || eqb (1 * down e) 0))) && (b || (eqb (m * up e * 1) (1 * down e) && (false || eqb (m * up e * 1) 0)))) (lt-ltb 0 (m * up e * 1 + 1 * down e) (omega arith))
    ∙ and_true (ltb (m * up e * 1) (1 * down e) || (eqb (1 * down e) (m * up e * 1) && (true || eqb (1 * down e) 0)))
    ∙ ap (λ (b : Bool). ltb (m * up e * 1) (1 * down e) || (b && (true || eqb (1 * down e) 0))) (eqb_sym (1 * down e) (m * up e * 1))
    ∙ or_equal (m * up e * 1) (1 * down e) (eqb (1 * down e) 0)
    ∙ in_size (m * up e) (down e) a c D C v.1

-- ---- by the fields of the bits

grow : (a b c d : ℕ) → a ≤ b → c ≤ d → a * c ≤ b * d
grow a b c d h k = mul-le-mul h k

-- k is the exponent's field, t the digits below the leading one
small_field : (k t : ℕ) → 0 < k → k ≤ 126 → t < 2 ^ 23 → (2 ^ 23 + t) * 2 ^ (k - 1) ≤ 2 ^ 149
small_field k t P K h = le_trans (grow (2 ^ 23 + t) (2 ^ 24) (2 ^ (k - 1)) (2 ^ 125) (omega arith) (pow_mono (less k K))) (le_of_eq (sym (pow-add 2 24 125)))
  where
    less : (k : ℕ) → k ≤ 126 → k - 1 ≤ 125
    less k K = omega arith

split : (t U : ℕ) → t * U ≡ 0 → 0 < U → t ≡ 0
split zero U e P = refl
split (suc t) U e P = absurd (omega (arith, suc-mul t U))

at_one : (t U : ℕ) → 0 < U → (2 ^ 23 + t) * U ≤ 2 ^ 23 * U → t ≡ 0
at_one t U P h = split t U (omega (arith, add-mul (2 ^ 23) t U)) P

large_field : (k t : ℕ) → 128 ≤ k → (2 ^ 23 + t) * 2 ^ (k - 1) ≤ 2 ^ 149 → ⊥
large_field k t K h =
    lt_irrefl (2 ^ 149)
    (lt_of_lt_of_le (pow-lt {i = 149} {j = 150} (omega arith))
    (le_trans (le_of_eq (pow-add 2 23 127)) (le_trans (grow (2 ^ 23) (2 ^ 23 + t) (2 ^ 127) (2 ^ (k - 1)) (omega arith) (pow_mono (more k K))) h)))
  where
    more : (k : ℕ) → 128 ≤ k → 127 ≤ k - 1
    more k K = omega arith

by_field : (r k t : ℕ) → r ≡ k * 2 ^ 23 + t → t < 2 ^ 23 → 0 < k → leb ((2 ^ 23 + t) * 2 ^ (k - 1)) (2 ^ 149) ≡ leb r one_bits
by_field r k t e h P = same_test ((2 ^ 23 + t) * 2 ^ (k - 1)) (2 ^ 149) r one_bits there back
  where
    units : 2 ^ 149 ≡ 2 ^ 23 * 2 ^ 126
    units = pow-add 2 23 126

    there : (2 ^ 23 + t) * 2 ^ (k - 1) ≤ 2 ^ 149 → r ≤ one_bits
    there g = elim (dec_le k 126) [
      | yes K ↦ omega arith
      | no K ↦
          elim (dec_le 128 k) [
            | yes L ↦ absurd (large_field k t L g)
            | no L ↦
                let j : k - 1 ≡ 126 = omega arith in
                let z : t ≡ 0 = at_one t (2 ^ 126) (pow_pos 126) (subst (λ (i : ℕ). (2 ^ 23 + t) * 2 ^ i ≤ 2 ^ 23 * 2 ^ 126) j (le_trans g (le_of_eq units))) in
                omega arith
          ]
    ]

    back : r ≤ one_bits → (2 ^ 23 + t) * 2 ^ (k - 1) ≤ 2 ^ 149
    back g = elim (dec_le k 126) [
      | yes K ↦ small_field k t P K h
      | no K ↦
          let j : k - 1 ≡ 126 = omega arith in
          let z : t ≡ 0 = omega arith in
          subst (λ (i : ℕ). (2 ^ 23 + t) * 2 ^ i ≤ 2 ^ 149) (sym j) (subst (λ (i : ℕ). (2 ^ 23 + i) * 2 ^ 126 ≤ 2 ^ 149) (sym z) (le_of_eq (sym units)))
    ]

-- an infinity or a NaN
not_finite : (x : Float) → (T (finite x) → ⊥) → le (neg (of_int binary32 (pos 1))) x && le x (of_int binary32 (pos 1)) ≡ false
unfolding le lt eq neg of_int
not_finite nan h = refl
not_finite (inf true) h = refl
not_finite (inf false) h = refl
not_finite (fin s m e) h = absurd (h tt)

pub in_by_magnitude : (w : ℕ) → sample_in w ≡ leb (magnitude w) one_bits
unfolding sample_in magnitude
in_by_magnitude w = elim (dec_lt (w % 2 ^ 31 / 2 ^ 23) 1) [
  | yes k ↦
      tests (of_bits binary32 w) (leb (2 ^ 31) w) (w % 2 ^ 23 * 2 ^ 0) (2 ^ 149) (pow_pos 149) (field_zero binary32 w (omega arith))
      ∙ le-leb (w % 2 ^ 23 * 2 ^ 0) (2 ^ 149) (le_trans (low (w % 2 ^ 23) (omega arith)) (pow_mono {i = 23} {j = 149} (omega arith)))
      ∙ sym (le-leb (w % 2 ^ 31) one_bits (omega arith))
  | no k ↦
      elim (dec_lt (w % 2 ^ 31 / 2 ^ 23) 255) [
        | yes l ↦
            tests (of_bits binary32 w) (leb (2 ^ 31) w) ((2 ^ 23 + w % 2 ^ 23) * 2 ^ (w % 2 ^ 31 / 2 ^ 23 - 1)) (2 ^ 149) (pow_pos 149) (field_value binary32 w (w % 2 ^ 31 / 2 ^ 23) refl (omega arith) l)
            ∙ by_field (w % 2 ^ 31) (w % 2 ^ 31 / 2 ^ 23) (w % 2 ^ 23) (omega arith) (omega arith) (omega arith)
        | no l ↦ not_finite (of_bits binary32 w) (field_top binary32 w (omega arith)) ∙ sym (lt-leb (w % 2 ^ 31) one_bits (omega arith))
      ]
]
  where
    low : (t : ℕ) → t < 2 ^ 23 → t * 2 ^ 0 ≤ 2 ^ 23
    low t h = omega arith

-- ---- what the code asks of a sample in range

pub in_range : (w : ℕ) → sample_in w ≡ true → InRange (of_bits binary32 w)
unfolding sample_in
in_range w e =
    let a = le (neg (of_int binary32 (pos 1))) (of_bits binary32 w) in
    let b = le (of_bits binary32 w) (of_int binary32 (pos 1)) in
    record { not_below = true-T a (and_left a b e); not_above = true-T b (and_right a b e) }

pub in_not_nan : (w : ℕ) → sample_in w ≡ true → T (not (nan_bits binary32 w))
in_not_nan w e = subst (λ (b : Bool). T (not b)) (sym (nan_bits_is binary32 w)) (in_range_number (of_bits binary32 w) (in_range w e))

pub square_room : (d : ℕ) → d ≤ 32768 → d * d ≤ 2 ^ 30
square_room d h = mul-le-mul h h
