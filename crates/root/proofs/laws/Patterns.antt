-- The bit patterns of the f32 from 0 up: each is a number of 24 digits at most times a power of two, in units of the smallest f32, and the next
-- pattern is that number's successor times the same power. So they are in order. And each f32 from 0 up has one. Assumes nothing.
use mathlib.Core.Path.{◌≡◌, refl, sym, ap, ◌∙◌, subst}
use mathlib.Core.Logic.{◌⊎◌, inl, inr}
use mathlib.Core.Bool.{Bool, true, false, not}
use Prim.Native.Nat.{ℕ, zero, suc, ◌+◌, ◌-◌, ◌*◌, ◌/◌, ◌%◌, ◌^◌, ◌≤◌, ◌<◌}
use native.Mathlib.Nat.{le_trans, le_of_eq, le_of_lt, lt_trans, lt_of_lt_of_le, lt_of_le_of_lt, not-le_of_lt, eq-or-lt_of_le, zero-add, mul_assoc, pow-succ', mul-lt-mul_of_pos_right, div-lt_iff_lt-mul}
use native.Mathlib.Omega.{arith}
use lib.Dec.{T, leb, lit<}
use lib.Pow.{pow-add, pow_pos, pow_mono}
use lib.IntN.{ℤ}
use lib.Ieee.{Float, nan, inf, fin, binary32, low, up, down, top, size, nan_bits, of_bits, to_bits}
use lib.Ieee.Digits.{size-lt, size-le}
use lib.Ieee.Bits.{of_bits-fits, of_bits-to_bits, nan_bits_is}
use lib.Ieee.Exact.{HasValue}
use borrow.Author.Tests.{lt-leb}
use Rattle.laws.specs.Float.{pos_zero}
use Rattle.laws.specs.FloatOrder.{Number, magnitude, plus, minus}
use Rattle.laws.proofs.laws.FloatLiteral.{at_pos_zero}
use Rattle.laws.proofs.laws.FloatOrder.{value_plus, value_minus, value_finite, not_nan, one_sided, le→units, units→le, magnitude_on_grid}
use Rattle.laws.proofs.laws.FloatRound.{below_or_not}
use Rattle.rounding.proofs.laws.Fields.{field_zero, field_value}
use Rattle.root.specs.Root.{FromZero, infinity, units}

-- ---- what a pattern stands for: the exponent's field x and the 23 digits t

abbrev at : ℕ → ℕ → ℕ
at zero t = t * 2 ^ 0
at (suc y) t = (2 ^ 23 + t) * 2 ^ y

unsigned : (k : ℕ) → k < infinity → leb (top binary32) k ≡ false
unsigned k h = lt-leb (top binary32) k (omega arith)

pattern_value : (k x t : ℕ) → k < infinity → k ≡ x * 2 ^ 23 + t → t < 2 ^ 23 → HasValue (of_bits binary32 k) false (at x t) (2 ^ low binary32)
pattern_value k zero t h e d =
    let z : k % 2 ^ 23 ≡ t = omega arith in
    let f : k % 2 ^ 31 / 2 ^ 23 ≡ 0 = omega arith in
    subst (λ (w : ℕ). HasValue (of_bits binary32 k) false (w * 2 ^ 0) (2 ^ low binary32)) z
    (subst (λ (s : Bool). HasValue (of_bits binary32 k) s (k % 2 ^ 23 * 2 ^ 0) (2 ^ low binary32)) (unsigned k h) (field_zero binary32 k f))
pattern_value k (suc y) t h e d =
    let z : k % 2 ^ 23 ≡ t = omega arith in
    let f : k % 2 ^ 31 / 2 ^ 23 ≡ suc y = omega arith in
    let p : suc y - 1 ≡ y = omega arith in
    subst (λ (i : ℕ). HasValue (of_bits binary32 k) false ((2 ^ 23 + t) * 2 ^ i) (2 ^ low binary32)) p
    (subst (λ (w : ℕ). HasValue (of_bits binary32 k) false ((2 ^ 23 + w) * 2 ^ (suc y - 1)) (2 ^ low binary32)) z
    (subst (λ (s : Bool). HasValue (of_bits binary32 k) s ((2 ^ 23 + k % 2 ^ 23) * 2 ^ (suc y - 1)) (2 ^ low binary32)) (unsigned k h) (field_value binary32 k (suc y) f (omega arith) (omega arith))))

value_of : (k : ℕ) → k < infinity → HasValue (of_bits binary32 k) false (at (k / 2 ^ 23) (k % 2 ^ 23)) (2 ^ low binary32)
value_of k h = pattern_value k (k / 2 ^ 23) (k % 2 ^ 23) h (omega arith) (omega arith)

units-at : (k x t : ℕ) → k < infinity → k ≡ x * 2 ^ 23 + t → t < 2 ^ 23 → units k ≡ at x t
unfolding units
units-at k x t h e d = value_plus binary32 (of_bits binary32 k) false (at x t) (pattern_value k x t h e d)

module _ (k : ℕ) (h : k < infinity) where
  pub pattern_number : Number binary32 (of_bits binary32 k)
  pattern_number = record { held = of_bits-fits binary32 k; is_finite = value_finite (of_bits binary32 k) false (at (k / 2 ^ 23) (k % 2 ^ 23)) (2 ^ low binary32) (value_of k h) }

  pub pattern_minus : minus binary32 (of_bits binary32 k) ≡ 0
  pattern_minus = value_minus binary32 (of_bits binary32 k) false (at (k / 2 ^ 23) (k % 2 ^ 23)) (value_of k h)

  pub pattern_no_nan : T (not (nan_bits binary32 k))
  pattern_no_nan = subst (λ (b : Bool). T (not b)) (sym (nan_bits_is binary32 k)) (not_nan (of_bits binary32 k) pattern_number.is_finite)

  pub pattern_from_zero : FromZero (of_bits binary32 k)
  pattern_from_zero =
      let z = at_pos_zero binary32 in
      let x = of_bits binary32 k in
      record { number = pattern_number; least = units→le binary32 pos_zero x z.0 pattern_number (above (plus binary32 pos_zero) (minus binary32 pos_zero) (plus binary32 x) (minus binary32 x) z.1 pattern_minus) }
    where
      above : (p m q n : ℕ) → p ≡ 0 → n ≡ 0 → p + n ≤ q + m
      above p m q n a b = omega arith

-- ---- the next pattern

pub record Next (k : ℕ) : Type 0 where
  pub digits : ℕ
  pub place : ℕ
  pub few : digits < 2 ^ 24
  pub normal : 0 < place → 2 ^ 23 ≤ digits
  pub this : units k ≡ digits * 2 ^ place
  pub next : units (suc k) ≡ suc digits * 2 ^ place

none : (j : ℕ) → j < 0 → ⊥
none j l = omega arith

pub next : (k : ℕ) → suc k < infinity → Next k
next k h = go (k / 2 ^ 23) (k % 2 ^ 23) (omega arith) (omega arith)
  where
    go : (x t : ℕ) → k ≡ x * 2 ^ 23 + t → t < 2 ^ 23 → Next k
    go zero t e d = elim (below_or_not (suc t) (2 ^ 23)) [
      | inl l ↦
          record { digits = t; place = 0; few = omega arith; normal = λ h. absurd (none 0 h); this = units-at k 0 t (omega arith) e d; next = units-at (suc k) 0 (suc t) h (omega arith) l }
      | inr g ↦
          let s : suc t ≡ 2 ^ 23 + 0 = omega arith in
          record { digits = t; place = 0; few = omega arith; normal = λ h. absurd (none 0 h); this = units-at k 0 t (omega arith) e d; next = units-at (suc k) 1 0 h (omega arith) (omega arith) ∙ ap (λ (z : ℕ). z * 2 ^ 0) (sym s) }
    ]
    go (suc y) t e d = elim (below_or_not (suc t) (2 ^ 23)) [
      | inl l ↦
          let s : 2 ^ 23 + suc t ≡ suc (2 ^ 23 + t) = omega arith in
          record {
            digits = 2 ^ 23 + t;
            place = y;
            few = omega arith;
            normal = λ h. omega arith;
            this = units-at k (suc y) t (omega arith) e d;
            next = units-at (suc k) (suc y) (suc t) h (omega arith) l ∙ ap (λ (z : ℕ). z * 2 ^ y) s;
          }
      | inr g ↦
          let s : (2 ^ 23 + 0) * 2 ≡ suc (2 ^ 23 + t) = omega arith in
          record {
            digits = 2 ^ 23 + t;
            place = y;
            few = omega arith;
            normal = λ h. omega arith;
            this = units-at k (suc y) t (omega arith) e d;
            next = units-at (suc k) (suc (suc y)) 0 h (omega arith) (omega arith) ∙ ap (λ (z : ℕ). (2 ^ 23 + 0) * z) (pow-succ' 2 y) ∙ sym (mul_assoc (2 ^ 23 + 0) 2 (2 ^ y)) ∙ ap (λ (z : ℕ). z * 2 ^ y) s;
          }
    ]

units_grow : (k : ℕ) → suc k < infinity → units k < units (suc k)
units_grow k h =
    let n = next k h in
    lt_of_le_of_lt (le_of_eq n.this) (lt_of_lt_of_le (mul-lt-mul_of_pos_right (lt_suc n.digits) (pow_pos n.place)) (le_of_eq (sym n.next)))
  where
    lt_suc : (d : ℕ) → d < suc d
    lt_suc d = omega arith

pub units_lt : (j k : ℕ) → j < k → k < infinity → units j < units k
units_lt j zero l h = absurd (none j l)
units_lt j (suc k) l h = elim (below_or_not j k) [
  | inl s ↦ lt_trans (units_lt j k s (omega arith)) (units_grow k h)
  | inr g ↦ let e : j ≡ k = omega arith in subst (λ (z : ℕ). units z < units (suc k)) (sym e) (units_grow k h)
]

pub units_le : (j k : ℕ) → j ≤ k → k < infinity → units j ≤ units k
units_le j k l h = elim (eq-or-lt_of_le l) [ inl e ↦ le_of_eq (ap units e) | inr s ↦ le_of_lt (units_lt j k s h) ]

pub units_before : (j k : ℕ) → j < infinity → k < infinity → units j < units k → j < k
units_before j k g h l = elim (below_or_not j k) [ inl s ↦ s | inr s ↦ absurd (not-le_of_lt l (units_le k j s g)) ]

-- ---- the pattern of an f32 from 0 up

pub from_zero_minus : (x : Float) → FromZero x → minus binary32 x ≡ 0
from_zero_minus x X =
    let z = at_pos_zero binary32 in
    none (plus binary32 pos_zero) (minus binary32 pos_zero) (plus binary32 x) (minus binary32 x) z.2 (one_sided binary32 x) (le→units binary32 pos_zero x z.0 X.number X.least)
  where
    none : (p m q n : ℕ) → m ≡ 0 → (q ≡ 0) ⊎ (n ≡ 0) → p + n ≤ q + m → n ≡ 0
    none p m q n a (inl e) l = omega arith
    none p m q n a (inr e) l = e

-- n units in 24 digits: the exponent's field counts those that are cut
abbrev cut : ℕ → ℕ
cut n = size n - 24

bits_most : (n : ℕ) → n < 2 ^ 277 → cut n * 2 ^ 23 + n / 2 ^ cut n < infinity
bits_most n h = go (size n) (size-le n 277 h) (size-lt n)
  where
    go : (z : ℕ) → z ≤ 277 → n < 2 ^ z → (z - 24) * 2 ^ 23 + n / 2 ^ (z - 24) < infinity
    go z u r =
        let far : z ≤ 24 + (z - 24) = omega arith in
        let q : n / 2 ^ (z - 24) < 2 ^ 24 = (div-lt_iff_lt-mul (pow_pos (z - 24))).1 (lt_of_lt_of_le r (le_trans (pow_mono far) (le_of_eq (pow-add 2 24 (z - 24))))) in
        omega arith

-- the pattern of a value that is not signed, as `to_bits` has it
abbrev bits : ℕ → ℕ
bits n = cut n * 2 ^ 23 + n / 2 ^ cut n

bits_are : (d : ℕ) (e : ℤ) → to_bits binary32 (fin false d e) ≡ bits (magnitude binary32 (fin false d e))
unfolding to_bits magnitude
bits_are d e =
    let n = d * up e * 2 ^ low binary32 / down e in
    ap (λ (z : ℕ). z + n / 2 ^ cut n) (zero-add (cut n * 2 ^ 23))

positive : (d : ℕ) (e : ℤ) → Number binary32 (fin false d e) → (k : ℕ) × (k < infinity) × (plus binary32 (fin false d e) ≡ units k)
unfolding units
positive d e N =
    let n = magnitude binary32 (fin false d e) in
    let x : of_bits binary32 (bits n) ≡ fin false d e = ap (of_bits binary32) (sym (bits_are d e)) ∙ of_bits-to_bits binary32 (fin false d e) N.held in
    (bits n, bits_most n (magnitude_on_grid binary32 (fin false d e) N).under, ap (plus binary32) (sym x))

signed_zero : (d : ℕ) (e : ℤ) → plus binary32 (fin true d e) ≡ units 0
unfolding plus units of_bits magnitude
signed_zero d e = refl

pub pattern_of : (x : Float) → FromZero x → (k : ℕ) × (k < infinity) × (plus binary32 x ≡ units k)
pattern_of x X = go x X (from_zero_minus x X)
  where
    go : (x : Float) → FromZero x → minus binary32 x ≡ 0 → (k : ℕ) × (k < infinity) × (plus binary32 x ≡ units k)
    go nan X m = absurd X.number.is_finite
    go (inf s) X m = absurd X.number.is_finite
    go (fin true d e) X m = (0, lit< tt, signed_zero d e)
    go (fin false d e) X m = positive d e X.number
