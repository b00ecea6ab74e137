-- The f32's bits from the f64's fields, without the sign.
use mathlib.Core.Path.{◌≡◌, refl, sym, ap, ◌∙◌, subst, subst₂}
use mathlib.Core.Logic.{◌⊎◌, inl, inr}
use mathlib.Core.Bool.{Bool, true, false, not, cond}
use Prim.Native.Nat.{ℕ, zero, suc, ◌+◌, ◌-◌, ◌*◌, ◌/◌, ◌%◌, ◌^◌, ◌≤◌, ◌<◌, min}
use native.Mathlib.Nat.{lt_of_lt_of_le, le_trans, le_of_eq, add_comm, eq-zero-or-pos, zero-add}
use native.Mathlib.Decide.{dec_lt}
use native.Mathlib.Omega.{arith}
use lib.Dec.{T, leb, leb→le, nleb→lt, nltb→le}
use lib.Arith.{lt→nleb}
use lib.Pow.{pow-add, pow_pos, pow_mono}
use lib.Ieee.{Float, nan, inf, fin, Format, binary32, binary64, prec, low, up, down, round, fits, is_nan, hid, ones, top, of_fields, of_bits, to_bits}
use lib.Ieee.Bits.{is_false, of_bits-to_bits, to_bits-lt, nan_bits_is, nan_bits_above}
use lib.Ieee.Fits.{down_pos}
use lib.Ieee.Exact.{HasValue}
use lib.Ieee.Order.{drop, kept}
use lib.Ieee.Scale.{round_same}
use Rattle.rounding.specs.Nearest.{nearest_quotient}
use Rattle.rounding.proofs.laws.Nearest.{nearest_quotient_nearest, nearest_quotient_shift, nearest_most, nearest_least, nearest_small}
use Rattle.rounding.specs.Narrow.{narrowed, narrowed_bits}
use Rattle.rounding.proofs.laws.Fields.{low_value, high_value, field_zero, field_value}
use Rattle.rounding.proofs.laws.Rounding.{bits, round-bits, round-bits_of, bits_of_infinity}

pub narrowed_value : (x : Float) (s : Bool) (a c : ℕ) → 0 < c → HasValue x s a c → narrowed x ≡ round binary32 s a c
unfolding narrowed
narrowed_value nan s a c C v = absurd v
narrowed_value (inf t) s a c C v = absurd v
narrowed_value (fin t m e) s a c C v = round_same binary32 t (m * up e) (down e) a c (down_pos e) C v.1 ∙ ap (λ (y : Bool). round binary32 y a c) v.0

-- ---- the bits, where d is the digits and y the exponent: k digits' places go to the field, and j digits are cut

narrowed-bits : (x : Float) (s : Bool) (d y j k : ℕ) → HasValue x s (d * 2 ^ y) (2 ^ 1074) → y + 149 + j ≡ 1074 + k → d < 2 ^ (24 + j) → (k ≡ 0) ⊎ (2 ^ (23 + j) ≤ d)
    → to_bits binary32 (narrowed x) ≡ bits binary32 s (nearest_quotient d (2 ^ j)) k
narrowed-bits x s d y j k v e u l = ap (to_bits binary32) (narrowed_value x s (d * 2 ^ y) (2 ^ 1074) (pow_pos 1074) v) ∙ round-bits_of binary32 s d y 1074 j k e u l

-- ---- from a pattern b with no sign, by its exponent's field

fields_of : (b : ℕ) → b < 2 ^ 63 → of_bits binary64 b ≡ of_fields binary64 false (b / 2 ^ 52) (b % 2 ^ 52)
unfolding of_bits
fields_of b h =
    let e : b % 2 ^ 63 / 2 ^ 52 ≡ b / 2 ^ 52 = omega arith in
    ap (λ (s : Bool). of_fields binary64 s (b % 2 ^ 63 / 2 ^ 52) (b % 2 ^ 52)) (is_false (leb (2 ^ 63) b) (lt→nleb (2 ^ 63) b h))
    ∙ ap (λ (x : ℕ). of_fields binary64 false x (b % 2 ^ 52)) e

-- the digits, with the leading one
abbrev pub digits : ℕ → ℕ
digits b = b % 2 ^ 52 + 2 ^ 52

no_sign : (b : ℕ) → b < 2 ^ 63 → leb (2 ^ 63) b ≡ false
no_sign b h = is_false (leb (2 ^ 63) b) (lt→nleb (2 ^ 63) b h)

value_of : (b : ℕ) → 0 < b / 2 ^ 52 → b / 2 ^ 52 < 2047 → HasValue (of_bits binary64 b) false (digits b * 2 ^ (b / 2 ^ 52 - 1)) (2 ^ 1074)
value_of b p q =
    subst₂ (λ (s : Bool) (d : ℕ). HasValue (of_bits binary64 b) s (d * 2 ^ (b / 2 ^ 52 - 1)) (2 ^ 1074)) (no_sign b (omega arith)) (add_comm (2 ^ 52) (b % 2 ^ 52))
    (field_value binary64 b (b / 2 ^ 52) (omega arith) p q)

value_of_zero : (b : ℕ) → b / 2 ^ 52 ≡ 0 → HasValue (of_bits binary64 b) false (b % 2 ^ 52 * 2 ^ 0) (2 ^ 1074)
value_of_zero b e = subst (λ (s : Bool). HasValue (of_bits binary64 b) s (b % 2 ^ 52 * 2 ^ 0) (2 ^ 1074)) (no_sign b (omega arith)) (field_zero binary64 b (omega arith))

-- no field, and no digits dropped: nothing but the quotient
whole : (q : ℕ) → q ≤ 2 ^ 24 → bits binary32 false q 0 ≡ q
whole q h = omega arith

tiny : (x : Float) (d y j : ℕ) → HasValue x false (d * 2 ^ y) (2 ^ 1074) → y + 149 + j ≡ 1074 → d < 2 ^ 53 → 55 ≤ j → to_bits binary32 (narrowed x) ≡ 0
tiny x d y j v e u h =
    let far : 53 ≤ 24 + j = omega arith in
    narrowed-bits x false d y j 0 v (omega arith) (lt_of_lt_of_le u (pow_mono far)) (inl refl)
    ∙ ap (λ (q : ℕ). bits binary32 false q 0) (nearest_small d (2 ^ j) (lt_of_lt_of_le (omega arith) (pow_mono h)))

pub narrowed_tiny : (b : ℕ) → b / 2 ^ 52 < 872 → narrowed_bits b ≡ 0
unfolding narrowed_bits
narrowed_tiny b h = elim (eq-zero-or-pos (b / 2 ^ 52)) [
  | inl e ↦ tiny (of_bits binary64 b) (b % 2 ^ 52) 0 925 (value_of_zero b e) refl (omega arith) (omega arith)
  | inr p ↦ tiny (of_bits binary64 b) (digits b) (b / 2 ^ 52 - 1) (926 - b / 2 ^ 52) (value_of b p (omega arith)) (omega arith) (omega arith) (omega arith)
]

-- of the digits at most 24 are kept, and where 29 are cut, that many
pub kept_few : (b j : ℕ) → 29 ≤ j → nearest_quotient (digits b) (2 ^ j) ≤ 2 ^ 24
kept_few b j h =
    nearest_most (digits b) (2 ^ j) (nearest_quotient (digits b) (2 ^ j)) (2 ^ 24) (pow_pos j)
    (lt_of_lt_of_le (omega arith) (le_trans (pow_mono far) (le_of_eq (pow-add 2 24 j))))
    (nearest_quotient_nearest (digits b) (2 ^ j) (pow_pos j))
  where
    far : 53 ≤ 24 + j
    far = omega arith

-- subnormal: no field
pub narrowed_low : (b : ℕ) → 872 ≤ b / 2 ^ 52 → b / 2 ^ 52 < 897 → narrowed_bits b ≡ nearest_quotient (digits b) (2 ^ (926 - b / 2 ^ 52))
unfolding narrowed_bits
narrowed_low b g h =
    let x = b / 2 ^ 52 in
    let j = 926 - x in
    let far : 53 ≤ 24 + j = omega arith in
    narrowed-bits (of_bits binary64 b) false (digits b) (x - 1) j 0 (value_of b (omega arith) (omega arith)) (omega arith) (lt_of_lt_of_le (omega arith) (pow_mono far)) (inl refl)
    ∙ whole (nearest_quotient (digits b) (2 ^ j)) (kept_few b j (omega arith))

-- normal, and beyond
normal : (b : ℕ) → 897 ≤ b / 2 ^ 52 → b / 2 ^ 52 < 2047 → narrowed_bits b ≡ bits binary32 false (nearest_quotient (digits b) (2 ^ 29)) (b / 2 ^ 52 - 897)
unfolding narrowed_bits
normal b g h =
    let x = b / 2 ^ 52 in
    narrowed-bits (of_bits binary64 b) false (digits b) (x - 1) 29 (x - 897) (value_of b (omega arith) h) (omega arith) (omega arith) (inr (omega arith))

pub narrowed_normal : (b : ℕ) → 897 ≤ b / 2 ^ 52 → b / 2 ^ 52 ≤ 1150 → narrowed_bits b ≡ (b / 2 ^ 52 - 897) * 2 ^ 23 + nearest_quotient (digits b) (2 ^ 29)
narrowed_normal b g h =
    let q : nearest_quotient (digits b) (2 ^ 29) ≤ 2 ^ 24 = kept_few b 29 (omega arith) in
    normal b g (omega arith) ∙ omega arith

-- the exponent's field and the digits rounded as one number: the field's unit is an even multiple of what is cut
pub narrowed_at_once : (b : ℕ) → 897 * 2 ^ 52 ≤ b → b < 1151 * 2 ^ 52 → nearest_quotient b (2 ^ 29) ≡ narrowed_bits b + 896 * 2 ^ 23
narrowed_at_once b g h =
    let k = (b / 2 ^ 52 - 1) * 2 ^ 22 in
    let e : b ≡ 2 * (k * 2 ^ 29) + digits b = omega arith in
    ap (λ (y : ℕ). nearest_quotient y (2 ^ 29)) e
    ∙ nearest_quotient_shift (digits b) (2 ^ 29) k (pow_pos 29)
    ∙ omega (arith, narrowed_normal b (omega arith) (omega arith))

-- beyond the largest f32, and the infinity
pub narrowed_huge : (b : ℕ) → 1150 < b / 2 ^ 52 → b ≤ 2047 * 2 ^ 52 → narrowed_bits b ≡ 255 * 2 ^ 23
unfolding narrowed_bits narrowed of_fields
narrowed_huge b g h = elim (dec_lt (b / 2 ^ 52) 2047) [
  | yes l ↦
      let q : 2 ^ 23 ≤ nearest_quotient (digits b) (2 ^ 29) =
      nearest_least (digits b) (2 ^ 29) (nearest_quotient (digits b) (2 ^ 29)) (2 ^ 23) (pow_pos 29) (omega arith) (nearest_quotient_nearest (digits b) (2 ^ 29) (pow_pos 29)) in
      normal b (omega arith) l ∙ omega arith
  | no l ↦
      let e : b ≡ 2047 * 2 ^ 52 = omega arith in
      ap (λ (x : ℕ). to_bits binary32 (narrowed (of_bits binary64 x))) e ∙ ap (λ (v : Float). to_bits binary32 (narrowed v)) (fields_of (2047 * 2 ^ 52) (omega arith)) ∙ bits_of_infinity binary32 false
]

-- ---- with the sign

round_bits_sign : (f : Format) (s : Bool) (a c : ℕ) → 0 < c → to_bits f (round f s a c) ≡ cond s (top f) 0 + to_bits f (round f false a c)
round_bits_sign f s a c C =
    round-bits f s a c C ∙ ap (λ (x : ℕ). cond s (top f) 0 + x) (sym (zero-add (min (drop (prec f) (a * 2 ^ low f) c * hid f + kept (prec f) (a * 2 ^ low f) c) (ones f * hid f))) ∙ sym (round-bits f false a c C))

same_but_sign : (x y : Float) (s : Bool) (a c : ℕ) → 0 < c → HasValue x s a c → HasValue y false a c
    → to_bits binary32 (narrowed x) ≡ cond s (2 ^ 31) 0 + to_bits binary32 (narrowed y)
same_but_sign x y s a c C v w =
    ap (to_bits binary32) (narrowed_value x s a c C v)
    ∙ round_bits_sign binary32 s a c C
    ∙ ap (λ (z : Float). cond s (2 ^ 31) 0 + to_bits binary32 z) (sym (narrowed_value y false a c C w))

signed_fields : (s : Bool) (e t : ℕ) → e * 2 ^ 52 + t ≤ 2047 * 2 ^ 52
    → to_bits binary32 (narrowed (of_fields binary64 s e t)) ≡ cond s (2 ^ 31) 0 + to_bits binary32 (narrowed (of_fields binary64 false e t))
unfolding of_fields narrowed
signed_fields s zero t h = same_but_sign (of_fields binary64 s 0 t) (of_fields binary64 false 0 t) s (t * 2 ^ 0) (2 ^ 1074) (pow_pos 1074) (low_value binary64 s t) (low_value binary64 false t)
signed_fields s (suc y) t h = elim (dec_lt (suc y) 2047) [
  | yes l ↦
      same_but_sign (of_fields binary64 s (suc y) t) (of_fields binary64 false (suc y) t) s ((2 ^ 52 + t) * 2 ^ y) (2 ^ 1074) (pow_pos 1074)
      (high_value binary64 s y t l) (high_value binary64 false y t l)
  | no l ↦
      let e : y ≡ 2046 = omega arith in
      let z : t ≡ 0 = omega arith in
      subst₂ (λ (a b : ℕ). to_bits binary32 (narrowed (of_fields binary64 s (suc a) b)) ≡ cond s (2 ^ 31) 0 + to_bits binary32 (narrowed (of_fields binary64 false (suc a) b))) (sym e) (sym z)
      (infinities s)
]
  where
    infinities : (s : Bool) → to_bits binary32 (narrowed (of_fields binary64 s 2047 0)) ≡ cond s (2 ^ 31) 0 + to_bits binary32 (narrowed (of_fields binary64 false 2047 0))
    infinities true = unfold to_bits in refl
    infinities false = unfold to_bits in refl

sign_bit : (b : ℕ) → b < 2 ^ 64 → cond (leb (2 ^ 63) b) (2 ^ 31) 0 ≡ b / 2 ^ 63 * 2 ^ 31
sign_bit b h = go (leb (2 ^ 63) b) (leb→le (2 ^ 63) b) (nleb→lt (2 ^ 63) b)
  where
    go : (t : Bool) → (T t → 2 ^ 63 ≤ b) → (T (not t) → b < 2 ^ 63) → cond t (2 ^ 31) 0 ≡ b / 2 ^ 63 * 2 ^ 31
    go true l u = omega (arith, l tt)
    go false l u = omega (arith, u tt)

from_pattern : (b : ℕ) → b < 2 ^ 64 → b % 2 ^ 63 ≤ 2047 * 2 ^ 52 → to_bits binary32 (narrowed (of_bits binary64 b)) ≡ b / 2 ^ 63 * 2 ^ 31 + narrowed_bits (b % 2 ^ 63)
unfolding of_bits narrowed_bits
from_pattern b h m =
    let e = b % 2 ^ 63 / 2 ^ 52 in
    let t : b % 2 ^ 63 % 2 ^ 52 ≡ b % 2 ^ 52 = omega arith in
    signed_fields (leb (2 ^ 63) b) e (b % 2 ^ 52) (omega arith)
    ∙ ap (λ (x : ℕ). x + to_bits binary32 (narrowed (of_fields binary64 false e (b % 2 ^ 52)))) (sign_bit b h)
    ∙ ap (λ (v : Float). b / 2 ^ 63 * 2 ^ 31 + to_bits binary32 (narrowed v)) (sym (fields_of (b % 2 ^ 63) (omega arith) ∙ ap (λ (x : ℕ). of_fields binary64 false e x) t))

module _ (x : Float) (F : T (fits binary64 x)) (N : T (not (is_nan x))) where
  pub magnitude_most : to_bits binary64 x % 2 ^ 63 ≤ 2047 * 2 ^ 52
  magnitude_most =
      let b = to_bits binary64 x in
      nltb→le (2047 * 2 ^ 52) (b % 2 ^ 63)
      (subst (λ (t : Bool). T (not t)) (ap is_nan (sym (of_bits-to_bits binary64 x F)) ∙ sym (nan_bits_is binary64 b) ∙ nan_bits_above binary64 b) N)

  pub narrowed_from_bits : to_bits binary32 (narrowed x) ≡ to_bits binary64 x / 2 ^ 63 * 2 ^ 31 + narrowed_bits (to_bits binary64 x % 2 ^ 63)
  narrowed_from_bits = ap (λ (v : Float). to_bits binary32 (narrowed v)) (sym (of_bits-to_bits binary64 x F)) ∙ from_pattern (to_bits binary64 x) (to_bits-lt binary64 x F) magnitude_most
