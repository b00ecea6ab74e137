-- f64 to f32 is nearest: `narrowed_nearest`, at the end.
use mathlib.Core.Path.{◌≡◌, refl, sym, ap, ◌∙◌, subst, subst₂, ap₂}
use mathlib.Core.Logic.{◌⊎◌, inl, inr, ◌≢◌, ◌↔◌}
use mathlib.Core.Bool.{Bool, true, false, cond}
use Prim.Native.Nat.{ℕ, suc, ◌+◌, ◌-◌, ◌*◌, ◌/◌, ◌%◌, ◌^◌, ◌≤◌, ◌<◌}
use native.Mathlib.Nat.{le_antisymm, le_trans, le_of_eq, le_of_lt, lt_irrefl, lt_of_not-le, eq-zero-or-pos, eq-or-lt_of_le, add_assoc, zero-mul, mul-pos, mul-add, add-mul, mul-sub, mul-lt-mul_of_pos_right, mul_comm, mul_assoc, mul_left_comm, mul_right_comm, mul-le-mul_left, mul-le-mul_right, le_of_mul-le-mul_right}
use native.Mathlib.Decide.{dec_le}
use native.Mathlib.Omega.{arith}
use lib.IntN.{ℤ}
use lib.Dec.{T}
use lib.Pow.{pow-add, pow_pos}
use lib.Ieee.{Float, nan, inf, fin, binary32, up, down, size, round, fits, to_bits}
use lib.Ieee.Fits.{down_pos, round-fits}
use lib.Ieee.Exact.{HasValue}
use lib.Ieee.Order.{drop, kept}
use lib.Ieee.Positive.{den}
use lib.Ieee.Scale.{finite}
use Rattle.rounding.specs.Narrow.{narrowed}
use Rattle.rounding.proofs.laws.Narrow.{narrowed_signed, fits_units}
use Rattle.laws.proofs.laws.FloatValue.{value_unique}
use Rattle.rounding.proofs.laws.Rounding.{Rounded, rounded, at_most, at_least, round_infinite, round_value, bits_of_value, size_bits}
use Rattle.rounding.proofs.laws.RoundedNearest.{rounded_near, rounded_tie, reached, not_reached}
use Rattle.rounding.specs.NarrowNearest.{gap, apart, distance, LastDigitEven, IsNearestFloat, Narrows}

-- ---- distances

gap_scale : (c a b : ℕ) → c * gap a b ≡ gap (c * a) (c * b)
gap_scale c a b = mul-add c (a - b) (b - a) ∙ ap₂ (λ (x y : ℕ). x + y) (mul-sub c a b) (mul-sub c b a)

apart_scale : (c : ℕ) (s : Bool) (a : ℕ) (t : Bool) (b : ℕ) → c * apart s a t b ≡ apart s (c * a) t (c * b)
apart_scale c true a true b = gap_scale c a b
apart_scale c true a false b = mul-add c a b
apart_scale c false a true b = mul-add c a b
apart_scale c false a false b = gap_scale c a b

-- in units of 1 / l
units_apart : (s t : Bool) (a c : ℕ) (n u d y l : ℕ) → n * u * l ≡ y * d → l * apart s (a * d) t (n * u * c) ≡ d * apart s (a * l) t (y * c)
units_apart s t a c n u d y l e =
    apart_scale l s (a * d) t (n * u * c)
    ∙ ap₂ (λ (x z : ℕ). apart s x t z) (mul_left_comm l a d ∙ ap (λ (x : ℕ). a * x) (mul_comm l d) ∙ mul_left_comm a d l)
    (mul_comm l (n * u * c) ∙ mul_right_comm (n * u) c l ∙ ap (λ (x : ℕ). x * c) (e ∙ mul_comm y d) ∙ mul_assoc d y c)
    ∙ sym (apart_scale d s (a * l) t (y * c))

-- two distances over different denominators
cross_le : (l p q d e g h : ℕ) → 0 < l → l * p ≡ d * g → l * q ≡ e * h → g ≤ h → p * e ≤ q * d
cross_le l p q d e g h L x y m =
    le_of_mul-le-mul_right
    (le_trans (le_of_eq (mul_comm (p * e) l ∙ sym (mul_assoc l p e) ∙ ap (λ (z : ℕ). z * e) x ∙ mul_right_comm d g e))
    (le_trans (mul-le-mul_left (d * e) m)
    (le_of_eq (mul_assoc d e h ∙ ap (λ (z : ℕ). d * z) (sym y) ∙ mul_left_comm d l q ∙ mul_comm l (d * q) ∙ ap (λ (z : ℕ). z * l) (mul_comm d q)))))
    L

pub cross_back : (l p q d e g h : ℕ) → 0 < d → 0 < e → l * p ≡ d * g → l * q ≡ e * h → p * e ≤ q * d → g ≤ h
cross_back l p q d e g h D E x y m =
    le_of_mul-le-mul_right
    (le_trans (le_of_eq (mul_comm g (d * e) ∙ mul_right_comm d e g ∙ ap (λ (z : ℕ). z * e) (sym x) ∙ mul_assoc l p e))
    (le_trans (mul-le-mul_left l m)
    (le_of_eq (sym (mul_assoc l q d) ∙ ap (λ (z : ℕ). z * d) y ∙ mul_right_comm e h d ∙ ap (λ (z : ℕ). z * h) (mul_comm e d) ∙ mul_comm (d * e) h))))
    (mul-pos D E)

alike : (s : Bool) (a b : ℕ) → apart s a s b ≡ gap a b
alike true a b = refl
alike false a b = refl

-- ---- r = ±q * 2 ^ k units, where n / c is rounded to q * 2 ^ k with p digits, against y = ±w * 2 ^ j units
module _ (p n c k q : ℕ) (P : 0 < p) (C : 0 < c) (R : Rounded p n c k q) where
  to_zero : gap n (q * 2 ^ k * c) ≤ n
  to_zero = le_trans (rounded_near p n c k q P C R 0 0 (pow_pos p)) (omega (arith, zero-mul c))

  near : (s t : Bool) (w j : ℕ) → w < 2 ^ p → gap n (q * 2 ^ k * c) ≤ apart s n t (w * 2 ^ j * c)
  near true true w j W = rounded_near p n c k q P C R w j W
  near true false w j W = omega (arith, to_zero)
  near false true w j W = omega (arith, to_zero)
  near false false w j W = rounded_near p n c k q P C R w j W

  -- a value of the other sign that is as near is a zero, and so 0 is as near
  other : (w j : ℕ) → gap n (q * 2 ^ k * c) ≡ n + w * 2 ^ j * c → q % 2 ≡ 0
  other w j e = elim (eq-zero-or-pos q) [
    | inl z ↦ ap (λ (x : ℕ). x % 2) z
    | inr l ↦
        rounded_tie p n c k q P C R 0 0 (pow_pos p) (λ (z : 0 ≡ q * 2 ^ k). lt_irrefl 0 (subst (λ (x : ℕ). 0 < x) (sym z) (mul-pos l (pow_pos k))))
        (omega (arith, to_zero, zero-mul c))
  ]

  tied : (s t : Bool) (w j : ℕ) → w < 2 ^ p → (t ≡ s → w * 2 ^ j ≢ q * 2 ^ k) → gap n (q * 2 ^ k * c) ≡ apart s n t (w * 2 ^ j * c) → q % 2 ≡ 0
  tied true true w j W ne e = rounded_tie p n c k q P C R w j W (ne refl) e
  tied true false w j W ne e = other w j e
  tied false true w j W ne e = other w j e
  tied false false w j W ne e = rounded_tie p n c k q P C R w j W (ne refl) e

-- ---- the same of floats

digits_pos : 0 < 24
digits_pos = omega arith

-- a carry to 2 ^ 24 is 2 ^ 23 with a digit more dropped
even_of : (r : Float) (s : Bool) (q k : ℕ) → HasValue r s (q * 2 ^ k) (2 ^ 149) → q ≤ 2 ^ 24 → (k ≡ 0) ⊎ (2 ^ 23 ≤ q) → q % 2 ≡ 0 → LastDigitEven r
even_of nan s q k v m l z = absurd v
even_of (inf t) s q k v m l z = absurd v
even_of (fin t n d) s q k v m l z = elim (eq-or-lt_of_le m) [
  | inl e ↦
      record {
        digits = 2 ^ 23;
        shift = suc k;
        value = v.1 ∙ ap (λ (x : ℕ). x * down d) (ap (λ (x : ℕ). x * 2 ^ k) e ∙ sym (pow-add 2 24 k) ∙ ap (λ (x : ℕ). 2 ^ x) more ∙ pow-add 2 23 (suc k));
        most = omega arith;
        least = inr (omega arith);
        even = refl;
      }
  | inr h ↦ record { digits = q; shift = k; value = v.1; most = h; least = l; even = z }
]
  where
    more : 24 + k ≡ 23 + suc k
    more = omega arith

-- the distance in units to a value of the same sign, z units
pub to_like : (s : Bool) (m : ℕ) (e : ℤ) (t : Bool) (n : ℕ) (d : ℤ) (z : ℕ) → HasValue (fin t n d) s z (2 ^ 149)
    → 2 ^ 149 * distance (fin s m e) (fin t n d) ≡ down d * gap (m * up e * 2 ^ 149) (z * down e)
to_like s m e t n d z v =
    units_apart s t (m * up e) (down e) n (up d) (down d) z (2 ^ 149) v.1
    ∙ ap (λ (x : ℕ). down d * x) (ap (λ (u : Bool). apart s (m * up e * 2 ^ 149) u (z * down e)) v.0 ∙ alike s (m * up e * 2 ^ 149) (z * down e))

module _ (s : Bool) (m : ℕ) (e : ℤ) (k q : ℕ) (R : Rounded 24 (m * up e * 2 ^ 149) (down e) k q) where
  nearest_of : (t : Bool) (n : ℕ) (d : ℤ) → HasValue (fin t n d) s (q * 2 ^ k) (2 ^ 149) → T (fits binary32 (fin t n d)) → (y : Float) → T (finite y) → T (fits binary32 y)
      → distance (fin s m e) (fin t n d) * den y ≤ distance (fin s m e) y * down d
  nearest_of t n d v F nan Y G = absurd Y
  nearest_of t n d v F (inf u) Y G = absurd Y
  nearest_of t n d v F (fin u w g) Y G =
      let J = fits_units binary32 u w g G in
      cross_le (2 ^ 149) (distance (fin s m e) (fin t n d)) (distance (fin s m e) (fin u w g)) (down d) (down g)
      (gap (m * up e * 2 ^ 149) (q * 2 ^ k * down e)) (apart s (m * up e * 2 ^ 149) u (w * 2 ^ J.0 * down e)) (pow_pos 149)
      (to_like s m e t n d (q * 2 ^ k) v) (units_apart s u (m * up e) (down e) w (up g) (down g) (w * 2 ^ J.0) (2 ^ 149) J.2)
      (near 24 (m * up e * 2 ^ 149) (down e) k q digits_pos (down_pos e) R s u w J.0 J.1)

  tie_of : (t : Bool) (n : ℕ) (d : ℤ) → HasValue (fin t n d) s (q * 2 ^ k) (2 ^ 149) → T (fits binary32 (fin t n d)) → (y : Float) → T (finite y) → T (fits binary32 y) → y ≢ fin t n d
      → distance (fin s m e) (fin t n d) * den y ≡ distance (fin s m e) y * down d → LastDigitEven (fin t n d)
  tie_of t n d v F nan Y G ne h = absurd Y
  tie_of t n d v F (inf u) Y G ne h = absurd Y
  tie_of t n d v F (fin u w g) Y G ne h =
      let J = fits_units binary32 u w g G in
      let N = m * up e * 2 ^ 149 in
      let x = fin s m e in
      let a = to_like s m e t n d (q * 2 ^ k) v in
      let b = units_apart s u (m * up e) (down e) w (up g) (down g) (w * 2 ^ J.0) (2 ^ 149) J.2 in
      let A = gap N (q * 2 ^ k * down e) in
      let B = apart s N u (w * 2 ^ J.0 * down e) in
      even_of (fin t n d) s q k v (at_most 24 N (down e) k q (down_pos e) R) (at_least 24 N (down e) k q (down_pos e) R)
      (tied 24 N (down e) k q digits_pos (down_pos e) R s u w J.0 J.1
      (λ (f : u ≡ s) (z : w * 2 ^ J.0 ≡ q * 2 ^ k). ne (value_unique binary32 (fin u w g) (fin t n d) s (q * 2 ^ k) (2 ^ 149) (pow_pos 149) G F (f, J.2 ∙ ap (λ (x : ℕ). x * down g) z) v))
      (le_antisymm
      (cross_back (2 ^ 149) (distance x (fin t n d)) (distance x (fin u w g)) (down d) (down g) A B (down_pos d) (down_pos g) a b (le_of_eq h))
      (cross_back (2 ^ 149) (distance x (fin u w g)) (distance x (fin t n d)) (down g) (down d) B A (down_pos g) (down_pos d) b a (le_of_eq (sym h)))))

  all_of : (r : Float) → HasValue r s (q * 2 ^ k) (2 ^ 149) → T (fits binary32 r) → IsNearestFloat (fin s m e) r
  all_of nan v F = absurd v
  all_of (inf t) v F = absurd v
  all_of (fin t n d) v F = record { is_finite = tt; is_float = F; nearest = nearest_of t n d v F; tie = tie_of t n d v F }

-- ---- where it overflows: w = 2 ^ 24 digits, h = 2 ^ 103 and l = 2 ^ 149 units

module _ (a c w h l : ℕ) where
  less_half : (2 * (w * h) - h) * c ≡ 2 * (w * (c * h)) - c * h
  less_half = mul_comm (2 * (w * h) - h) c ∙ mul-sub c (2 * (w * h)) h ∙ ap (λ (x : ℕ). x - c * h) (mul_left_comm c 2 (w * h) ∙ ap (λ (x : ℕ). 2 * x) (mul_left_comm c w h))

  half : c * (h * l) ≡ c * h * l
  half = sym (mul_assoc c h l)

  whole : 2 * (w * (c * (h * l))) ≡ 2 * (w * (c * h)) * l
  whole = ap (λ (x : ℕ). 2 * x) (ap (λ (x : ℕ). w * x) half ∙ sym (mul_assoc w (c * h) l)) ∙ sym (mul_assoc 2 (w * (c * h)) l)

  sum : a * l + c * (h * l) ≡ (a + c * h) * l
  sum = ap (λ (x : ℕ). a * l + x) half ∙ sym (add-mul a (c * h) l)

  half_way : (2 * (w * h) - h) * c ≤ a → 2 * (w * (c * (h * l))) ≤ a * l + c * (h * l)
  half_way t = subst₂ (λ (x y : ℕ). x ≤ y) (sym whole) (sym sum) (mul-le-mul_right l (omega (arith, less_half)))

  below_half_way : 0 < l → a < (2 * (w * h) - h) * c → a * l + c * (h * l) < 2 * (w * (c * (h * l)))
  below_half_way L t = subst₂ (λ (x y : ℕ). x < y) (sym sum) (sym whole) (mul-lt-mul_of_pos_right (omega (arith, less_half)) L)

pub narrowed_nearest : (s : Bool) (m : ℕ) (e : ℤ) → Narrows s m e (narrowed (fin s m e))
unfolding narrowed
narrowed_nearest s m e =
    let a = m * up e in
    let n = a * 2 ^ 149 in
    let k = drop 24 n (down e) in
    let q = kept 24 n (down e) in
    let R = rounded 24 n (down e) digits_pos (down_pos e) in
    record {
      sign = narrowed_signed s (fin s m e) refl;
      overflows = λ t. round_infinite binary32 s a (down e) (reached 24 n (down e) k q 252 digits_pos (down_pos e) R (half_way a (down e) (2 ^ 24) (2 ^ 103) (2 ^ 149) t));
      otherwise = λ t.
          all_of s m e k q R (round binary32 s a (down e))
          (round_value binary32 s a (down e) (not_reached 24 n (down e) k q 252 digits_pos (down_pos e) R (below_half_way a (down e) (2 ^ 24) (2 ^ 103) (2 ^ 149) (pow_pos 149) t)))
          (round-fits binary32 s a (down e));
    }

-- ---- both ways: an infinity, exactly there

finite-inf : (s : Bool) (r : Float) → T (finite r) → r ≡ inf s → ⊥
finite-inf s r t e = subst (λ (x : Float). T (finite x)) e t

pub narrowed_infinite : (s : Bool) (m : ℕ) (e : ℤ) → (narrowed (fin s m e) ≡ inf s) ↔ ((2 ^ 128 - 2 ^ 103) * down e ≤ m * up e)
narrowed_infinite s m e = (only (dec_le ((2 ^ 128 - 2 ^ 103) * down e) (m * up e)), N.overflows)
  where
    N : Narrows s m e (narrowed (fin s m e))
    N = narrowed_nearest s m e

    only : Dec ((2 ^ 128 - 2 ^ 103) * down e ≤ m * up e) → narrowed (fin s m e) ≡ inf s → (2 ^ 128 - 2 ^ 103) * down e ≤ m * up e
    only (yes h) i = h
    only (no h) i = absurd (finite-inf s (narrowed (fin s m e)) (N.otherwise (lt_of_not-le h)).is_finite i)

-- ---- the last digit is the last bit

bits_even : (s : Bool) (b k q : ℕ) → b ≡ cond s (2 ^ 31) 0 + (k * 2 ^ 23 + q) → q % 2 ≡ 0 → b % 2 ≡ 0
bits_even true b k q e z = omega arith
bits_even false b k q e z = omega arith

pub last_bit_even : (r : Float) → T (finite r) → LastDigitEven r → to_bits binary32 r % 2 ≡ 0
last_bit_even nan t E = absurd t
last_bit_even (inf s) t E = absurd t
last_bit_even (fin s n d) t E =
    let a = E.digits * 2 ^ E.shift in
    bits_even s (to_bits binary32 (fin s n d)) E.shift E.digits
    (bits_of_value binary32 (fin s n d) s a (refl, E.value)
    ∙ add_assoc (cond s (2 ^ 31) 0) ((size a - 24) * 2 ^ 23) (a / 2 ^ (size a - 24))
    ∙ ap (λ (x : ℕ). cond s (2 ^ 31) 0 + x) (size_bits 24 E.digits E.shift digits_pos (le_of_lt E.most) E.least))
    E.even
