-- The 16-bit value of a sample, as the sum of 32768 x and 12582912.0 has it in its lowest digits. Assumes nothing.
use mathlib.Core.Path.{◌≡◌, refl, sym, ap, ◌∙◌, subst, subst₂}
use mathlib.Core.Bool.{Bool, true, false, not, true≢false}
use Prim.Native.Nat.{ℕ, zero, suc, ◌+◌, ◌-◌, ◌*◌, ◌%◌, ◌≤◌, ◌<◌, min}
use native.Mathlib.Nat.{le_trans, le_of_eq, mul_comm, mul_assoc, mul-one, one-mul, mul-pos, mul-le-mul_right, add-mul, mul_right_comm, le_of_mul-le-mul_right}
use native.Mathlib.Decide.{dec_le}
use native.Mathlib.Omega.{arith}
use lib.Dec.{T, ltb}
use lib.IntN.{ℤ, pos, neg_ℤ, nat_abs}
use lib.Ieee.{Float, nan, inf, fin, binary32, up, down, round, add, sum, mul, of_int, of_bits, to_bits, fits, is_nan}
use borrow.Author.Tests.{lt-ltb}
use lib.Ieee.Fits.{down_pos}
use lib.Ieee.Exact.{HasValue}
use lib.Ieee.Scale.{round_same}
use Rattle.laws.proofs.laws.Arithmetic.{minus_times}
use Rattle.laws.proofs.laws.Choice.{cond-true}
use Rattle.laws.specs.FloatBounds.{Within}
use Rattle.laws.proofs.laws.FloatBounds.{within_of_tests, holds_value, holds_small}
use Rattle.rounding.specs.Nearest.{nearest_quotient}
use Rattle.rounding.proofs.laws.Nearest.{IsNearest}
use Rattle.rounding.proofs.laws.Nearest.{nearest_quotient_nearest, nearest_quotient_is, nearest_quotient_shift}
use Rattle.rounding.proofs.laws.Rounding.{bits}
use Rattle.pcm.specs.Sample.{InRange, bits16, raised16, nearest16}
use Rattle.pcm.proofs.laws.Scaled.{scaled_value, whole_bits}

-- ---- the range

pub in_range_within : (x : Float) → InRange x → Within x 1 1
unfolding of_int
in_range_within x r = within_of_tests (of_int binary32 (pos 1)) (holds_value false (holds_small binary32 1 (omega arith))) r.not_below r.not_above

pub in_range_number : (x : Float) → InRange x → T (not (is_nan x))
unfolding is_nan
in_range_number nan r = absurd (in_range_within nan r).is_finite
in_range_number (inf s) r = tt
in_range_number (fin s m e) r = tt

-- ---- the sum, by the fraction a / c that 32768 x is in size

-- 12582912 c ± a is between 2^23 and 2^24 times c
sum_least : (a c : ℕ) → a ≤ 32768 * c → 8388608 * c ≤ 12582912 * c - a
sum_least a c h = omega arith

sum_most : (a c : ℕ) → 0 < c → a ≤ 32768 * c → 12582912 * c + a < 16777216 * c
sum_most a c C h = omega arith

nearest_most16 : (a c q : ℕ) → 0 < c → a ≤ 32768 * c → IsNearest a c q → q ≤ 32768
nearest_most16 a c q C h Q = elim (dec_le q 32768) [
  | yes k ↦ k
  | no k ↦
      let g : 32769 * c ≤ q * c = mul-le-mul_right c (omega arith) in
      absurd (omega (arith, Q.not_above))
]

above : (a c : ℕ) → 0 < c → nearest_quotient (12582912 * c + a) c ≡ 12582912 + nearest_quotient a c
above a c C =
    ap (λ (n : ℕ). nearest_quotient n c) (twice c)
    ∙ nearest_quotient_shift a c 6291456 C
    ∙ omega arith
  where
    twice : (c : ℕ) → 12582912 * c + a ≡ 2 * (6291456 * c) + a
    twice c = omega arith

under : (a c q : ℕ) → 0 < c → a ≤ 32768 * c → IsNearest a c q → IsNearest (12582912 * c - a) c (12582912 - q)
under a c q C h Q =
    let m = nearest_most16 a c q C h Q in
    let e : (12582912 - q) * c ≡ 12582912 * c - q * c = minus_times 12582912 q c in
    let g : q * c ≤ 32768 * c = mul-le-mul_right c m in
    record {
      not_below = omega (arith, Q.not_above);
      not_above = omega (arith, Q.not_below);
      even_below = λ t. even q m (Q.even_above (omega arith));
      even_above = λ t. even q m (Q.even_below (omega arith));
    }
  where
    even : (q : ℕ) → q ≤ 32768 → q % 2 ≡ 0 → (12582912 - q) % 2 ≡ 0
    even q m z = omega arith

below : (a c : ℕ) → 0 < c → a ≤ 32768 * c → nearest_quotient (12582912 * c - a) c ≡ 12582912 - nearest_quotient a c
below a c C h = nearest_quotient_is (12582912 * c - a) c (12582912 - nearest_quotient a c) C (under a c (nearest_quotient a c) C h (nearest_quotient_nearest a c C))

-- ---- the sum itself

scale_is : of_bits binary32 1191182336 ≡ fin false 1 (pos 15)
unfolding of_bits
scale_is = refl

offset_is : of_bits binary32 1262485504 ≡ fin false 3 (pos 22)
unfolding of_bits
offset_is = refl

-- y + 12582912.0 for a y of size a / c
add_plus : (y : Float) (a c : ℕ) → 0 < c → HasValue y false a c → add binary32 y (fin false 3 (pos 22)) ≡ round binary32 false (12582912 * c + a) c
unfolding add sum
add_plus nan a c C v = absurd v
add_plus (inf s) a c C v = absurd v
add_plus (fin true n d) a c C v = absurd (true≢false v.0)
add_plus (fin false n d) a c C v =
    round_same binary32 false (n * up d * 1 + 12582912 * down d) (down d * 1) (12582912 * c + a) c (mul-pos (down_pos d) (omega arith)) C
    (meet (n * up d) (down d) a c v.1)
  where
    meet : (p q a c : ℕ) → p * c ≡ a * q → (p * 1 + 12582912 * q) * c ≡ (12582912 * c + a) * (q * 1)
    meet p q a c h =
        add-mul (p * 1) (12582912 * q) c
        ∙ omega (arith, ap (λ (x : ℕ). x * c) (mul-one p), h, mul_assoc 12582912 q c, mul_comm q c, mul_assoc 12582912 c q, add-mul (12582912 * c) a q, ap (λ (x : ℕ). (12582912 * c + a) * x) (mul-one q))

add_minus : (y : Float) (a c : ℕ) → 0 < c → a ≤ 32768 * c → HasValue y true a c → add binary32 y (fin false 3 (pos 22)) ≡ round binary32 false (12582912 * c - a) c
unfolding add sum
add_minus nan a c C h v = absurd v
add_minus (inf s) a c C h v = absurd v
add_minus (fin false n d) a c C h v = absurd (true≢false (sym v.0))
add_minus (fin true n d) a c C h v =
    cond-true (ltb (n * up d * 1) (12582912 * down d)) (round binary32 false (12582912 * down d - n * up d * 1) (down d * 1)) _ (less (n * up d) (down d) (down_pos d) (small (n * up d) (down d) a c C h v.1))
    ∙ round_same binary32 false (12582912 * down d - n * up d * 1) (down d * 1) (12582912 * c - a) c (mul-pos (down_pos d) (omega arith)) C
    (meet (n * up d) (down d) a c v.1)
  where
    small : (p q a c : ℕ) → 0 < c → a ≤ 32768 * c → p * c ≡ a * q → p ≤ 32768 * q
    small p q a c C h e =
        le_of_mul-le-mul_right {k = c} (le_trans (le_of_eq e) (le_trans (mul-le-mul_right q h) (le_of_eq (mul_right_comm 32768 c q)))) C

    less : (p q : ℕ) → 0 < q → p ≤ 32768 * q → ltb (p * 1) (12582912 * q) ≡ true
    less p q Q h = lt-ltb (p * 1) (12582912 * q) (omega (arith, mul-one p))

    meet : (p q a c : ℕ) → p * c ≡ a * q → (12582912 * q - p * 1) * c ≡ (12582912 * c - a) * (q * 1)
    meet p q a c h =
        minus_times (12582912 * q) (p * 1) c
        ∙ ap (λ (x : ℕ). x - p * 1 * c) (mul_right_comm 12582912 q c)
        ∙ ap (λ (x : ℕ). 12582912 * c * q - x) (ap (λ (x : ℕ). x * c) (mul-one p) ∙ h)
        ∙ sym (minus_times (12582912 * c) a q)
        ∙ sym (ap (λ (x : ℕ). (12582912 * c - a) * x) (mul-one q))

-- ---- its bits

in_bits : (q : ℕ) → q ≤ 16777216 → bits binary32 false q 149 ≡ 1249902592 + q
in_bits q h = omega arith

product : (s : Bool) (m : ℕ) (e : ℤ) → T (fits binary32 (fin s m e)) → m * up e ≤ down e
    → HasValue (mul binary32 (fin s m e) (fin false 1 (pos 15))) s (m * up e * 32768) (down e)
unfolding mul
product true m e F W = subst (λ (d : ℕ). HasValue (round binary32 true (m * up e * 32768) d) true (m * up e * 32768) (down e)) (sym (mul-one (down e))) (scaled_value binary32 true m e F W 15 (omega arith))
product false m e F W = subst (λ (d : ℕ). HasValue (round binary32 false (m * up e * 32768) d) false (m * up e * 32768) (down e)) (sym (mul-one (down e))) (scaled_value binary32 false m e F W 15 (omega arith))

-- by the sign: how many units of 1 / 32768 the value lies from 0, at most 32768
abbrev pub signed_sum : Bool → ℕ → ℕ
signed_sum false q = 32768 + q
signed_sum true q = 32768 - q

abbrev pub quotient16 : ℕ → ℤ → ℕ
quotient16 m e = nearest_quotient (m * up e * 32768) (down e)

module _ (m : ℕ) (e : ℤ) (W : m * up e ≤ down e) where
  least : m * up e * 32768 ≤ 32768 * down e
  least = le_trans (mul-le-mul_right 32768 W) (le_of_eq (mul_comm (down e) 32768))

  pub quotient_most : quotient16 m e ≤ 32768
  quotient_most = nearest_most16 (m * up e * 32768) (down e) (quotient16 m e) (down_pos e) least (nearest_quotient_nearest (m * up e * 32768) (down e) (down_pos e))

  plus_bits : to_bits binary32 (round binary32 false (12582912 * down e + m * up e * 32768) (down e)) ≡ 1262452736 + signed_sum false (quotient16 m e)
  plus_bits =
      let A = m * up e * 32768 in
      let n = 12582912 * down e + A in
      whole_bits binary32 n (down e) (down_pos e) (omega arith) (sum_most A (down e) (down_pos e) least)
      ∙ ap (λ (q : ℕ). bits binary32 false q 149) (above A (down e) (down_pos e))
      ∙ in_bits (12582912 + quotient16 m e) (omega (arith, quotient_most))
      ∙ omega arith

  minus_bits : to_bits binary32 (round binary32 false (12582912 * down e - m * up e * 32768) (down e)) ≡ 1262452736 + signed_sum true (quotient16 m e)
  minus_bits =
      let A = m * up e * 32768 in
      let n = 12582912 * down e - A in
      whole_bits binary32 n (down e) (down_pos e) (sum_least A (down e) least) (small A (down e) (down_pos e))
      ∙ ap (λ (q : ℕ). bits binary32 false q 149) (below A (down e) (down_pos e) least)
      ∙ in_bits (12582912 - quotient16 m e) (omega arith)
      ∙ omega (arith, quotient_most)
    where
      small : (a c : ℕ) → 0 < c → 12582912 * c - a < 16777216 * c
      small a c C = omega arith

pub sum_bits : (s : Bool) (m : ℕ) (e : ℤ) → T (fits binary32 (fin s m e)) → m * up e ≤ down e
    → to_bits binary32 (add binary32 (mul binary32 (fin s m e) (fin false 1 (pos 15))) (fin false 3 (pos 22))) ≡ 1262452736 + signed_sum s (quotient16 m e)
sum_bits false m e F W =
    ap (to_bits binary32) (add_plus (mul binary32 (fin false m e) (fin false 1 (pos 15))) (m * up e * 32768) (down e) (down_pos e) (product false m e F W)) ∙ plus_bits m e W
sum_bits true m e F W =
    ap (to_bits binary32) (add_minus (mul binary32 (fin true m e) (fin false 1 (pos 15))) (m * up e * 32768) (down e) (down_pos e) (least m e W) (product true m e F W)) ∙ minus_bits m e W

-- ---- as the code has it: what the sum's bits are, and that they are those of the 16-bit value

abbrev pub sum_of : Float → Float
sum_of x = add binary32 (mul binary32 x (of_bits binary32 1191182336)) (of_bits binary32 1262485504)

-- before it stops at 32767
unfoldable uncut : Float → ℕ
uncut nan = 0
uncut (inf s) = 0
uncut (fin s m e) = signed_sum s (quotient16 m e)

sized : (s : Bool) (m : ℕ) (e : ℤ) → InRange (fin s m e) → m * up e ≤ down e
sized s m e r = subst₂ (λ (p q : ℕ). p ≤ q) (mul-one (m * up e)) (one-mul (down e)) (in_range_within (fin s m e) r).size

bits_are : (x : Float) → T (fits binary32 x) → InRange x → to_bits binary32 (sum_of x) ≡ 1262452736 + uncut x
unfolding uncut
bits_are nan F r = absurd (in_range_within nan r).is_finite
bits_are (inf s) F r = absurd (in_range_within (inf s) r).is_finite
bits_are (fin s m e) F r =
    ap (λ (y : Float). to_bits binary32 (add binary32 (mul binary32 (fin s m e) y) (of_bits binary32 1262485504))) scale_is
    ∙ ap (λ (y : Float). to_bits binary32 (add binary32 (mul binary32 (fin s m e) (fin false 1 (pos 15))) y)) offset_is
    ∙ sum_bits s m e F (sized s m e r)

uncut_most : (x : Float) → InRange x → uncut x ≤ 65536
unfolding uncut
uncut_most nan r = omega arith
uncut_most (inf s) r = omega arith
uncut_most (fin false m e) r = omega (arith, quotient_most m e (sized false m e r))
uncut_most (fin true m e) r = omega arith

raised_neg : (n : ℕ) → raised16 (neg_ℤ (pos n)) ≡ 32768 - n
unfolding raised16
raised_neg zero = refl
raised_neg (suc n) = refl

uncut_below : (x : Float) → InRange x → uncut x < 65536 → uncut x ≡ raised16 (nearest16 x)
unfolding uncut nearest16 raised16
uncut_below nan r h = absurd (in_range_within nan r).is_finite
uncut_below (inf s) r h = absurd (in_range_within (inf s) r).is_finite
uncut_below (fin false m e) r h = omega arith
uncut_below (fin true m e) r h = omega (arith, quotient_most m e (sized true m e r), raised_neg (min (quotient16 m e) 32768))

uncut_above : (x : Float) → InRange x → 65536 ≤ uncut x → 65535 ≡ raised16 (nearest16 x)
unfolding uncut nearest16 raised16
uncut_above nan r h = absurd (in_range_within nan r).is_finite
uncut_above (inf s) r h = absurd (in_range_within (inf s) r).is_finite
uncut_above (fin false m e) r h = omega arith
uncut_above (fin true m e) r h = absurd (omega arith)

small_number : (z : Float) → to_bits binary32 z < 2143289344 → T (not (is_nan z))
unfolding to_bits is_nan
small_number nan h = absurd (omega arith)
small_number (inf s) h = tt
small_number (fin s m e) h = tt

module _ (x : Float) (F : T (fits binary32 x)) (r : InRange x) where
  pub sum_least16 : 1262452736 ≤ to_bits binary32 (sum_of x)
  sum_least16 = omega (arith, bits_are x F r)

  pub sum_number : T (not (is_nan (sum_of x)))
  sum_number = small_number (sum_of x) (omega (arith, bits_are x F r, uncut_most x r))

  pub below_cut : to_bits binary32 (sum_of x) - 1262452736 < 65536 → to_bits binary32 (sum_of x) - 1262452736 ≡ raised16 (nearest16 x)
  below_cut h =
      let e : to_bits binary32 (sum_of x) - 1262452736 ≡ uncut x = omega (arith, bits_are x F r) in
      e ∙ uncut_below x r (omega arith)

  pub at_cut : 65536 ≤ to_bits binary32 (sum_of x) - 1262452736 → 65535 ≡ raised16 (nearest16 x)
  at_cut h =
      let e : to_bits binary32 (sum_of x) - 1262452736 ≡ uncut x = omega (arith, bits_are x F r) in
      uncut_above x r (omega arith)

-- ---- the 16-bit value's range, its bits and its distance from 0, by the raised value

pub record FromRaised (v : ℤ) : Type 0 where
  pub bits : bits16 v ≡ (raised16 v + 32768) % 65536
  pub lower : raised16 v < 32768 → nat_abs v ≡ 32768 - raised16 v
  pub upper : 32768 ≤ raised16 v → nat_abs v ≡ raised16 v - 32768

from_pos : (n : ℕ) → n ≤ 32767 → FromRaised (pos n)
unfolding raised16 bits16
from_pos n h = record { bits = omega arith; lower = λ k. absurd (omega arith); upper = λ k. omega arith }

from_neg : (n : ℕ) → n ≤ 32768 → FromRaised (neg_ℤ (pos n))
unfolding raised16 bits16
from_neg zero h = record { bits = omega arith; lower = λ k. absurd (omega arith); upper = λ k. omega arith }
from_neg (suc n) h = record { bits = omega arith; lower = λ k. omega arith; upper = λ k. absurd (omega arith) }

pub from_raised : (x : Float) → FromRaised (nearest16 x)
unfolding nearest16
from_raised nan = from_pos 0 (omega arith)
from_raised (inf s) = from_pos 0 (omega arith)
from_raised (fin false m e) = from_pos (min (quotient16 m e) 32767) (omega arith)
from_raised (fin true m e) = from_neg (min (quotient16 m e) 32768) (omega arith)
