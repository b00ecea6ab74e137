-- One taken off a number that is one at least and below 2 ^ prec: the difference is exact, in f32 and in f64. And what a cast to a whole number
-- keeps of such a number. `unit f` of the format's smallest values are one. Assumes nothing.
use mathlib.Core.Path.{◌≡◌, sym, ap, ◌∙◌, subst}
use mathlib.Core.Logic.{◌⊎◌, inl, inr}
use Prim.Native.Nat.{ℕ, ◌+◌, ◌-◌, ◌*◌, ◌/◌, ◌^◌, ◌≤◌, ◌<◌, min}
use native.Mathlib.Nat.{le_of_lt, lt_of_le_of_lt, lt_of_mul-lt-mul_right, sub-le, sub-add_cancel, one-mul, mul_comm, mul_assoc, mul-sub, zero-div, min-eq_left, div-lt_iff_lt-mul}
use native.Mathlib.Omega.{arith}
use mathlib.Core.Bool.{Bool, true, false, not}
use lib.Dec.{T, leb, leb→le, nleb→lt}
use lib.Pow.{pow-add, pow_pos}
use lib.Ieee.{Float, nan, inf, fin, Format, prec, low, up, down, sub, to_unsigned}
use lib.Ieee.Fits.{down_pos}
use lib.Ieee.Nearest.{div_same}
use lib.Ieee.Scale.{overflow}
use Rattle.laws.proofs.laws.Arithmetic.{one_digit}
use Rattle.laws.specs.FloatOrder.{Number, magnitude, plus, minus}
use Rattle.laws.proofs.laws.FloatOrder.{OnGrid, plus_on_grid, magnitude_exact, one_sided}
use Rattle.laws.proofs.laws.FloatRound.{sub_exact, at_integer}
use Rattle.laws.specs.FloatRound.{integer}
use Rattle.clock.specs.Clock.{unit}

-- y is x less one, and both are numbers of the format
pub record OneLess (f : Format) (x y : Float) : Type 0 where
  pub number : Number f y
  pub least : minus f y ≡ 0
  pub exact : plus f y + unit f ≡ plus f x

-- ---- one less than a number of few digits has few digits

split : (p l : ℕ) → p ≤ l → 2 ^ l ≡ 2 ^ (l - p) * 2 ^ p
split p l h = ap (λ (x : ℕ). 2 ^ x) (sym (sub-add_cancel h)) ∙ pow-add 2 (l - p) p

take_off : (d e q : ℕ) → d * q - e * q ≡ (d - e) * q
take_off d e q = sym (mul_comm (d - e) q ∙ mul-sub q d e ∙ ap (λ (x : ℕ). x - q * e) (mul_comm q d) ∙ ap (λ (x : ℕ). d * q - x) (mul_comm q e))

less_one : (f : Format) (w : ℕ) → OnGrid f w → w < 2 ^ prec f * unit f → OnGrid f (w - unit f)
less_one f w g h = go (leb g.place (low f)) (leb→le g.place (low f)) (nleb→lt g.place (low f))
  where
    fine : w - unit f < overflow f
    fine = lt_of_le_of_lt (sub-le w (unit f)) g.under

    go : (b : Bool) → (T b → g.place ≤ low f) → (T (not b) → low f < g.place) → OnGrid f (w - unit f)
    go true s t =
        let e = 2 ^ (low f - g.place) in
        record {
          digits = g.digits - e;
          place = g.place;
          is = ap (λ (x : ℕ). x - unit f) g.is ∙ ap (λ (x : ℕ). g.digits * 2 ^ g.place - x) (split g.place (low f) (s tt)) ∙ take_off g.digits e (2 ^ g.place);
          few = lt_of_le_of_lt (sub-le g.digits e) g.few;
          under = fine;
        }
    go false s t =
        let n = g.digits * 2 ^ (g.place - low f) in
        let whole : w ≡ n * unit f = g.is ∙ ap (λ (x : ℕ). g.digits * x) (split (low f) g.place (le_of_lt (t tt))) ∙ sym (mul_assoc g.digits (2 ^ (g.place - low f)) (unit f)) in
        record {
          digits = n - 1;
          place = low f;
          is = ap (λ (x : ℕ). x - unit f) whole ∙ ap (λ (x : ℕ). n * unit f - x) (sym (one-mul (unit f))) ∙ take_off n 1 (unit f);
          few = lt_of_le_of_lt (sub-le n 1) (lt_of_mul-lt-mul_right (unit f) (subst (λ (x : ℕ). x < 2 ^ prec f * unit f) whole h));
          under = fine;
        }

-- ---- the difference

-- p, q: x and one in units; their parts below zero, p' and q', are 0
exactly : (U p q p' q' : ℕ) → q ≡ 1 * U → p' ≡ 0 → q' ≡ 0 → U ≤ p → p - U + (p' + q) ≡ 0 + (p + q')
exactly U p q p' q' a b c h = omega arith

settled : (U p q p' q' y y' : ℕ) → q ≡ 1 * U → p' ≡ 0 → q' ≡ 0 → U ≤ p → (y ≡ 0) ⊎ (y' ≡ 0) → y + (p' + q) ≡ y' + (p + q') → (y' ≡ 0) × (y + U ≡ p)
settled U p q p' q' y y' a b c h (inl z) e = omega arith
settled U p q p' q' y y' a b c h (inr z) e = omega arith

pub one_less : (f : Format) (x : Float) → Number f x → minus f x ≡ 0 → unit f ≤ plus f x → plus f x < 2 ^ prec f * unit f → OneLess f x (sub f x (integer f false 1))
one_less f x N z h k =
    let one = integer f false 1 in
    let y = sub f x one in
    let o : Number f one × (plus f one ≡ 1 * unit f) × (minus f one ≡ 0) = at_integer f false 1 (one_digit f) in
    let r = sub_exact f x one false (plus f x - unit f) N o.0 (less_one f (plus f x) (plus_on_grid f x N) k) (exactly (unit f) (plus f x) (plus f one) (minus f x) (minus f one) o.1 z o.2 h) in
    let e = settled (unit f) (plus f x) (plus f one) (minus f x) (minus f one) (plus f y) (minus f y) o.1 z o.2 h (one_sided f y) r.1 in
    record { number = r.0; least = e.0; exact = e.1 }

-- ---- the whole part

cut : (w n : ℕ) → n < 2 ^ w → min n (2 ^ w - 1) ≡ n
cut w n h = min-eq_left (omega arith)

pub whole_part : (f : Format) (w : ℕ) (x : Float) → Number f x → minus f x ≡ 0 → plus f x < 2 ^ w * unit f → to_unsigned w x ≡ plus f x / unit f
unfolding to_unsigned plus
whole_part f w nan N z h = absurd N.is_finite
whole_part f w (inf s) N z h = absurd N.is_finite
whole_part f w (fin true m e) N z h = sym (zero-div (unit f))
whole_part f w (fin false m e) N z h =
    let q : m * up e / down e ≡ magnitude f (fin false m e) / unit f = div_same (m * up e) (down e) (magnitude f (fin false m e)) (unit f) (down_pos e) (pow_pos (low f)) (sym (magnitude_exact f (fin false m e) N)) in
    cut w (m * up e / down e) (subst (λ (n : ℕ). n < 2 ^ w) (sym q) ((div-lt_iff_lt-mul (pow_pos (low f))).1 h)) ∙ q
