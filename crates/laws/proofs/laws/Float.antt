-- Words for f32 and f64 values that contracts and laws share, over `lib.Ieee`, and what `fits` says of a value. Assumes nothing.
use mathlib.Core.Path.{◌≡◌, refl, sym, ap, ◌∙◌, subst}
use Prim.Native.Nat.{ℕ, zero, suc, ◌-◌, ◌*◌, ◌%◌, ◌^◌, ◌≤◌, ◌<◌}
use native.Mathlib.Nat.{mul-one, one-mul, mul_assoc, pow-succ', sub-add_cancel}
use native.Mathlib.Omega.{arith}
use mathlib.Core.Bool.{Bool, true, false, ◌&&◌}
use lib.IntN.{ℤ, pos, negsuc}
use lib.Dec.{T, leb, ltb, eqb, eqb→eq, ltb→lt, leb→le}
use lib.Pow.{pow-add, pow_pos}
use lib.Ieee.{Float, fin, Format, binary32, binary64, prec, emax, low, up, down, fits, of_bits}
use lib.Ieee.Fits.{and_l, and_r}
use Rattle.laws.proofs.laws.Arithmetic.{exponent_le}
use Rattle.laws.specs.Float.{pos_zero, neg_zero}

-- x is one of the two
pub data Zero : Float → Type 0 where
  positive_zero : Zero pos_zero
  negative_zero : Zero neg_zero

-- a zero by its sign
pub zero_of : (s : Bool) → Zero (fin s 0 (pos 0))
zero_of false = positive_zero
zero_of true = negative_zero

pub sign_of : {x : Float} → Zero x → (s : Bool) × (x ≡ fin s 0 (pos 0))
sign_of positive_zero = (false, refl)
sign_of negative_zero = (true, refl)

-- the literals 0.0, -0.0 and 1.0, as a goal shows them
pub zero_bits : (f : Format) → of_bits f 0 ≡ pos_zero
unfolding of_bits
zero_bits binary32 = refl
zero_bits binary64 = refl

-- ---- what `fits` says of a finite value

-- m is odd (or it is 0 and so is the exponent), and it has no more digits, no smaller unit and no larger size than the format holds
pub record FitsParts (f : Format) (m : ℕ) (e : ℤ) : Type 0 where
  pub odd : m % 2 ≡ 1
  pub digits : m < 2 ^ prec f
  pub fine : down e ≤ 2 ^ low f
  pub top : m * up e < 2 ^ suc (emax f) * down e

pub fits_parts : (f : Format) (s : Bool) (m : ℕ) (e : ℤ) → T (fits f (fin s (suc m) e)) → FitsParts f (suc m) e
unfolding fits
fits_parts f s m e t =
    let a = eqb (suc m % 2) 1 in
    let b = ltb (suc m) (2 ^ prec f) in
    let c = leb (down e) (2 ^ low f) in
    let d = ltb (suc m * up e) (2 ^ suc (emax f) * down e) in
    let abc : T (a && b && c) = and_l (a && b && c) d t in
    let ab : T (a && b) = and_l (a && b) c abc in
    record {
      odd = eqb→eq (suc m % 2) 1 (and_l a b ab);
      digits = ltb→lt (suc m) (2 ^ prec f) (and_r a b ab);
      fine = leb→le (down e) (2 ^ low f) (and_r (a && b) c abc);
      top = ltb→lt (suc m * up e) (2 ^ suc (emax f) * down e) (and_r (a && b && c) d t);
    }

twice_is_one : (p : ℕ) → 2 * p ≡ 1 → ⊥
twice_is_one p e = omega arith

flat : (e : ℤ) → up e * down e ≡ 1 → e ≡ pos 0
flat (pos zero) h = refl
flat (pos (suc k)) h = absurd (twice_is_one (2 ^ k) (sym (pow-succ' 2 k) ∙ sym (mul-one (2 ^ suc k)) ∙ h))
flat (negsuc k) h = absurd (twice_is_one (2 ^ k) (sym (pow-succ' 2 k) ∙ sym (one-mul (2 ^ suc k)) ∙ h))

pub fits_zero : (f : Format) (s : Bool) (e : ℤ) → T (fits f (fin s 0 e)) → e ≡ pos 0
unfolding fits
fits_zero f s e t = flat e (eqb→eq (up e * down e) 1 t)

below_pow : (f : Format) (s : Bool) (m : ℕ) (e : ℤ) → T (fits f (fin s m e)) → down e ≤ 2 ^ low f
below_pow f s zero e t = subst (λ (z : ℤ). down z ≤ 2 ^ low f) (sym (fits_zero f s e t)) (pow_pos (low f))
below_pow f s (suc m) e t = (fits_parts f s m e t).fine

-- ---- a value that fits is a whole number of the format's smallest value

low_parts : (l : ℕ) (e : ℤ) → down e ≤ 2 ^ l → (v : ℕ) × (2 ^ l ≡ 2 ^ v * down e)
low_parts l (pos k) h = (l, sym (mul-one (2 ^ l)))
low_parts l (negsuc k) h = (l - suc k, ap (λ (x : ℕ). 2 ^ x) (sym (sub-add_cancel (exponent_le (suc k) l h))) ∙ pow-add 2 (l - suc k) (suc k))

-- 2 ^ low is a power of two times the value's denominator
pub fits_low : (f : Format) (s : Bool) (m : ℕ) (e : ℤ) → T (fits f (fin s m e)) → (v : ℕ) × (2 ^ low f ≡ 2 ^ v * down e)
fits_low f s m e t = low_parts (low f) e (below_pow f s m e t)

-- so m * 2 ^ e is w times 2 ^ -low
pub fits_whole : (f : Format) (s : Bool) (m : ℕ) (e : ℤ) → T (fits f (fin s m e)) → (w : ℕ) × (m * up e * 2 ^ low f ≡ w * down e)
fits_whole f s m e t =
    let p = fits_low f s m e t in
    (m * up e * 2 ^ p.0, ap (λ (x : ℕ). m * up e * x) p.1 ∙ sym (mul_assoc (m * up e) (2 ^ p.0) (down e)))
