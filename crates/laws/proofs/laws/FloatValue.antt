-- What the laws on floats use of `round`: it takes its sign over (`round_sign`), it leaves a value that fits as it is (`round_own`), and of
-- the whole multiples of the format's smallest value it takes 0 alone to a zero (`round_zero`, `round_not_zero`).
-- And two values that fit are the same where sign and size agree (`value_unique`). Assumes nothing.
use mathlib.Core.Path.{◌≡◌, refl, sym, ap, ap₂, ◌∙◌, subst}
use Prim.Native.Nat.{ℕ, zero, suc, ◌+◌, ◌*◌, ◌%◌, ◌^◌, ◌≤◌, ◌<◌}
use native.Mathlib.Nat.{le_of_eq, le_trans, lt_irrefl, lt_of_lt_of_le, zero-lt-suc, zero-mul, mul-one, one-mul, mul_comm, mul_assoc, mul_left_comm, mul_right_comm, mul-pos, mul-lt-mul_of_pos_right, eq_of_mul-eq-mul_right, pow-succ', pow-suc, add-zero}
use native.Mathlib.Omega.{arith}
use mathlib.Core.Bool.{Bool, true, false, cond}
use lib.IntN.{ℤ, pos, negsuc}
use lib.Dec.{T, ltb, lit<}
use lib.Pow.{pow-add, pow_pos}
use lib.Ieee.{Float, nan, inf, fin, Format, binary32, binary64, prec, emax, low, up, down, odd, units, round, neg, fits}
use lib.Ieee.Fits.{up_pos, down_pos, round-fits}
use lib.Ieee.Exact.{HasValue, round_exact}
use lib.Ieee.Order.{round_mono}
use lib.Ieee.Scale.{round_same}
use lib.Ieee.Positive.{above, above_of_le, positive_of_value}
use Rattle.laws.proofs.laws.Arithmetic.{one_digit}
use Rattle.laws.proofs.laws.Float.{Zero, positive_zero, negative_zero, sign_of, fits_parts, fits_zero, fits_low}

-- ---- the sign

pub neg-neg : (x : Float) → neg (neg x) ≡ x
unfolding neg
neg-neg nan = refl
neg-neg (inf true) = refl
neg-neg (inf false) = refl
neg-neg (fin true m e) = refl
neg-neg (fin false m e) = refl

pub neg_zero : {x : Float} → Zero x → Zero (neg x)
unfolding neg
neg_zero positive_zero = negative_zero
neg_zero negative_zero = positive_zero

odd_sign : (d q k l : ℕ) → odd d true q k l ≡ neg (odd d false q k l)
unfolding odd neg
odd_sign d zero k l = refl
odd_sign d (suc q) k l = refl

units_sign : (f : Format) (q k : ℕ) → units f true q k ≡ neg (units f false q k)
unfolding units
units_sign f q k = go (ltb (q * 2 ^ k) (2 ^ (low f + suc (emax f))))
  where
    go : (b : Bool) → cond b (odd (suc (prec f)) true q k (low f)) (inf true) ≡ neg (cond b (odd (suc (prec f)) false q k (low f)) (inf false))
    go true = odd_sign (suc (prec f)) q k (low f)
    go false = unfold neg in refl

pub round_sign : (f : Format) (num den : ℕ) → round f true num den ≡ neg (round f false num den)
unfolding round
round_sign f num den = units_sign f _ _

-- not a NaN, and without the sign -
abbrev pub Plus : Float → Type 0
Plus nan = ⊥
Plus (inf s) = s ≡ false
Plus (fin s m e) = s ≡ false

odd_plus : (d q k l : ℕ) → Plus (odd d false q k l)
unfolding odd
odd_plus d zero k l = refl
odd_plus d (suc q) k l = refl

units_plus : (f : Format) (q k : ℕ) → Plus (units f false q k)
unfolding units
units_plus f q k = go (ltb (q * 2 ^ k) (2 ^ (low f + suc (emax f))))
  where
    go : (b : Bool) → Plus (cond b (odd (suc (prec f)) false q k (low f)) (inf false))
    go true = odd_plus (suc (prec f)) q k (low f)
    go false = refl

pub round_plus : (f : Format) (num den : ℕ) → Plus (round f false num den)
unfolding round
round_plus f num den = units_plus f _ _

-- ---- two values that fit, with one sign and one size

even_odd : (m t : ℕ) → m % 2 ≡ 1 → m ≡ 2 * t → ⊥
even_odd m t o h = omega arith

odd_pow : (m n a b : ℕ) → m % 2 ≡ 1 → n % 2 ≡ 1 → m * 2 ^ a ≡ n * 2 ^ b → (m ≡ n) × (a ≡ b)
odd_pow m n zero zero o p h = (sym (mul-one m) ∙ h ∙ mul-one n, refl)
odd_pow m n zero (suc b) o p h = absurd (even_odd m (n * 2 ^ b) o (sym (mul-one m) ∙ h ∙ ap (λ (x : ℕ). n * x) (pow-succ' 2 b) ∙ mul_left_comm n 2 (2 ^ b)))
odd_pow m n (suc a) zero o p h = absurd (even_odd n (m * 2 ^ a) p (sym (mul-one n) ∙ sym h ∙ ap (λ (x : ℕ). m * x) (pow-succ' 2 a) ∙ mul_left_comm m 2 (2 ^ a)))
odd_pow m n (suc a) (suc b) o p h =
    let r = odd_pow m n a b o p (eq_of_mul-eq-mul_right 2 (zero-lt-suc 1) (m * 2 ^ a) (n * 2 ^ b)
    (mul_assoc m (2 ^ a) 2 ∙ ap (λ (x : ℕ). m * x) (sym (pow-suc 2 a)) ∙ h ∙ ap (λ (x : ℕ). n * x) (pow-suc 2 b) ∙ sym (mul_assoc n (2 ^ b) 2))) in
    (r.0, ap suc r.1)

-- up e and down e as powers of two
ups : ℤ → ℕ
ups (pos k) = k
ups (negsuc k) = 0

downs : ℤ → ℕ
downs (pos k) = 0
downs (negsuc k) = suc k

up_is : (e : ℤ) → up e ≡ 2 ^ ups e
unfolding ups
up_is (pos k) = refl
up_is (negsuc k) = refl

down_is : (e : ℤ) → down e ≡ 2 ^ downs e
unfolding downs
down_is (pos k) = refl
down_is (negsuc k) = refl

exp_inj : (e d : ℤ) → ups e + downs d ≡ ups d + downs e → e ≡ d
unfolding ups downs
exp_inj (pos i) (pos j) h = ap pos (sym (add-zero i) ∙ h ∙ add-zero j)
exp_inj (pos i) (negsuc j) h = absurd (no i j h)
  where
    no : (a b : ℕ) → a + suc b ≡ 0 + 0 → ⊥
    no a b p = omega arith
exp_inj (negsuc i) (pos j) h = absurd (no i j h)
  where
    no : (a b : ℕ) → 0 + 0 ≡ b + suc a → ⊥
    no a b p = omega arith
exp_inj (negsuc i) (negsuc j) h = ap negsuc (same i j h)
  where
    same : (a b : ℕ) → 0 + suc b ≡ 0 + suc a → a ≡ b
    same a b p = omega arith

-- one size, cross-multiplied
cross : (x u y v a c : ℕ) → 0 < c → x * c ≡ a * u → y * c ≡ a * v → x * v ≡ y * u
cross x u y v a c C p q =
    eq_of_mul-eq-mul_right c C (x * v) (y * u)
    (mul_right_comm x v c ∙ ap (λ (z : ℕ). z * v) p ∙ mul_right_comm a u v ∙ ap (λ (z : ℕ). z * u) (sym q) ∙ mul_right_comm y c u)

as_pow : (m : ℕ) (e d : ℤ) → m * up e * down d ≡ m * 2 ^ (ups e + downs d)
as_pow m e d = ap₂ (λ (x y : ℕ). m * x * y) (up_is e) (down_is d) ∙ mul_assoc m (2 ^ ups e) (2 ^ downs d) ∙ ap (λ (x : ℕ). m * x) (sym (pow-add 2 (ups e) (downs d)))

no_size : (m : ℕ) (e d : ℤ) → 0 * up e * down d ≡ suc m * up d * down e → ⊥
no_size m e d h =
    lt_irrefl 0 (subst (λ (x : ℕ). 0 < x) (sym h ∙ ap (λ (x : ℕ). x * down d) (zero-mul (up e)) ∙ zero-mul (down d)) (mul-pos (mul-pos (zero-lt-suc m) (up_pos d)) (down_pos e)))

pub value_unique : (f : Format) (x y : Float) (s : Bool) (a c : ℕ) → 0 < c → T (fits f x) → T (fits f y) → HasValue x s a c → HasValue y s a c → x ≡ y
value_unique f nan y s a c C p q v w = absurd v
value_unique f (inf t) y s a c C p q v w = absurd v
value_unique f (fin t m e) nan s a c C p q v w = absurd w
value_unique f (fin t m e) (inf u) s a c C p q v w = absurd w
value_unique f (fin t zero e) (fin u zero d) s a c C p q v w = λ i. fin ((v.0 ∙ sym w.0) i) zero ((fits_zero f t e p ∙ sym (fits_zero f u d q)) i)
value_unique f (fin t zero e) (fin u (suc n) d) s a c C p q v w = absurd (no_size n e d (cross (0 * up e) (down e) (suc n * up d) (down d) a c C v.1 w.1))
value_unique f (fin t (suc m) e) (fin u zero d) s a c C p q v w = absurd (no_size m d e (cross (0 * up d) (down d) (suc m * up e) (down e) a c C w.1 v.1))
value_unique f (fin t (suc m) e) (fin u (suc n) d) s a c C p q v w =
    let h = sym (as_pow (suc m) e d) ∙ cross (suc m * up e) (down e) (suc n * up d) (down d) a c C v.1 w.1 ∙ as_pow (suc n) d e in
    let r = odd_pow (suc m) (suc n) (ups e + downs d) (ups d + downs e) (fits_parts f t m e p).odd (fits_parts f u n d q).odd h in
    λ i. fin ((v.0 ∙ sym w.0) i) (r.0 i) (exp_inj e d r.1 i)

-- ---- rounding 0, and rounding a value of the format

zero_over_one : (f : Format) (s : Bool) → round f s 0 1 ≡ fin s 0 (pos 0)
unfolding round
zero_over_one binary32 s = refl
zero_over_one binary64 s = refl

pub round_zero : (f : Format) (s : Bool) (den : ℕ) → 0 < den → round f s 0 den ≡ fin s 0 (pos 0)
round_zero f s den D = round_same f s 0 den 0 1 D (zero-lt-suc 0) (mul-one 0 ∙ sym (zero-mul den)) ∙ zero_over_one f s

pub round_own : (f : Format) (s : Bool) (m : ℕ) (e : ℤ) → T (fits f (fin s m e)) → round f s (m * up e) (down e) ≡ fin s m e
round_own f s zero e t =
    ap (λ (x : ℕ). round f s x (down e)) (zero-mul (up e)) ∙ round_zero f s (down e) (down_pos e) ∙ ap (λ (z : ℤ). fin s 0 z) (sym (fits_zero f s e t))
round_own f s (suc m) e t =
    let n = suc m in
    let p = fits_low f s n e t in
    let v = p.0 in
    let j = ups e + v in
    let is : n * up e * 2 ^ v ≡ n * 2 ^ j = ap (λ (x : ℕ). n * x * 2 ^ v) (up_is e) ∙ mul_assoc n (2 ^ ups e) (2 ^ v) ∙ ap (λ (x : ℕ). n * x) (sym (pow-add 2 (ups e) v)) in
    let h : n * up e * 2 ^ low f ≡ n * 2 ^ j * down e = ap (λ (x : ℕ). n * up e * x) p.1 ∙ sym (mul_assoc (n * up e) (2 ^ v) (down e)) ∙ ap (λ (x : ℕ). x * down e) is in
    let fine : n * 2 ^ j < 2 ^ (low f + suc (emax f)) =
    lt_of_lt_of_le (subst (λ (x : ℕ). x < 2 ^ suc (emax f) * down e * 2 ^ v) is (mul-lt-mul_of_pos_right (fits_parts f s m e t).top (pow_pos v)))
    (le_of_eq (mul_assoc (2 ^ suc (emax f)) (down e) (2 ^ v) ∙ ap (λ (x : ℕ). 2 ^ suc (emax f) * x) (mul_comm (down e) (2 ^ v) ∙ sym p.1) ∙ mul_comm (2 ^ suc (emax f)) (2 ^ low f) ∙ sym (pow-add 2 (low f) (suc (emax f))))) in
    value_unique f (round f s (n * up e) (down e)) (fin s n e) s (n * up e) (down e) (down_pos e) (round-fits f s (n * up e) (down e)) t
    (round_exact f s (n * up e) (down e) n j (down_pos e) (fits_parts f s m e t).digits fine h) (refl, refl)

-- ---- a fraction that is the format's smallest value at least does not become a zero

unit_below : (f : Format) → 1 * 2 ^ 0 < 2 ^ (low f + suc (emax f))
unit_below binary32 = lit< tt
unit_below binary64 = lit< tt

unit_value : (f : Format) → HasValue (round f false 1 (2 ^ low f)) false 1 (2 ^ low f)
unit_value f = round_exact f false 1 (2 ^ low f) 1 0 (pow_pos (low f)) (one_digit f) (unit_below f) refl

above_not_zero : (x : Float) → T (above x) → Zero x → ⊥
above_not_zero x a z = go (sign_of z).0 (subst (λ (y : Float). T (above y)) (sign_of z).1 a)
  where
    go : (s : Bool) → T (above (fin s 0 (pos 0))) → ⊥
    go true t = t
    go false t = t

positive_not_zero : (f : Format) (num den : ℕ) → 0 < den → den ≤ num * 2 ^ low f → Zero (round f false num den) → ⊥
positive_not_zero f num den D h z =
    let u = round f false 1 (2 ^ low f) in
    above_not_zero (round f false num den)
    (above_of_le u (round f false num den) (positive_of_value u 1 (2 ^ low f) (unit_value f) (zero-lt-suc 0))
    (round_mono f 1 (2 ^ low f) num den (pow_pos (low f)) D (le_trans (le_of_eq (one-mul den)) h)))
    z

pub round_not_zero : (f : Format) (s : Bool) (num den : ℕ) → 0 < den → den ≤ num * 2 ^ low f → Zero (round f s num den) → ⊥
round_not_zero f false num den D h z = positive_not_zero f num den D h z
round_not_zero f true num den D h z = positive_not_zero f num den D h (subst Zero (ap neg (round_sign f num den) ∙ neg-neg (round f false num den)) (neg_zero z))
