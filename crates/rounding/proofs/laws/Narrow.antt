-- Laws of f64 to f32: the result fits, what fits is left alone, the order and the sign are kept, and 0..1 stays 0..1.
use mathlib.Core.Path.{◌≡◌, refl, sym, ap, ◌∙◌, subst, subst₂}
use mathlib.Core.Logic.{inl, inr}
use mathlib.Core.Bool.{Bool, true, false, not, ◌&&◌, ◌||◌, cond, true≢false, false≢true}
use Prim.Native.Nat.{ℕ, zero, suc, ◌+◌, ◌-◌, ◌*◌, ◌^◌, ◌≤◌, ◌<◌}
use native.Mathlib.Nat.{eq-or-lt_of_le, eq-zero-or-pos, eq_of_mul-eq-mul_right, lt_of_lt_of_le, le_of_suc-le-suc, lt_of_not-le, lt_irrefl, zero-mul, mul-one, one-mul, mul_assoc, mul_comm, mul_right_comm, lt_of_mul-lt-mul_right, mul-lt-mul_of_pos_right}
use native.Mathlib.Omega.{arith}
use lib.IntN.{ℤ, pos, negsuc}
use lib.Dec.{T, ltb, eqb, lt→ltb, eqb→eq}
use lib.Pow.{pow-add, pow_pos, pow-lt}
use lib.Ieee.{Float, nan, inf, fin, Format, binary32, prec, emax, low, up, down, odd, units, round, neg, le, fits, is_nan, top}
use lib.Ieee.Fits.{round_is, round-fits, nan-fits, inf-fits, down_pos, and_i, and_l, and_r, eq→eqb}
use lib.Ieee.Order.{drop, kept, round_mono}
use Rattle.laws.proofs.laws.Arithmetic.{or_l, or_r, or_le, or_ge, le_or}
use Rattle.laws.proofs.laws.Float.{fits_parts}
use Rattle.laws.proofs.laws.FloatValue.{round_sign, round_zero, round_own}
use Rattle.laws.proofs.laws.Amount.{InUnit, narrowed_amount}
use Rattle.rounding.specs.Narrow.{narrowed, Signed}

pub narrowed-fits : (x : Float) → T (fits binary32 (narrowed x))
unfolding narrowed
narrowed-fits nan = nan-fits binary32
narrowed-fits (inf s) = inf-fits binary32 s
narrowed-fits (fin s m e) = round-fits binary32 s (m * up e) (down e)

-- ---- rounding leaves alone what fits

-- 2 ^ e is 2 ^ j units
units_of : (l : ℕ) (e : ℤ) → down e ≤ 2 ^ l → (j : ℕ) × (up e * 2 ^ l ≡ 2 ^ j * down e)
units_of l (pos a) h = (a + l, sym (pow-add 2 a l) ∙ sym (mul-one (2 ^ (a + l))))
units_of l (negsuc a) h =
    let g : suc a ≤ l = le_of_suc-le-suc (lt_of_not-le (λ (x : suc l ≤ suc a). lt_irrefl (2 ^ l) (lt_of_lt_of_le (pow-lt x) h))) in
    (l - suc a, one-mul (2 ^ l) ∙ ap (λ (x : ℕ). 2 ^ x) (omega arith) ∙ pow-add 2 (l - suc a) (suc a))

-- a finite value of the format is m * 2 ^ j units
pub fits_units : (f : Format) (s : Bool) (m : ℕ) (e : ℤ) → T (fits f (fin s m e)) → (j : ℕ) × (m < 2 ^ prec f) × (m * up e * 2 ^ low f ≡ m * 2 ^ j * down e) × (m * 2 ^ j < 2 ^ (low f + suc (emax f)))
fits_units f s zero e t = (
  0,
  pow_pos (prec f),
  ap (λ (x : ℕ). x * 2 ^ low f) (zero-mul (up e)) ∙ zero-mul (2 ^ low f) ∙ sym (zero-mul (down e)),
  pow_pos (low f + suc (emax f)),
)
fits_units f s (suc m) e t =
    let l = low f in
    let F = fits_parts f s m e t in
    let J = units_of l e F.fine in
    let h : suc m * up e * 2 ^ l ≡ suc m * 2 ^ J.0 * down e = mul_assoc (suc m) (up e) (2 ^ l) ∙ ap (λ (x : ℕ). suc m * x) J.1 ∙ sym (mul_assoc (suc m) (2 ^ J.0) (down e)) in
    let top : 2 ^ suc (emax f) * down e * 2 ^ l ≡ 2 ^ (l + suc (emax f)) * down e =
    mul_right_comm (2 ^ suc (emax f)) (down e) (2 ^ l) ∙ ap (λ (x : ℕ). x * down e) (mul_comm (2 ^ suc (emax f)) (2 ^ l) ∙ sym (pow-add 2 l (suc (emax f)))) in (
      J.0,
      F.digits,
      h,
      lt_of_mul-lt-mul_right (down e) (subst (λ (x : ℕ). x < 2 ^ (l + suc (emax f)) * down e) h (subst (λ (x : ℕ). suc m * up e * 2 ^ l < x) top (mul-lt-mul_of_pos_right F.top (pow_pos l)))),
    )

pub narrowed_same : (x : Float) → T (fits binary32 x) → narrowed x ≡ x
unfolding narrowed
narrowed_same nan F = refl
narrowed_same (inf s) F = refl
narrowed_same (fin s m e) F = round_own binary32 s m e F

-- ---- the sign

round_signed : (f : Format) (s : Bool) (a c : ℕ) → Signed s (round f s a c)
round_signed f s a c = subst (λ (x : Float). Signed s x) (sym (round_is f s a c)) (units_signed f s (kept (prec f) (a * 2 ^ low f) c) (drop (prec f) (a * 2 ^ low f) c))
  where
    odd_signed : (d : ℕ) (s : Bool) (q k l : ℕ) → Signed s (odd d s q k l)
    odd_signed d s zero k l = unfold odd in refl
    odd_signed d s (suc q) k l = unfold odd in refl

    either : (s b : Bool) (x : Float) → Signed s x → Signed s (cond b x (inf s))
    either s true x h = h
    either s false x h = refl

    units_signed : (f : Format) (s : Bool) (q k : ℕ) → Signed s (units f s q k)
    units_signed f s q k = unfold units in either s (ltb (q * 2 ^ k) (2 ^ (low f + suc (emax f)))) (odd (suc (prec f)) s q k (low f)) (odd_signed (suc (prec f)) s q k (low f))

pub narrowed_signed : (s : Bool) (x : Float) → Signed s x → Signed s (narrowed x)
unfolding narrowed
narrowed_signed s nan h = h
narrowed_signed s (inf t) h = h
narrowed_signed s (fin t m e) h = subst (λ (y : Bool). Signed y (round binary32 t (m * up e) (down e))) h (round_signed binary32 t (m * up e) (down e))

signed_no_nan : (s : Bool) (x : Float) → Signed s x → T (not (is_nan x))
unfolding is_nan
signed_no_nan s nan h = absurd h
signed_no_nan s (inf t) h = tt
signed_no_nan s (fin t m e) h = tt

pub narrowed_no_nan : (x : Float) → T (not (is_nan x)) → T (not (is_nan (narrowed x)))
unfolding is_nan
narrowed_no_nan nan h = absurd h
narrowed_no_nan (inf s) h = signed_no_nan s (narrowed (inf s)) (narrowed_signed s (inf s) refl)
narrowed_no_nan (fin s m e) h = signed_no_nan s (narrowed (fin s m e)) (narrowed_signed s (fin s m e) refl)

-- ---- the order

down_holds : (a b : ℕ) → b ≤ a → T (ltb b a || (eqb a b && true))
down_holds a b h = elim (eq-or-lt_of_le h) [ inl e ↦ or_r (ltb b a) (eqb a b && true) (and_i (eqb a b) true (eq→eqb (sym e)) tt) | inr l ↦ or_l (ltb b a) (eqb a b && true) (lt→ltb b a l) ]

across_holds : (a b : ℕ) → T (ltb 0 (a + b) || (eqb a b && eqb a 0))
across_holds a b = elim (eq-zero-or-pos (a + b)) [
  | inl z ↦
      let x : a ≡ b = omega arith in
      let y : a ≡ 0 = omega arith in
      or_r (ltb 0 (a + b)) (eqb a b && eqb a 0) (and_i (eqb a b) (eqb a 0) (eq→eqb x) (eq→eqb y))
  | inr p ↦ or_l (ltb 0 (a + b)) (eqb a b && eqb a 0) (lt→ltb 0 (a + b) p)
]

pub zeros_say : (a b : ℕ) → T (eqb a b && eqb a 0) → (a ≡ 0) × (b ≡ 0)
zeros_say a b t =
    let z : a ≡ 0 = eqb→eq a 0 (and_r (eqb a b) (eqb a 0) t) in
    let y : a ≡ b = eqb→eq a b (and_l (eqb a b) (eqb a 0) t) in
    (z, sym y ∙ z)

le-neg : (x y : Float) → T (le x y) → T (le (neg y) (neg x))
unfolding le neg
le-neg nan y t = absurd t
le-neg (inf s) nan t = absurd t
le-neg (inf true) (inf true) t = tt
le-neg (inf true) (inf false) t = tt
le-neg (inf false) (inf true) t = absurd t
le-neg (inf false) (inf false) t = tt
le-neg (inf true) (fin u n d) t = tt
le-neg (inf false) (fin u n d) t = absurd t
le-neg (fin s m e) nan t = absurd t
le-neg (fin s m e) (inf true) t = absurd t
le-neg (fin s m e) (inf false) t = tt
le-neg (fin false m e) (fin false n d) t = down_holds (n * up d * down e) (m * up e * down d) (or_le (m * up e * down d) (n * up d * down e) t)
le-neg (fin true m e) (fin true n d) t = le_or (n * up d * down e) (m * up e * down d) (or_ge (m * up e * down d) (n * up d * down e) t)
le-neg (fin true m e) (fin false n d) t = across_holds (n * up d * down e) (m * up e * down d)
le-neg (fin false m e) (fin true n d) t =
    let z = zeros_say (m * up e * down d) (n * up d * down e) t in
    and_i (eqb (n * up d * down e) (m * up e * down d)) (eqb (n * up d * down e) 0) (eq→eqb (z.1 ∙ sym z.0)) (eq→eqb z.1)

-- a negative value, or -0, and one that is not
le_signs : (x y : Float) → Signed true x → Signed false y → T (le x y)
unfolding le
le_signs nan y p q = absurd p
le_signs (inf false) y p q = absurd (false≢true p)
le_signs (inf true) nan p q = absurd q
le_signs (inf true) (inf true) p q = tt
le_signs (inf true) (inf false) p q = tt
le_signs (inf true) (fin t n d) p q = tt
le_signs (fin false m e) y p q = absurd (false≢true p)
le_signs (fin true m e) nan p q = absurd q
le_signs (fin true m e) (inf true) p q = absurd (true≢false q)
le_signs (fin true m e) (inf false) p q = tt
le_signs (fin true m e) (fin true n d) p q = absurd (true≢false q)
le_signs (fin true m e) (fin false n d) p q = across_holds (m * up e * down d) (n * up d * down e)

-- the infinities are the ends
le-inf : (s : Bool) (x : Float) → Signed s x → T (le x (inf false)) × T (le (inf true) x)
unfolding le
le-inf s nan h = absurd h
le-inf s (inf true) h = (tt, tt)
le-inf s (inf false) h = (tt, tt)
le-inf s (fin t m e) h = (tt, tt)

zero_rounds : (s : Bool) (a c : ℕ) → 0 < c → a ≡ 0 → round binary32 s a c ≡ fin s 0 (pos 0)
zero_rounds s a c C z = ap (λ (x : ℕ). round binary32 s x c) z ∙ round_zero binary32 s c C

zero_of : (a c : ℕ) → 0 < c → a * c ≡ 0 → a ≡ 0
zero_of a c C h = eq_of_mul-eq-mul_right c C a 0 (h ∙ sym (zero-mul c))

pub narrowed_mono : (x y : Float) → T (le x y) → T (le (narrowed x) (narrowed y))
unfolding le narrowed
narrowed_mono nan y t = absurd t
narrowed_mono (inf s) nan t = absurd t
narrowed_mono (inf s) (inf u) t = t
narrowed_mono (inf false) (fin u n d) t = absurd t
narrowed_mono (inf true) (fin u n d) t = (le-inf u (round binary32 u (n * up d) (down d)) (round_signed binary32 u (n * up d) (down d))).1
narrowed_mono (fin s m e) nan t = absurd t
narrowed_mono (fin s m e) (inf true) t = absurd t
narrowed_mono (fin s m e) (inf false) t = (le-inf s (round binary32 s (m * up e) (down e)) (round_signed binary32 s (m * up e) (down e))).0
narrowed_mono (fin false m e) (fin false n d) t =
    round_mono binary32 (m * up e) (down e) (n * up d) (down d) (down_pos e) (down_pos d) (or_le (m * up e * down d) (n * up d * down e) t)
narrowed_mono (fin true m e) (fin true n d) t =
    subst₂ (λ (x y : Float). T (le x y)) (sym (round_sign binary32 (m * up e) (down e))) (sym (round_sign binary32 (n * up d) (down d)))
    (le-neg (round binary32 false (n * up d) (down d)) (round binary32 false (m * up e) (down e))
    (round_mono binary32 (n * up d) (down d) (m * up e) (down e) (down_pos d) (down_pos e) (or_ge (m * up e * down d) (n * up d * down e) t)))
narrowed_mono (fin true m e) (fin false n d) t =
    le_signs (round binary32 true (m * up e) (down e)) (round binary32 false (n * up d) (down d)) (round_signed binary32 true (m * up e) (down e)) (round_signed binary32 false (n * up d) (down d))
narrowed_mono (fin false m e) (fin true n d) t =
    let z = zeros_say (m * up e * down d) (n * up d * down e) t in
    subst₂ (λ (x y : Float). T (le x y)) (sym (zero_rounds false (m * up e) (down e) (down_pos e) (zero_of (m * up e) (down d) (down_pos d) z.0)))
    (sym (zero_rounds true (n * up d) (down d) (down_pos d) (zero_of (n * up d) (down e) (down_pos e) z.1))) tt

-- within bounds that fit
pub narrowed-le : (x y : Float) → T (fits binary32 y) → T (le x y) → T (le (narrowed x) y)
narrowed-le x y F t = subst (λ (z : Float). T (le (narrowed x) z)) (narrowed_same y F) (narrowed_mono x y t)

pub narrowed_ge : (x y : Float) → T (fits binary32 x) → T (le x y) → T (le x (narrowed y))
narrowed_ge x y F t = subst (λ (z : Float). T (le z (narrowed y))) (narrowed_same x F) (narrowed_mono x y t)

-- ---- 0..1

pub narrowed_unit : (f : Format) (x : Float) → InUnit f x → InUnit binary32 (narrowed x)
narrowed_unit f x h = narrowed_amount f binary32 narrowed rounds x h
  where
    rounds : (s : Bool) (m : ℕ) (e : ℤ) → narrowed (fin s m e) ≡ round binary32 s (m * up e) (down e)
    rounds s m e = unfold narrowed in refl
