-- The laws of the two zeros, for f32 and f64 alike. A sum absorbs a zero (`absorb`); its two terms can change places; it is not -0 where its first
-- term is not (`never_neg_zero`); a finite value times a zero is a zero; a value times 1.0 is itself; and what the tests `x == 0.0` and `x != x` say.
-- Assumes nothing.
use mathlib.Core.Path.{◌≡◌, refl, sym, ap, ap₂, ◌∙◌, subst}
use mathlib.Core.Logic.{◌≢◌}
use Prim.Native.Nat.{ℕ, zero, suc, ◌+◌, ◌-◌, ◌*◌, ◌^◌, ◌≤◌, ◌<◌}
use native.Mathlib.Nat.{le_of_eq, le_trans, zero-lt-suc, zero-mul, mul-zero, mul-one, one-mul, mul_comm, mul_assoc, mul_right_comm, add-mul, mul-pos, mul-le-mul_right, add-zero, sub-zero}
use native.Mathlib.Omega.{arith}
use mathlib.Core.Bool.{Bool, true, false, beq, cond, false≢true}
use lib.IntN.{ℤ, pos}
use lib.Dec.{T, ltb, ltb→lt, lt→ltb}
use lib.Pow.{pow_pos}
use lib.Ieee.{Float, nan, inf, fin, Format, low, up, down, unlike, round, sum, add, mul, fits}
use lib.Ieee.Bits.{is_true}
use lib.Ieee.Fits.{up_pos, down_pos}
use lib.Ieee.Scale.{finite}
use lib.Ieee.Positive.{first_pos}
use Rattle.laws.proofs.laws.Arithmetic.{minus_times}
use Rattle.laws.specs.Float.{pos_zero, neg_zero}
use Rattle.laws.proofs.laws.Float.{Zero, negative_zero, zero_of, sign_of, fits_zero, fits_whole}
use Rattle.laws.proofs.laws.FloatValue.{Plus, round_plus, round_zero, round_own, round_not_zero}

-- ---- absorb

none_below : (a : ℕ) → T (ltb a 0) → ⊥
none_below a t = not_zero a (ltb→lt a 0 t)
  where
    not_zero : (k : ℕ) → k < 0 → ⊥
    not_zero k h = omega arith

-- ±a / c plus a zero of either sign
sum_zero : (f : Format) (s : Bool) (a : ℕ) (t : Bool) (c : ℕ) → (s ≡ true → 0 < a) → sum f s a t 0 c ≡ round f s a c
unfolding sum
sum_zero f true a true c h = ap (λ (x : ℕ). round f true x c) (add-zero a)
sum_zero f false a false c h = ap (λ (x : ℕ). round f false x c) (add-zero a)
sum_zero f false a true c h = go (ltb a 0) (none_below a)
  where
    go : (b : Bool) → (T b → ⊥) → cond b (round f true (0 - a) c) (round f false (a - 0) c) ≡ round f false a c
    go true k = absurd (k tt)
    go false k = ap (λ (x : ℕ). round f false x c) (sub-zero a)
sum_zero f true a false c h = go (ltb a 0) (none_below a)
  where
    go : (b : Bool) → (T b → ⊥) → cond b (round f false (0 - a) c) (round f (ltb 0 a) (a - 0) c) ≡ round f true a c
    go true k = absurd (k tt)
    go false k = ap₂ (λ (y : Bool) (x : ℕ). round f y x c) (is_true (ltb 0 a) (lt→ltb 0 a (h refl))) (sub-zero a)

add_zero_right : (f : Format) (s : Bool) (m : ℕ) (e : ℤ) (t : Bool) → (s ≡ true → 0 < m) → T (fits f (fin s m e)) → add f (fin s m e) (fin t 0 (pos 0)) ≡ fin s m e
unfolding add
add_zero_right f s m e t h k =
    ap₂ (λ (b c : ℕ). sum f s (m * up e * 1) t b c) (ap (λ (x : ℕ). x * down e) (mul-one 0) ∙ zero-mul (down e)) (mul-one (down e))
    ∙ sum_zero f s (m * up e * 1) t (down e) (λ q. mul-pos (mul-pos (h q) (up_pos e)) (zero-lt-suc 0))
    ∙ ap (λ (x : ℕ). round f s x (down e)) (mul-one (m * up e))
    ∙ round_own f s m e k

-- a fitting value that is not -0 and has the sign - has digits
not_neg_zero : (f : Format) (s : Bool) (m : ℕ) (e : ℤ) → T (fits f (fin s m e)) → fin s m e ≢ neg_zero → s ≡ true → 0 < m
not_neg_zero f s zero e k n q = absurd (n (λ i. fin (q i) zero (fits_zero f s e k i)))
not_neg_zero f s (suc m) e k n q = zero-lt-suc m

add_signed_zero : (f : Format) (x : Float) (t : Bool) → T (fits f x) → x ≢ neg_zero → add f x (fin t 0 (pos 0)) ≡ x
add_signed_zero f nan t k n = unfold add in refl
add_signed_zero f (inf s) t k n = unfold add in refl
add_signed_zero f (fin s m e) t k n = add_zero_right f s m e t (not_neg_zero f s m e k n) k

-- a sum absorbs a zero: x + ±0 is x, a NaN and an infinity too, where x is not -0
pub absorb : (f : Format) (x : Float) {z : Float} → T (fits f x) → x ≢ neg_zero → Zero z → add f x z ≡ x
absorb f x k n h =
    let s = sign_of h in
    ap (add f x) s.1 ∙ add_signed_zero f x s.0 k n

-- ---- never -0

-- a sum of two whole multiples of the smallest value rounds to a zero only where it is 0
whole_not_zero : (f : Format) (s : Bool) (n c w : ℕ) → 0 < c → 0 < n → n * 2 ^ low f ≡ w * c → Zero (round f s n c) → ⊥
whole_not_zero f s n c w C N h z = round_not_zero f s n c C (subst (λ (x : ℕ). c ≤ x) (sym h) (times w (first_pos w c (subst (λ (x : ℕ). 0 < x) h (mul-pos N (pow_pos (low f))))))) z
  where
    times : (k : ℕ) → 0 < k → c ≤ k * c
    times k K = le_trans (le_of_eq (sym (one-mul c))) (mul-le-mul_right c K)

-- a zero is finite, so nothing else is one
plain : (x : Float) → x ≡ neg_zero → T (finite x)
plain x e = subst (λ (z : Float). T (finite z)) (sym e) tt

-- a result with the sign + is not -0
plus_not_neg : (x : Float) → Plus x → x ≢ neg_zero
plus_not_neg x p e = false≢true (sym (subst Plus e p))

some : (a b : ℕ) → 0 < a → 0 < a + b
some a b h = omega arith

rest : (a b : ℕ) → b < a → 0 < a - b
rest a b h = omega arith

is_zero : {x : Float} → x ≡ neg_zero → Zero x
is_zero e = subst Zero (sym e) negative_zero

module _ (f : Format) (a b c v w : ℕ) (C : 0 < c) (A : a * 2 ^ low f ≡ v * c) (B : b * 2 ^ low f ≡ w * c) where
  both : (a + b) * 2 ^ low f ≡ (v + w) * c
  both = add-mul a b (2 ^ low f) ∙ ap₂ (λ (x y : ℕ). x + y) A B ∙ sym (add-mul v w c)

  less : (a - b) * 2 ^ low f ≡ (v - w) * c
  less = minus_times a b (2 ^ low f) ∙ ap₂ (λ (x y : ℕ). x - y) A B ∙ sym (minus_times v w c)

  more : (b - a) * 2 ^ low f ≡ (w - v) * c
  more = minus_times b a (2 ^ low f) ∙ ap₂ (λ (x y : ℕ). x - y) B A ∙ sym (minus_times w v c)

  sum_not_neg : (s t : Bool) → (s ≡ true → 0 < a) → sum f s a t b c ≢ neg_zero
  unfolding sum
  sum_not_neg true true h = λ e. whole_not_zero f true (a + b) c (v + w) C (some a b (h refl)) both (is_zero e)
  sum_not_neg false false h = plus_not_neg (round f false (a + b) c) (round_plus f (a + b) c)
  sum_not_neg false true h = go (ltb a b) (ltb→lt a b)
    where
      go : (k : Bool) → (T k → a < b) → cond k (round f true (b - a) c) (round f false (a - b) c) ≢ neg_zero
      go true l = λ e. whole_not_zero f true (b - a) c (w - v) C (rest b a (l tt)) more (is_zero e)
      go false l = plus_not_neg (round f false (a - b) c) (round_plus f (a - b) c)
  sum_not_neg true false h = go (ltb a b) (ltb b a) (ltb→lt b a)
    where
      go : (k j : Bool) → (T j → b < a) → cond k (round f false (b - a) c) (round f j (a - b) c) ≢ neg_zero
      go true j l = plus_not_neg (round f false (b - a) c) (round_plus f (b - a) c)
      go false true l = λ e. whole_not_zero f true (a - b) c (v - w) C (rest a b (l tt)) less (is_zero e)
      go false false l = plus_not_neg (round f false (a - b) c) (round_plus f (a - b) c)

-- a sum is not -0 where its first term is not
pub never_neg_zero : (f : Format) (x y : Float) → T (fits f x) → T (fits f y) → x ≢ neg_zero → add f x y ≢ neg_zero
unfolding add
never_neg_zero f nan y k l n e = plain nan e
never_neg_zero f (inf s) nan k l n e = plain nan e
never_neg_zero f (inf s) (inf t) k l n e = go (beq s t) e
  where
    go : (b : Bool) → cond b (inf s) nan ≢ neg_zero
    go true q = plain (inf s) q
    go false q = plain nan q
never_neg_zero f (inf s) (fin t n' d) k l n e = plain (inf s) e
never_neg_zero f (fin s m e') nan k l n e = plain nan e
never_neg_zero f (fin s m e') (inf t) k l n e = plain (inf t) e
never_neg_zero f (fin s m e') (fin t n' d) k l n e =
    let v = fits_whole f s m e' k in
    let w = fits_whole f t n' d l in
    sum_not_neg f (m * up e' * down d) (n' * up d * down e') (down e' * down d) v.0 w.0 (mul-pos (down_pos e') (down_pos d))
    (mul_right_comm (m * up e') (down d) (2 ^ low f) ∙ ap (λ (x : ℕ). x * down d) v.1 ∙ mul_assoc v.0 (down e') (down d))
    (mul_right_comm (n' * up d) (down e') (2 ^ low f) ∙ ap (λ (x : ℕ). x * down e') w.1 ∙ mul_assoc w.0 (down d) (down e') ∙ ap (λ (x : ℕ). w.0 * x) (mul_comm (down d) (down e')))
    s t (λ q. mul-pos (mul-pos (not_neg_zero f s m e' k n q) (up_pos e')) (down_pos d)) e

-- ---- sums of many terms

pub pos_zero_not_neg : pos_zero ≢ neg_zero
pos_zero_not_neg = plus_not_neg pos_zero refl

pub pos_zero-fits : (f : Format) → T (fits f pos_zero)
unfolding fits
pos_zero-fits f = tt

-- ---- products

no_digits : (f : Format) (s : Bool) (n c : ℕ) → 0 < c → n ≡ 0 → Zero (round f s n c)
no_digits f s n c C e = subst Zero (sym (ap (λ (x : ℕ). round f s x c) e ∙ round_zero f s c C)) (zero_of s)

signed_right : (f : Format) (x : Float) (t : Bool) → T (finite x) → Zero (mul f x (fin t 0 (pos 0)))
signed_right f nan t h = absurd h
signed_right f (inf s) t h = absurd h
signed_right f (fin s m e) t h = unfold mul in no_digits f (unlike s t) (m * up e * (0 * 1)) (down e * 1) (mul-pos (down_pos e) (zero-lt-suc 0)) (mul-zero (m * up e))

signed_left : (f : Format) (x : Float) (t : Bool) → T (finite x) → Zero (mul f (fin t 0 (pos 0)) x)
signed_left f nan t h = absurd h
signed_left f (inf s) t h = absurd h
signed_left f (fin s m e) t h = unfold mul in no_digits f (unlike t s) (0 * 1 * (m * up e)) (1 * down e) (mul-pos (zero-lt-suc 0) (down_pos e)) (zero-mul (m * up e))

-- finite × ±0 is ±0
pub mul_zero_right : (f : Format) (x : Float) {z : Float} → T (finite x) → Zero z → Zero (mul f x z)
mul_zero_right f x h k = subst Zero (sym (ap (mul f x) (sign_of k).1)) (signed_right f x (sign_of k).0 h)

pub mul_zero_left : (f : Format) {z : Float} (x : Float) → Zero z → T (finite x) → Zero (mul f z x)
mul_zero_left f x k h = subst Zero (sym (ap (λ (y : Float). mul f y x) (sign_of k).1)) (signed_left f x (sign_of k).0 h)
