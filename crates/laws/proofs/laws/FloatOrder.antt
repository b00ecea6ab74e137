-- The signed order of finite floats as one of natural numbers, which `omega` reads. The unit is the format's smallest positive value, 2 ^ -(low f).
-- Every finite value of the format f is a whole number of units: plus f x - minus f x, where at least one of the two is 0.
-- So x ≤ y is plus x + minus y ≤ plus y + minus x. Assumes nothing.
use mathlib.Core.Path.{◌≡◌, refl, sym, ap, ◌∙◌, subst}
use mathlib.Core.Logic.{◌⊎◌, inl, inr}
use Prim.Native.Nat.{ℕ, zero, suc, ◌+◌, ◌-◌, ◌*◌, ◌/◌, ◌%◌, ◌^◌, ◌≤◌, ◌<◌}
use native.Mathlib.Nat.{le_of_eq, le_of_lt, lt_of_lt_of_le, lt_of_le_of_lt, eq-or-lt_of_le, mul-one, add-zero, zero-add, add_comm, zero-mul, mul_comm, mul_assoc, mul_right_comm, add-mul, mul-div_cancel, mul-pos, mul-lt-mul_of_pos_right, lt_of_mul-lt-mul_right, eq_of_mul-eq-mul_right, sub-add_cancel}
use native.Mathlib.Omega.{arith}
use mathlib.Core.Bool.{Bool, true, false, not, ◌&&◌, ◌||◌, beq, cond}
use lib.IntN.{ℤ, pos, negsuc}
use lib.Dec.{T, leb, ltb, eqb, leb→le, le→leb, ltb→lt, lt→ltb, nltb→le, nleb→lt, eqb→eq, leb-suc-zero}
use lib.Pow.{pow-add, pow_pos}
use lib.Ieee.{Float, nan, inf, fin, Format, prec, emax, low, up, down, below, level, lt, eq, le, fits, is_nan, neg, to_bits, of_bits, top, hid, size}
use lib.Ieee.Fits.{and_i, and_l, and_r, down_pos, eq→eqb, neg-fits}
use lib.Ieee.Exact.{HasValue}
use lib.Ieee.Scale.{finite, overflow}
use lib.Ieee.Positive.{num, den}
use lib.Ieee.Bits.{of_bits-to_bits}
use Rattle.laws.proofs.laws.Arithmetic.{exponent_le, both_ways, or_l, or_r}
use Rattle.laws.proofs.laws.Choice.{and_true}
use Rattle.laws.specs.FloatOrder.{magnitude, Number, plus, minus}

-- w units are the size of a value of the format: w is a number of at most prec digits times a power of two, and below the overflow
pub record OnGrid (f : Format) (w : ℕ) : Type 0 where
  pub digits : ℕ
  pub place : ℕ
  pub is : w ≡ digits * 2 ^ place
  pub few : digits < 2 ^ prec f
  pub under : w < overflow f

-- ---- a finite value of the format is a whole number of units, and that number lies on the grid

pub zero_on_grid : (f : Format) → OnGrid f 0
zero_on_grid f = record { digits = 0; place = 0; is = refl; few = pow_pos (prec f); under = pow_pos (low f + suc (emax f)) }

-- 2 ^ e in units, for an exponent that the format has: 2 ^ place, and place is e + low f
abbrev place : Format → ℤ → ℕ
place f (pos k) = k + low f
place f (negsuc k) = low f - suc k

place_is : (f : Format) (e : ℤ) → down e ≤ 2 ^ low f → 2 ^ place f e * down e ≡ up e * 2 ^ low f
place_is f (pos k) h = mul-one (2 ^ (k + low f)) ∙ pow-add 2 k (low f)
place_is f (negsuc k) h =
    sym (pow-add 2 (low f - suc k) (suc k)) ∙ ap (λ (x : ℕ). 2 ^ x) (sub-add_cancel (exponent_le (suc k) (low f) h)) ∙ sym (mul_comm 1 (2 ^ low f) ∙ mul-one (2 ^ low f))

-- what `fits` says of a value that is not zero
record Fitting (f : Format) (m : ℕ) (e : ℤ) : Type 0 where
  few : m < 2 ^ prec f
  not_low : down e ≤ 2 ^ low f
  not_high : m * up e < 2 ^ suc (emax f) * down e

fitting : (f : Format) (s : Bool) (m : ℕ) (e : ℤ) → T (fits f (fin s (suc m) e)) → Fitting f (suc m) e
unfolding fits
fitting f s m e t =
    let a : Bool = eqb (suc m % 2) 1 in
    let b : Bool = ltb (suc m) (2 ^ prec f) in
    let c : Bool = leb (down e) (2 ^ low f) in
    let d : Bool = ltb (suc m * up e) (2 ^ suc (emax f) * down e) in
    record {
      few = ltb→lt (suc m) (2 ^ prec f) (and_r a b (and_l (a && b) c (and_l (a && b && c) d t)));
      not_low = leb→le (down e) (2 ^ low f) (and_r (a && b) c (and_l (a && b && c) d t));
      not_high = ltb→lt (suc m * up e) (2 ^ suc (emax f) * down e) (and_r (a && b && c) d t);
    }

-- w units, where w * down e ≡ m * up e * 2 ^ low f, are what `magnitude` counts
magnitude_of : (f : Format) (s : Bool) (m : ℕ) (e : ℤ) (w : ℕ) → m * up e * 2 ^ low f ≡ w * down e → magnitude f (fin s m e) ≡ w
unfolding magnitude
magnitude_of f s m e w h = ap (λ (z : ℕ). z / down e) h ∙ mul-div_cancel w (down_pos e)

-- the magnitude of a value that fits, as digits and a place
digits_at : (f : Format) (m : ℕ) (e : ℤ) → down e ≤ 2 ^ low f → m * up e * 2 ^ low f ≡ m * 2 ^ place f e * down e
digits_at f m e h = mul_assoc m (up e) (2 ^ low f) ∙ ap (λ (z : ℕ). m * z) (sym (place_is f e h)) ∙ sym (mul_assoc m (2 ^ place f e) (down e))

nothing : (a b c : ℕ) → 0 * a * b ≡ 0 * c
nothing a b c = ap (λ (z : ℕ). z * b) (zero-mul a) ∙ zero-mul b ∙ sym (zero-mul c)

pub magnitude_zero : (f : Format) (s : Bool) (e : ℤ) → magnitude f (fin s 0 e) ≡ 0
magnitude_zero f s e = magnitude_of f s 0 e 0 (nothing (up e) (2 ^ low f) (down e))

pub magnitude_exact : (f : Format) (x : Float) → Number f x → magnitude f x * den x ≡ num x * 2 ^ low f
magnitude_exact f nan N = absurd N.is_finite
magnitude_exact f (inf s) N = absurd N.is_finite
magnitude_exact f (fin s zero e) N = ap (λ (z : ℕ). z * down e) (magnitude_zero f s e) ∙ sym (nothing (up e) (2 ^ low f) (down e))
magnitude_exact f (fin s (suc m) e) N =
    let h : suc m * up e * 2 ^ low f ≡ suc m * 2 ^ place f e * down e = digits_at f (suc m) e (fitting f s m e N.held).not_low in
    ap (λ (z : ℕ). z * down e) (magnitude_of f s (suc m) e (suc m * 2 ^ place f e) h) ∙ sym h

under_overflow : (f : Format) (e : ℤ) (n w : ℕ) → n < 2 ^ suc (emax f) * down e → n * 2 ^ low f ≡ w * down e → w < overflow f
under_overflow f e n w h p =
    lt_of_mul-lt-mul_right (down e)
    (lt_of_le_of_lt (le_of_eq (sym p))
    (lt_of_lt_of_le (mul-lt-mul_of_pos_right h (pow_pos (low f)))
    (le_of_eq
    (mul_right_comm (2 ^ suc (emax f)) (down e) (2 ^ low f)
    ∙ ap (λ (z : ℕ). z * down e) (mul_comm (2 ^ suc (emax f)) (2 ^ low f) ∙ sym (pow-add 2 (low f) (suc (emax f))))))))

pub magnitude_on_grid : (f : Format) (x : Float) → Number f x → OnGrid f (magnitude f x)
magnitude_on_grid f nan N = absurd N.is_finite
magnitude_on_grid f (inf s) N = absurd N.is_finite
magnitude_on_grid f (fin s zero e) N = subst (λ (w : ℕ). OnGrid f w) (sym (magnitude_zero f s e)) (zero_on_grid f)
magnitude_on_grid f (fin s (suc m) e) N =
    let k : Fitting f (suc m) e = fitting f s m e N.held in
    let h : suc m * up e * 2 ^ low f ≡ suc m * 2 ^ place f e * down e = digits_at f (suc m) e k.not_low in
    record {
      digits = suc m;
      place = place f e;
      is = magnitude_of f s (suc m) e (suc m * 2 ^ place f e) h;
      few = k.few;
      under = under_overflow f e (suc m * up e) (magnitude f (fin s (suc m) e)) k.not_high (sym (magnitude_exact f (fin s (suc m) e) N));
    }

-- ---- tests that agree

-- A / B in one unit are a / b in another
ltb_scale : (U D A B a b : ℕ) → 0 < U → 0 < D → A * U ≡ a * D → B * U ≡ b * D → ltb A B ≡ ltb a b
ltb_scale U D A B a b u d p q =
    both_ways (ltb A B) (ltb a b)
    (λ t. lt→ltb a b (lt_of_mul-lt-mul_right D (lt_of_le_of_lt (le_of_eq (sym p)) (lt_of_lt_of_le (mul-lt-mul_of_pos_right (ltb→lt A B t) u) (le_of_eq q)))))
    (λ t. lt→ltb A B (lt_of_mul-lt-mul_right U (lt_of_le_of_lt (le_of_eq p) (lt_of_lt_of_le (mul-lt-mul_of_pos_right (ltb→lt a b t) d) (le_of_eq (sym q))))))

eqb_scale : (U D A B a b : ℕ) → 0 < U → 0 < D → A * U ≡ a * D → B * U ≡ b * D → eqb A B ≡ eqb a b
eqb_scale U D A B a b u d p q =
    both_ways (eqb A B) (eqb a b)
    (λ t. eq→eqb (eq_of_mul-eq-mul_right D d a b (sym p ∙ ap (λ (z : ℕ). z * U) (eqb→eq A B t) ∙ q)))
    (λ t. eq→eqb (eq_of_mul-eq-mul_right U u A B (p ∙ ap (λ (z : ℕ). z * D) (eqb→eq a b t) ∙ sym q)))

module _ (U D A B a b : ℕ) (u : 0 < U) (d : 0 < D) (p : A * U ≡ a * D) (q : B * U ≡ b * D) where
  below_scale : (s t : Bool) → below s A t B ≡ below s a t b
  below_scale false false = ltb_scale U D A B a b u d p q
  below_scale false true = refl
  below_scale true false =
      ltb_scale U D 0 (A + B) 0 (a + b) u d (zero-mul U ∙ sym (zero-mul D)) (add-mul A B U ∙ ap (λ (z : ℕ). z + B * U) p ∙ ap (λ (z : ℕ). a * D + z) q ∙ sym (add-mul a b D))
  below_scale true true = ltb_scale U D B A b a u d q p

  level_scale : (s t : Bool) → level s A t B ≡ level s a t b
  level_scale s t =
      ap (λ (z : Bool). z && (beq s t || eqb A 0)) (eqb_scale U D A B a b u d p q)
      ∙ ap (λ (z : Bool). eqb a b && (beq s t || z)) (eqb_scale U D A 0 a 0 u d p (zero-mul U ∙ sym (zero-mul D)))

-- ---- the sizes of two numbers in units, for the comparisons' cross products

module _ (f : Format) (s : Bool) (m : ℕ) (e : ℤ) (t : Bool) (n : ℕ) (d : ℤ) (N : Number f (fin s m e)) (M : Number f (fin t n d)) where
  pub cross_left : m * up e * down d * 2 ^ low f ≡ magnitude f (fin s m e) * (down e * down d)
  cross_left =
      mul_right_comm (m * up e) (down d) (2 ^ low f)
      ∙ ap (λ (z : ℕ). z * down d) (sym (magnitude_exact f (fin s m e) N))
      ∙ mul_assoc (magnitude f (fin s m e)) (down e) (down d)

  pub cross_right : n * up d * down e * 2 ^ low f ≡ magnitude f (fin t n d) * (down e * down d)
  cross_right =
      mul_right_comm (n * up d) (down e) (2 ^ low f)
      ∙ ap (λ (z : ℕ). z * down e) (sym (magnitude_exact f (fin t n d) M))
      ∙ mul_right_comm (magnitude f (fin t n d)) (down d) (down e)
      ∙ mul_assoc (magnitude f (fin t n d)) (down e) (down d)

  both_pos : 0 < down e * down d
  both_pos = mul-pos (down_pos e) (down_pos d)

-- ---- the order of ±a and ±b, a and b in units

below_is : (s : Bool) (a : ℕ) (t : Bool) (b : ℕ) → below s a t b ≡ ltb (cond s 0 a + cond t b 0) (cond t 0 b + cond s a 0)
below_is false a false b = simp add-zero
below_is false a true b = sym (leb-suc-zero (a + b))
below_is true a false b = ap (λ (z : ℕ). ltb 0 z) (add_comm a b)
below_is true a true b = simp zero-add

both_zero : (a b : ℕ) → (eqb a b && eqb a 0) ≡ eqb (a + b) 0
both_zero a b =
    both_ways (eqb a b && eqb a 0) (eqb (a + b) 0)
    (λ h. eq→eqb (sum_zero a b (eqb→eq a b (and_l (eqb a b) (eqb a 0) h)) (eqb→eq a 0 (and_r (eqb a b) (eqb a 0) h))))
    (λ h. and_i (eqb a b) (eqb a 0) (eq→eqb (first_second a b (eqb→eq (a + b) 0 h))) (eq→eqb (first_zero a b (eqb→eq (a + b) 0 h))))
  where
    sum_zero : (a b : ℕ) → a ≡ b → a ≡ 0 → a + b ≡ 0
    sum_zero a b p q = omega arith

    first_second : (a b : ℕ) → a + b ≡ 0 → a ≡ b
    first_second a b h = omega arith

    first_zero : (a b : ℕ) → a + b ≡ 0 → a ≡ 0
    first_zero a b h = omega arith

eqb_swap : (a b : ℕ) → eqb a b ≡ eqb b a
eqb_swap a b = both_ways (eqb a b) (eqb b a) (λ h. eq→eqb (sym (eqb→eq a b h))) (λ h. eq→eqb (sym (eqb→eq b a h)))

level_is : (s : Bool) (a : ℕ) (t : Bool) (b : ℕ) → level s a t b ≡ eqb (cond s 0 a + cond t b 0) (cond t 0 b + cond s a 0)
level_is false a false b = and_true (eqb a b) ∙ simp add-zero
level_is false a true b = both_zero a b
level_is true a false b = both_zero a b ∙ eqb_swap (a + b) 0 ∙ ap (λ (z : ℕ). eqb 0 z) (add_comm a b)
level_is true a true b = and_true (eqb a b) ∙ eqb_swap a b ∙ simp zero-add

leb_split : (a b : ℕ) → (ltb a b || eqb a b) ≡ leb a b
leb_split a b = both_ways (ltb a b || eqb a b) (leb a b) (λ h. le→leb a b (there (ltb a b) (ltb→lt a b) h)) (λ h. back (leb→le a b h))
  where
    there : (t : Bool) → (T t → a < b) → T (t || eqb a b) → a ≤ b
    there true p h = le_of_lt (p tt)
    there false p h = le_of_eq (eqb→eq a b h)

    back : a ≤ b → T (ltb a b || eqb a b)
    back h = elim (eq-or-lt_of_le h) [ inl p ↦ or_r (ltb a b) (eqb a b) (eq→eqb p) | inr p ↦ or_l (ltb a b) (eqb a b) (lt→ltb a b p) ]

-- ---- the laws: each comparison of two numbers is that of two sums of natural numbers

pub lt_is : (f : Format) (x y : Float) → Number f x → Number f y → lt x y ≡ ltb (plus f x + minus f y) (plus f y + minus f x)
unfolding lt plus minus
lt_is f nan y N M = absurd N.is_finite
lt_is f (inf s) y N M = absurd N.is_finite
lt_is f (fin s m e) nan N M = absurd M.is_finite
lt_is f (fin s m e) (inf t) N M = absurd M.is_finite
lt_is f (fin s m e) (fin t n d) N M =
    let a = magnitude f (fin s m e) in
    let b = magnitude f (fin t n d) in
    below_scale (2 ^ low f) (down e * down d) (m * up e * down d) (n * up d * down e) a b (pow_pos (low f)) (both_pos f s m e t n d N M)
    (cross_left f s m e t n d N M) (cross_right f s m e t n d N M) s t
    ∙ below_is s a t b

pub eq_is : (f : Format) (x y : Float) → Number f x → Number f y → eq x y ≡ eqb (plus f x + minus f y) (plus f y + minus f x)
unfolding eq plus minus
eq_is f nan y N M = absurd N.is_finite
eq_is f (inf s) y N M = absurd N.is_finite
eq_is f (fin s m e) nan N M = absurd M.is_finite
eq_is f (fin s m e) (inf t) N M = absurd M.is_finite
eq_is f (fin s m e) (fin t n d) N M =
    let a = magnitude f (fin s m e) in
    let b = magnitude f (fin t n d) in
    level_scale (2 ^ low f) (down e * down d) (m * up e * down d) (n * up d * down e) a b (pow_pos (low f)) (both_pos f s m e t n d N M)
    (cross_left f s m e t n d N M) (cross_right f s m e t n d N M) s t
    ∙ level_is s a t b

pub le_is : (f : Format) (x y : Float) → Number f x → Number f y → le x y ≡ leb (plus f x + minus f y) (plus f y + minus f x)
unfolding le
le_is f x y N M =
    let a = plus f x + minus f y in
    let b = plus f y + minus f x in
    ap (λ (t : Bool). t || eq x y) (lt_is f x y N M) ∙ ap (λ (t : Bool). ltb a b || t) (eq_is f x y N M) ∙ leb_split a b

-- the same, as implications
module _ (f : Format) (x y : Float) (N : Number f x) (M : Number f y) where
  pub le→units : T (le x y) → plus f x + minus f y ≤ plus f y + minus f x
  le→units h = leb→le (plus f x + minus f y) (plus f y + minus f x) (subst T (le_is f x y N M) h)

  pub units→le : plus f x + minus f y ≤ plus f y + minus f x → T (le x y)
  units→le h = subst T (sym (le_is f x y N M)) (le→leb (plus f x + minus f y) (plus f y + minus f x) h)

  pub lt→units : T (lt x y) → plus f x + minus f y < plus f y + minus f x
  lt→units h = ltb→lt (plus f x + minus f y) (plus f y + minus f x) (subst T (lt_is f x y N M) h)

  pub units→lt : plus f x + minus f y < plus f y + minus f x → T (lt x y)
  units→lt h = subst T (sym (lt_is f x y N M)) (lt→ltb (plus f x + minus f y) (plus f y + minus f x) h)

  pub not_lt→units : T (not (lt x y)) → plus f y + minus f x ≤ plus f x + minus f y
  not_lt→units h = nltb→le (plus f x + minus f y) (plus f y + minus f x) (subst (λ (b : Bool). T (not b)) (lt_is f x y N M) h)

  pub not_le→units : T (not (le x y)) → plus f y + minus f x < plus f x + minus f y
  not_le→units h = nleb→lt (plus f x + minus f y) (plus f y + minus f x) (subst (λ (b : Bool). T (not b)) (le_is f x y N M) h)

  pub eq→units : T (eq x y) → plus f x + minus f y ≡ plus f y + minus f x
  eq→units h = eqb→eq (plus f x + minus f y) (plus f y + minus f x) (subst T (eq_is f x y N M) h)

  pub units→eq : plus f x + minus f y ≡ plus f y + minus f x → T (eq x y)
  units→eq h = subst T (sym (eq_is f x y N M)) (eq→eqb h)

pub lt→le : (x y : Float) → T (lt x y) → T (le x y)
unfolding le
lt→le x y h = go (lt x y) h
  where
    go : (b : Bool) → T b → T (b || eq x y)
    go true t = tt
    go false t = absurd t

pub le_through : (f : Format) (x y z : Float) → Number f x → Number f y → Number f z → T (le x y) → T (le y z) → T (le x z)
le_through f x y z N M K h k = units→le f x z N K (go (plus f x) (minus f x) (plus f y) (minus f y) (plus f z) (minus f z) (le→units f x y N M h) (le→units f y z M K k))
  where
    go : (px mx py my pz mz : ℕ) → px + my ≤ py + mx → py + mz ≤ pz + my → px + mz ≤ pz + mx
    go px mx py my pz mz h k = omega arith

pub not_nan : (x : Float) → T (finite x) → T (not (is_nan x))
unfolding is_nan
not_nan nan h = h
not_nan (inf s) h = absurd h
not_nan (fin s m e) h = tt

-- ---- plus and minus

-- one of the two is 0, and both lie on the grid
pub one_sided : (f : Format) (x : Float) → (plus f x ≡ 0) ⊎ (minus f x ≡ 0)
unfolding plus minus
one_sided f nan = inl refl
one_sided f (inf s) = inl refl
one_sided f (fin true m e) = inl refl
one_sided f (fin false m e) = inr refl

cond_on_grid : (f : Format) (s : Bool) (w v : ℕ) → OnGrid f w → OnGrid f v → OnGrid f (cond s w v)
cond_on_grid f true w v g h = g
cond_on_grid f false w v g h = h

pub plus_on_grid : (f : Format) (x : Float) → Number f x → OnGrid f (plus f x)
unfolding plus
plus_on_grid f nan N = zero_on_grid f
plus_on_grid f (inf s) N = zero_on_grid f
plus_on_grid f (fin s m e) N = cond_on_grid f s 0 (magnitude f (fin s m e)) (zero_on_grid f) (magnitude_on_grid f (fin s m e) N)

pub minus_on_grid : (f : Format) (x : Float) → Number f x → OnGrid f (minus f x)
unfolding minus
minus_on_grid f nan N = zero_on_grid f
minus_on_grid f (inf s) N = zero_on_grid f
minus_on_grid f (fin s m e) N = cond_on_grid f s (magnitude f (fin s m e)) 0 (magnitude_on_grid f (fin s m e) N) (zero_on_grid f)

-- of a value that is w units with the sign s
pub value_plus : (f : Format) (x : Float) (s : Bool) (w : ℕ) → HasValue x s w (2 ^ low f) → plus f x ≡ cond s 0 w
unfolding plus
value_plus f nan s w h = absurd h
value_plus f (inf t) s w h = absurd h
value_plus f (fin t m e) s w h = ap (λ (b : Bool). cond b 0 (magnitude f (fin t m e))) h.0 ∙ ap (λ (z : ℕ). cond s 0 z) (magnitude_of f t m e w h.1)

pub value_minus : (f : Format) (x : Float) (s : Bool) (w : ℕ) → HasValue x s w (2 ^ low f) → minus f x ≡ cond s w 0
unfolding minus
value_minus f nan s w h = absurd h
value_minus f (inf t) s w h = absurd h
value_minus f (fin t m e) s w h = ap (λ (b : Bool). cond b (magnitude f (fin t m e)) 0) h.0 ∙ ap (λ (z : ℕ). cond s z 0) (magnitude_of f t m e w h.1)

pub value_finite : (x : Float) (s : Bool) (w c : ℕ) → HasValue x s w c → T (finite x)
value_finite nan s w c h = h
value_finite (inf t) s w c h = h
value_finite (fin t m e) s w c h = tt

-- negation swaps the two
pub neg_number : (f : Format) (x : Float) → Number f x → Number f (neg x)
neg_number f x N = record { held = neg-fits f x N.held; is_finite = go x N.is_finite }
  where
    go : (x : Float) → T (finite x) → T (finite (neg x))
    go nan h = absurd h
    go (inf s) h = absurd h
    go (fin s m e) h = unfold neg in tt

pub plus-neg : (f : Format) (x : Float) → plus f (neg x) ≡ minus f x
unfolding plus minus neg
plus-neg f nan = refl
plus-neg f (inf s) = refl
plus-neg f (fin true m e) = refl
plus-neg f (fin false m e) = refl

pub minus-neg : (f : Format) (x : Float) → minus f (neg x) ≡ plus f x
unfolding plus minus neg
minus-neg f nan = refl
minus-neg f (inf s) = refl
minus-neg f (fin true m e) = refl
minus-neg f (fin false m e) = refl

-- ---- a value of the format is known by its sign and its magnitude

bits_of : (f : Format) (s : Bool) (m : ℕ) (e : ℤ) (n : ℕ) (d : ℤ) → magnitude f (fin s m e) ≡ magnitude f (fin s n d) → to_bits f (fin s m e) ≡ to_bits f (fin s n d)
unfolding to_bits magnitude
bits_of f s m e n d p = ap (λ (w : ℕ). cond s (top f) 0 + (size w - prec f) * hid f + w / 2 ^ (size w - prec f)) p

pub unique : (f : Format) (s : Bool) (m : ℕ) (e : ℤ) (n : ℕ) (d : ℤ) → T (fits f (fin s m e)) → T (fits f (fin s n d)) → magnitude f (fin s m e) ≡ magnitude f (fin s n d)
    → fin s m e ≡ fin s n d
unique f s m e n d a b p = sym (of_bits-to_bits f (fin s m e) a) ∙ ap (of_bits f) (bits_of f s m e n d p) ∙ of_bits-to_bits f (fin s n d) b

-- two numbers of one value are the same, but for the sign of a zero
pub number_unique : (f : Format) (x y : Float) → Number f x → Number f y → plus f x + minus f y ≡ plus f y + minus f x → 0 < magnitude f y → x ≡ y
unfolding plus minus
number_unique f nan y N M e P = absurd N.is_finite
number_unique f (inf s) y N M e P = absurd N.is_finite
number_unique f (fin s m i) nan N M e P = absurd M.is_finite
number_unique f (fin s m i) (inf t) N M e P = absurd M.is_finite
number_unique f (fin false m i) (fin false n j) N M e P = unique f false m i n j N.held M.held (sym (add-zero (magnitude f (fin false m i))) ∙ e ∙ add-zero (magnitude f (fin false n j)))
number_unique f (fin true m i) (fin true n j) N M e P = unique f true m i n j N.held M.held (sym (sym (zero-add (magnitude f (fin true n j))) ∙ e ∙ zero-add (magnitude f (fin true m i))))
number_unique f (fin false m i) (fin true n j) N M e P = absurd (none (magnitude f (fin false m i)) (magnitude f (fin true n j)) e P)
  where
    none : (x y : ℕ) → x + y ≡ 0 → 0 < y → ⊥
    none x y e h = omega arith
number_unique f (fin true m i) (fin false n j) N M e P = absurd (none (magnitude f (fin true m i)) (magnitude f (fin false n j)) e P)
  where
    none : (x y : ℕ) → 0 ≡ y + x → 0 < y → ⊥
    none x y e h = omega arith

-- a value of magnitude 0 is +0 or -0
pub zero_is : (f : Format) (a : Float) → Number f a → magnitude f a ≡ 0 → (a ≡ fin false 0 (pos 0)) ⊎ (a ≡ fin true 0 (pos 0))
zero_is f nan N e = absurd N.is_finite
zero_is f (inf s) N e = absurd N.is_finite
zero_is f (fin false m i) N e = inl (unique f false m i 0 (pos 0) N.held (unfold fits in tt) (e ∙ sym (magnitude_zero f false (pos 0))))
zero_is f (fin true m i) N e = inr (unique f true m i 0 (pos 0) N.held (unfold fits in tt) (e ∙ sym (magnitude_zero f true (pos 0))))
