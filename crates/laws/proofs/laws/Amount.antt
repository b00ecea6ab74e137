-- Amounts: the floats from 0 to 1 that measure how far a tween has come. What kira's easing, `Tween::value` and the steps within a chunk do to an amount gives an amount.
-- All is stated for either format. Assumes nothing.
use mathlib.Core.Path.{◌≡◌, refl, sym, ap, ◌∙◌, subst}
use Prim.Native.Nat.{ℕ, zero, suc, ◌+◌, ◌-◌, ◌*◌, ◌^◌, ◌≤◌, ◌<◌, zero-le}
use native.Mathlib.Nat.{le_refl, le_trans, le_of_eq, le_of_lt, le-add_left, le-add_right, zero-add, suc-mul, lt_of_lt_of_le, lt_of_le_of_lt, not-le_of_lt, lt_irrefl, zero-mul, mul-one, one-mul, mul-pos, mul-le-mul, mul-le-mul_right, sub-le, zero-lt-suc}
use native.Mathlib.Omega.{arith}
use mathlib.Core.Bool.{Bool, true, false, not, cond}
use lib.IntN.{ℤ, pos, negsuc}
use lib.Dec.{T, ltb, eqb, ltb→lt, lt→ltb, nltb→le, eqb→eq, lit≤}
use lib.Pow.{pow_pos, pow_mono}
use lib.Ieee.{Float, nan, inf, fin, Format, prec, emax, low, up, down, odd, units, round, sum, add, sub, mul, div, lt, le, fits}
use lib.Ieee.Fits.{up_pos, down_pos, round_is, round-fits, mul-fits}
use lib.Ieee.Order.{drop, kept, round_mono}
use lib.Ieee.Scale.{finite}
use lib.Ieee.Back.{round_whole}
use lib.Ieee.Positive.{positive, positive_of_value, first_pos}
use Rattle.laws.proofs.laws.Arithmetic.{or_le, one_digit}
use Rattle.laws.specs.FloatOrder.{Number, plus, minus}
use Rattle.laws.proofs.laws.FloatOrder.{OnGrid, lt→le, le→units, units→lt}
use Rattle.laws.proofs.laws.FloatRound.{rounded_le, div_rounded, digits_below_low, at_integer, at_grid, div_least}
use Rattle.laws.specs.FloatRound.{integer}
use Rattle.laws.specs.Float.{pos_zero, half, one, two}
use Rattle.laws.proofs.laws.FloatLiteral.{round-pos_zero, round-half, round-one, round-two}
use Rattle.laws.proofs.laws.Unsigned.{unsigned}

-- x is a value of the format from +0 to 1
pub record InUnit (f : Format) (x : Float) : Type 0 where
  pub held : T (fits f x)
  pub sign : T (unsigned x)
  pub most : T (le x one)

-- ---- a value that is at most b * 2 ^ k and not signed is a fraction

pub data AtMost (b : ℕ) (k : ℤ) : Float → Type 0 where
  fraction : (m : ℕ) (e : ℤ) → m * up e * down k ≤ b * up k * down e → AtMost b k (fin false m e)

pub at_most_lem : (b : ℕ) (k : ℤ) (x : Float) → T (unsigned x) → T (le x (fin false b k)) → AtMost b k x
unfolding le
at_most_lem b k nan s h = absurd s
at_most_lem b k (inf true) s h = absurd s
at_most_lem b k (inf false) s h = absurd h
at_most_lem b k (fin true m e) s h = absurd s
at_most_lem b k (fin false m e) s h = fraction m e (or_le (m * up e * down k) (b * up k * down e) h)

pub at_most_finite : {b : ℕ} {k : ℤ} {x : Float} → AtMost b k x → T (finite x)
at_most_finite (fraction m e h) = tt

-- ---- a fraction that is rounded

odd-unsigned : (d q k l : ℕ) → T (unsigned (odd d false q k l))
unfolding odd
odd-unsigned d zero k l = tt
odd-unsigned d (suc q) k l = tt

units-unsigned : (f : Format) (q k : ℕ) → T (unsigned (units f false q k))
unfolding units
units-unsigned f q k = go (ltb (q * 2 ^ k) (2 ^ (low f + suc (emax f))))
  where
    go : (b : Bool) → T (unsigned (cond b (odd (suc (prec f)) false q k (low f)) (inf false)))
    go true = odd-unsigned (suc (prec f)) q k (low f)
    go false = tt

pub round-unsigned : (f : Format) (a c : ℕ) → T (unsigned (round f false a c))
round-unsigned f a c =
    subst (λ (x : Float). T (unsigned x)) (sym (round_is f false a c)) (units-unsigned f (kept (prec f) (a * 2 ^ low f) c) (drop (prec f) (a * 2 ^ low f) c))

pub round_amount : (f : Format) (a c : ℕ) → 0 < c → a ≤ c → InUnit f (round f false a c)
round_amount f a c C h =
    record {
      held = round-fits f false a c;
      sign = round-unsigned f a c;
      most = subst (λ (x : Float). T (le (round f false a c) x)) (round-one f) (round_mono f a c 1 1 C (zero-lt-suc 0) (simp (mul-one, one-mul) h));
    }

-- a sum of two such values is one: the time of a tween grows from +0
pub add-unsigned : (f : Format) (x y : Float) → T (unsigned x) → T (unsigned y) → T (unsigned (add f x y))
unfolding add sum
add-unsigned f nan y h k = absurd h
add-unsigned f (inf s) nan h k = absurd k
add-unsigned f (inf true) (inf t) h k = absurd h
add-unsigned f (inf false) (inf true) h k = absurd k
add-unsigned f (inf false) (inf false) h k = tt
add-unsigned f (inf s) (fin t n d) h k = h
add-unsigned f (fin s m e) nan h k = absurd k
add-unsigned f (fin s m e) (inf t) h k = k
add-unsigned f (fin true m e) (fin t n d) h k = absurd h
add-unsigned f (fin false m e) (fin true n d) h k = absurd k
add-unsigned f (fin false m e) (fin false n d) h k = round-unsigned f (m * up e * down d + n * up d * down e) (down e * down d)

-- x ≤ 1 as a fraction
pub data Amount : Float → Type 0 where
  amount : (m : ℕ) (e : ℤ) → m * up e ≤ down e → Amount (fin false m e)

pub in_unit : (f : Format) (x : Float) → InUnit f x → Amount x
in_unit f x h = go x (at_most_lem 1 (pos 0) x h.sign h.most)
  where
    go : (x : Float) → AtMost 1 (pos 0) x → Amount x
    go _ (fraction m e h) = amount m e (simp (mul-one, one-mul) at h)

-- ---- products, quotients, differences

pub mul_amount : (f : Format) (x y : Float) → InUnit f x → InUnit f y → InUnit f (mul f x y)
unfolding mul
mul_amount f x y h k = go (in_unit f x h) (in_unit f y k)
  where
    go : {x y : Float} → Amount x → Amount y → InUnit f (mul f x y)
    go (amount m e p) (amount n d q) = round_amount f (m * up e * (n * up d)) (down e * down d) (mul-pos (down_pos e) (down_pos d)) (mul-le-mul p q)

-- a step of `powi`: by b where the power's bit is set
pub power_amount : (f : Format) (bit : Bool) (r b : Float) → InUnit f r → InUnit f b → InUnit f (cond bit (mul f r b) r)
power_amount f true r b h k = mul_amount f r b h k
power_amount f false r b h k = h

-- x / y, for 0 ≤ x ≤ y, 0 < y and y finite: the time that has passed by a tween's duration
pub div_amount : (f : Format) (x y : Float) → T (unsigned x) → T (positive y) → T (le x y) → InUnit f (div f x y)
unfolding div le
div_amount f nan y s p h = absurd s
div_amount f (inf t) nan s p h = absurd p
div_amount f (inf true) (inf u) s p h = absurd s
div_amount f (inf false) (inf u) s p h = absurd p
div_amount f (inf true) (fin u n d) s p h = absurd s
div_amount f (inf false) (fin u n d) s p h = absurd h
div_amount f (fin true m e) y s p h = absurd s
div_amount f (fin false m e) nan s p h = absurd p
div_amount f (fin false m e) (inf u) s p h = absurd p
div_amount f (fin false m e) (fin true n d) s p h = absurd p
div_amount f (fin false m e) (fin false n d) s p h =
    let P : 0 < n = ltb→lt 0 n p in
    go (eqb n 0) (λ z. lt_irrefl 0 (subst (λ (k : ℕ). 0 < k) (eqb→eq n 0 z) P))
    (round_amount f (m * up e * down d) (n * up d * down e) (mul-pos (mul-pos P (up_pos d)) (down_pos e)) (or_le (m * up e * down d) (n * up d * down e) h))
  where
    go : (b : Bool) → (T b → ⊥) → {r : Float} → InUnit f r → InUnit f (cond b (cond (eqb m 0) nan (inf false)) r)
    go true h k = absurd (h tt)
    go false h k = k

-- 0 < y, as a test of the program's
pub positive_of_lt : (y : Float) → T (finite y) → T (lt pos_zero y) → T (positive y)
unfolding lt
positive_of_lt nan h k = absurd h
positive_of_lt (inf s) h k = absurd h
positive_of_lt (fin true m e) h k = absurd k
positive_of_lt (fin false m e) h k = lt→ltb 0 m (first_pos m (up e) (first_pos (m * up e) 1 (lt_of_le_of_lt zero-le (ltb→lt (0 * down e) (m * up e * 1) k))))

-- a / c - b / c for b ≤ a
difference : (f : Format) (a b c : ℕ) → b ≤ a → sum f false a true b c ≡ round f false (a - b) c
unfolding sum
difference f a b c h = go (ltb a b) (ltb→lt a b)
  where
    go : (t : Bool) → (T t → a < b) → cond t (round f true (b - a) c) (round f false (a - b) c) ≡ round f false (a - b) c
    go true k = absurd (not-le_of_lt (k tt) h)
    go false k = refl

-- 1 - x
pub one_minus_amount : (f : Format) (x : Float) → InUnit f x → InUnit f (sub f one x)
unfolding sub
one_minus_amount f x h = go (in_unit f x h)
  where
    go : {x : Float} → Amount x → InUnit f (sub f one x)
    go (amount m e p) =
        let a = 1 * 1 * down e in
        let b = m * up e * 1 in
        let c = 1 * down e in
        let q : b ≤ a = simp (mul-one, one-mul) p in
        subst (InUnit f) (sym (difference f a b c q)) (round_amount f (a - b) c (mul-pos (zero-lt-suc 0) (down_pos e)) (le_trans (sub-le a b) (le_of_eq (simp one-mul))))

-- ---- the two halves of an `InOut` easing

double_unsigned : (f : Format) {x : Float} → Amount x → T (unsigned (mul f x two))
unfolding mul
double_unsigned f (amount m e p) = round-unsigned f (m * up e * (1 * 2)) (down e * 1)

-- x * 2 where it is below 1
pub double_amount : (f : Format) (x : Float) → InUnit f x → T (lt (mul f x two) one) → InUnit f (mul f x two)
double_amount f x h k = record { held = mul-fits f x two; sign = double_unsigned f (in_unit f x h); most = lt→le (mul f x two) one k }

-- x * 2 is at most 2
double_most : (f : Format) {x : Float} → Amount x → T (le (mul f x two) two)
unfolding mul
double_most f (amount m e p) =
    subst (λ (y : Float). T (le (round f false (m * up e * 2) (down e * 1)) y)) (round-two f)
    (round_mono f (m * up e * 2) (down e * 1) 2 1 (mul-pos (down_pos e) (zero-lt-suc 0)) (zero-lt-suc 0) (twice (m * up e) (down e) p))
  where
    twice : (a b : ℕ) → a ≤ b → a * 2 * 1 ≤ 2 * (b * 1)
    twice a b h = omega arith

-- 2 - y for a y from 1 to 2
two_minus : (f : Format) (y : Float) → AtMost 1 (pos 1) y → T (not (lt y one)) → InUnit f (sub f two y)
unfolding sub lt
two_minus f _ (fraction n d p) k =
    let a = 1 * 2 * down d in
    let b = n * up d * 1 in
    let c = 1 * down d in
    let q : b ≤ a = p in
    let l : 1 * 1 * down d ≤ n * up d * 1 = nltb→le (n * up d * 1) (1 * 1 * down d) k in
    subst (InUnit f) (sym (difference f a b c q)) (round_amount f (a - b) c (mul-pos (zero-lt-suc 0) (down_pos d)) (rest (down d) (n * up d) l))
  where
    rest : (a b : ℕ) → 1 * 1 * a ≤ b * 1 → 1 * 2 * a - b * 1 ≤ 1 * a
    rest a b h = omega arith

-- 2 - x * 2 where x * 2 is not below 1
pub mirror_amount : (f : Format) (x : Float) → InUnit f x → T (not (lt (mul f x two) one)) → InUnit f (sub f two (mul f x two))
mirror_amount f x h k = two_minus f (mul f x two) (at_most_lem 1 (pos 1) (mul f x two) (double_unsigned f (in_unit f x h)) (double_most f (in_unit f x h))) k

pub one_in_unit : (f : Format) → InUnit f one
one_in_unit f = subst (InUnit f) (round-one f) (round_amount f 1 1 (zero-lt-suc 0) (le_refl 1))

pub half_in_unit : (f : Format) → InUnit f half
half_in_unit f = subst (InUnit f) (round-half f) (round_amount f 1 2 (zero-lt-suc 1) (lit≤ tt))

-- 0.5 * u
pub half_amount : (f : Format) (u : Float) → InUnit f u → InUnit f (mul f half u)
half_amount f u h = mul_amount f half u (half_in_unit f) h

half_most : (f : Format) {u : Float} → Amount u → T (le (mul f half u) half)
unfolding mul
half_most f (amount m e p) =
    subst (λ (y : Float). T (le (round f false (1 * (m * up e)) (2 * down e)) y)) (round-half f)
    (round_mono f (1 * (m * up e)) (2 * down e) 1 2 (mul-pos (zero-lt-suc 1) (down_pos e)) (zero-lt-suc 1) (halves (m * up e) (down e) p))
  where
    halves : (a b : ℕ) → a ≤ b → 1 * a * 2 ≤ 1 * (2 * b)
    halves a b h = omega arith

plus_half : (f : Format) {v : Float} → AtMost 1 (negsuc 0) v → InUnit f (add f v half)
unfolding add sum
plus_half f (fraction n d p) = round_amount f (n * up d * 2 + 1 * down d) (down d * 2) (mul-pos (down_pos d) (zero-lt-suc 1)) (total (n * up d) (down d) p)
  where
    total : (a b : ℕ) → a * 2 ≤ 1 * b → a * 2 + 1 * b ≤ b * 2
    total a b h = omega arith

-- 0.5 * u + 0.5, and with 1 - u for u
pub upper_amount : (f : Format) (u : Float) → InUnit f u → InUnit f (add f (mul f half u) half)
upper_amount f u h = plus_half f (at_most_lem 1 (negsuc 0) (mul f half u) (half_amount f u h).sign (half_most f (in_unit f u h)))

pub mirrored_upper_amount : (f : Format) (u : Float) → InUnit f u → InUnit f (add f (mul f half (sub f one u)) half)
mirrored_upper_amount f u h = upper_amount f (sub f one u) (one_minus_amount f u h)

-- ---- an amount is a number, and in units of the format's smallest value it is at most 2 ^ low f

pub amount_number : (f : Format) (x : Float) → InUnit f x → Number f x
amount_number f x h = record { held = h.held; is_finite = at_most_finite (at_most_lem 1 (pos 0) x h.sign h.most) }

unsigned-minus : (f : Format) (x : Float) → T (unsigned x) → minus f x ≡ 0
unfolding minus
unsigned-minus f nan s = absurd s
unsigned-minus f (inf t) s = refl
unsigned-minus f (fin true m e) s = absurd s
unsigned-minus f (fin false m e) s = refl

pub amount_minus : (f : Format) (x : Float) → InUnit f x → minus f x ≡ 0
amount_minus f x h = unsigned-minus f x h.sign

pub amount_plus : (f : Format) (x : Float) → InUnit f x → plus f x ≤ 2 ^ low f
amount_plus f x h =
    let o = at_integer f false 1 (one_digit f) in
    let l : T (le x (integer f false 1)) = subst (λ (y : Float). T (le x y)) (sym (round-one f)) h.most in
    go (plus f x) (minus f x) (plus f (integer f false 1)) (minus f (integer f false 1)) (2 ^ low f) (le→units f x (integer f false 1) (amount_number f x h) o.0 l) (amount_minus f x h) o.1
  where
    go : (a b c d U : ℕ) → a + d ≤ c + b → b ≡ 0 → c ≡ 1 * U → a ≤ U
    go a b c d U h p q = omega arith

-- ---- (i + 1) / n, frame i's place in a chunk of n frames, is an amount above zero

pub place_amount : (f : Format) (i n : ℕ) → i < n → n < 2 ^ prec f → InUnit f (div f (integer f false (suc i)) (integer f false n))
place_amount f i n h k =
    div_amount f (integer f false (suc i)) (integer f false n) (round-unsigned f (suc i) 1)
    (positive_of_value (integer f false n) n 1 (round_whole f false n (le_of_lt k)) (lt_of_le_of_lt zero-le h))
    (round_mono f (suc i) 1 n 1 (zero-lt-suc 0) (zero-lt-suc 0) (mul-le-mul_right 1 h))

-- the places of a chunk's frames rise
pub place_rises : (f : Format) (i j n : ℕ) → i ≤ j → j < n → n < 2 ^ prec f → T (le (div f (integer f false (suc i)) (integer f false n)) (div f (integer f false (suc j)) (integer f false n)))
place_rises f i j n h k l =
    let U = 2 ^ low f in
    let x = integer f false (suc i) in
    let y = integer f false (suc j) in
    let z = integer f false n in
    let X = at_integer f false (suc i) (lt_of_le_of_lt (lt_of_le_of_lt h k) l) in
    let Y = at_integer f false (suc j) (lt_of_le_of_lt k l) in
    let Z = at_integer f false n l in
    let P : 0 < plus f z = subst (λ (m : ℕ). 0 < m) (sym Z.1) (mul-pos (lt_of_le_of_lt zero-le k) (pow_pos (low f))) in
    rounded_le f (div f x z) (div f y z) (plus f x) (minus f x) (plus f y) (minus f y) (plus f z) P
    (amount_number f (div f x z) (place_amount f i n (lt_of_le_of_lt h k) l)) (amount_number f (div f y z) (place_amount f j n k l))
    (div_rounded f x z X.0 Z.0 P) (div_rounded f y z Y.0 Z.0 P)
    (rise (plus f x) (minus f x) (plus f y) (minus f y) (suc i * U) (suc j * U) X.1 X.2 Y.1 Y.2 (mul-le-mul_right U (next i j h)))
  where
    next : (i j : ℕ) → i ≤ j → suc i ≤ suc j
    next i j h = omega arith

    rise : (px mx py my a b : ℕ) → px ≡ a → mx ≡ 0 → py ≡ b → my ≡ 0 → a ≤ b → px + my ≤ py + mx
    rise px mx py my a b i j k l h = omega arith

unit_on_grid : (f : Format) → OnGrid f 1
unit_on_grid f =
    record {
      digits = 1;
      place = 0;
      is = refl;
      few = one_digit f;
      under = lt_of_lt_of_le (one_digit f) (le_trans (pow_mono (digits_below_low f)) (pow_mono (le-add_right (low f) (suc (emax f)))));
    }

at_least_unit : (i n U p_x m_x p_y pv mv : ℕ) → n ≤ U → p_x ≡ suc i * U → m_x ≡ 0 → p_y ≡ n * U → pv ≡ 1 → m_x * U + pv * p_y ≤ p_x * U + mv * p_y
at_least_unit i n U p_x m_x p_y pv mv h a b c d =
    let l : m_x * U + pv * p_y ≡ n * U = ap (λ (z : ℕ). z * U + pv * p_y) b ∙ ap (λ (z : ℕ). z + pv * p_y) (zero-mul U) ∙ zero-add (pv * p_y) ∙ ap (λ (z : ℕ). z * p_y) d ∙ one-mul p_y ∙ c in
    let r : U ≤ p_x = le_trans (le-add_left U (i * U)) (le_of_eq (sym (a ∙ suc-mul i U))) in
    le_trans (le_of_eq l) (le_trans (mul-le-mul_right U h) (le_trans (mul-le-mul_right U r) (le-add_right (p_x * U) (mv * p_y))))

pub place_above_zero : (f : Format) (i n : ℕ) → i < n → n < 2 ^ prec f → T (lt pos_zero (div f (integer f false (suc i)) (integer f false n)))
place_above_zero f i n h k =
    let U = 2 ^ low f in
    let x = integer f false (suc i) in
    let y = integer f false n in
    let v = round f false 1 U in
    let X = at_integer f false (suc i) (lt_of_le_of_lt h k) in
    let Y = at_integer f false n k in
    let K' = at_grid f false 1 (unit_on_grid f) in
    let O = at_integer f false 0 (pow_pos (prec f)) in
    let P : 0 < plus f y = subst (λ (z : ℕ). 0 < z) (sym Y.1) (mul-pos (lt_of_le_of_lt zero-le h) (pow_pos (low f))) in
    let R : Number f (div f x y) = amount_number f (div f x y) (place_amount f i n h k) in
    let l : T (le v (div f x y)) = div_least f x y v X.0 Y.0 K'.0 P
    (at_least_unit i n U (plus f x) (minus f x) (plus f y) (plus f v) (minus f v) (le_trans (le_of_lt k) (pow_mono (digits_below_low f))) X.1 X.2 Y.1 K'.1) in
    subst (λ (z : Float). T (lt z (div f x y))) (round-pos_zero f false)
    (units→lt f (integer f false 0) (div f x y) O.0 R
    (above (plus f (integer f false 0)) (minus f (integer f false 0)) (plus f (div f x y)) (minus f (div f x y)) (plus f v) (minus f v) (le→units f v (div f x y) K'.0 R l) K'.1 K'.2 (O.1 ∙ zero-mul U)))
  where
    above : (a b c d p q : ℕ) → p + d ≤ c + q → p ≡ 1 → q ≡ 0 → a ≡ 0 → a + d < c + b
    above a b c d p q h i j k = omega arith

-- ---- an amount of one format rounded to another: `narrow` stands for such a rounding, as an f64's to an f32

pub narrowed_amount : (f g : Format) (narrow : Float → Float) → ((s : Bool) (m : ℕ) (e : ℤ) → narrow (fin s m e) ≡ round g s (m * up e) (down e)) → (x : Float) → InUnit f x → InUnit g (narrow x)
narrowed_amount f g narrow rounds x h = go (in_unit f x h)
  where
    go : {x : Float} → Amount x → InUnit g (narrow x)
    go (amount m e p) = subst (InUnit g) (sym (rounds false m e)) (round_amount g (m * up e) (down e) (down_pos e) p)
