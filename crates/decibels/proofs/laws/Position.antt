-- Where 16 n stands among the gain table's entries, as the code works it out in f64.
-- Assumes nothing.
use mathlib.Core.Path.{◌≡◌, refl, sym, ap, ◌∙◌, subst}
use mathlib.Core.Bool.{Bool, true, false, not, ◌&&◌, ◌||◌, beq, true≢false}
use Prim.Native.Nat.{ℕ, zero, suc, ◌+◌, ◌-◌, ◌*◌, ◌/◌, ◌%◌, ◌^◌, ◌≤◌, ◌<◌, zero-le}
use native.Mathlib.Nat.{le_trans, le_of_eq, le_of_lt, lt_of_le_of_lt, lt_of_lt_of_le, lt_of_not-le, not-le_of_lt, mul-one, one-mul, zero-mul, mul_comm, mul_assoc, mul_right_comm, mul_left_comm, mul-pos, add-mul, mul-add-div_right, add-mul-mod_self_right, div-add-mod', div-lt_iff_lt-mul, div-eq_of_lt-le, mod-eq-sub-div-mul, mul-mod_left, mul-div_cancel, mul-le-mul_right, le_antisymm, zero-lt-suc, le_of_suc-le-suc, div-mul-le_self, mod-lt, le-add_right, lt_of_mul-lt-mul_right, mul-lt-mul_of_pos_right, add_comm}
use native.Mathlib.Omega.{arith}
use native.Mathlib.Decide.{ℕ_discrete}
use lib.IntN.{ℤ, pos, negsuc}
use lib.Dec.{T, ltb, eqb, le→leb, lt→ltb, nltb→le, eqb_refl, lit<, lit≤, T_not}
use lib.Arith.{lt_of_le-ne}
use lib.Pow.{pow_pos, pow-add, pow_mono, shl_lt}
use lib.Ieee.{Float, nan, inf, fin, Format, binary32, binary64, up, down, unlike, round, sum, neg, add, sub, mul, lt, le, eq, fits, of_int, of_bits, is_nan, to_unsigned, in_float}
use lib.Ieee.Digits.{back}
use lib.Ieee.Fits.{up_pos, down_pos}
use lib.Ieee.Exact.{HasValue, round_exact}
use lib.Ieee.Scale.{round_same}
use lib.Ieee.Nearest.{div_same}
use lib.Ieee.Order.{transfer}
use lib.Ieee.Back.{round_whole}
use borrow.Author.Tests.{le-ltb, lt-ltb, eq-eqb, ne_eqb, eqb-true, eqb-false}
use Rattle.laws.proofs.laws.Arithmetic.{exponent_le, minus_times, or_le}
use Rattle.laws.specs.Float.{whole}
use Rattle.laws.proofs.laws.Choice.{cond-true, cond-false}
use Rattle.laws.proofs.laws.Float.{fits_parts, zero_bits}
use Rattle.laws.proofs.laws.FloatValue.{round_zero}
use Rattle.decibels.specs.Decibels.{limit, limit_decibels, last_entry, silence, admitted, sixteenths, entry_below, rest_above}

-- ---- sums of values, by the fractions that they equal

cross : (p u v a c d : ℕ) → p * c ≡ a * u → p * v * (c * d) ≡ a * d * (u * v)
cross p u v a c d h = simp (mul_assoc, mul_comm, mul_left_comm) (simp (mul_assoc, mul_comm, mul_left_comm) at (ap (λ (z : ℕ). z * (v * d)) h))

cross' : (q u v b c d : ℕ) → q * d ≡ b * v → q * u * (c * d) ≡ b * c * (u * v)
cross' q u v b c d h = simp (mul_assoc, mul_comm, mul_left_comm) (simp (mul_assoc, mul_comm, mul_left_comm) at (ap (λ (z : ℕ). z * (u * c)) h))

-- p / u is a / c and q / v is b / d, so p / u - q / v is a / c - b / d
difference : (p q u v a b c d : ℕ) → p * c ≡ a * u → q * d ≡ b * v → (p * v - q * u) * (c * d) ≡ (a * d - b * c) * (u * v)
difference p q u v a b c d h k =
    minus_times (p * v) (q * u) (c * d)
    ∙ ap (λ (t : ℕ). t - q * u * (c * d)) (cross p u v a c d h)
    ∙ ap (λ (t : ℕ). a * d * (u * v) - t) (cross' q u v b c d k)
    ∙ sym (minus_times (a * d) (b * c) (u * v))

-- a / c - b / d, where that is not below 0
pub sub_at : (f : Format) (x y : Float) (a c b d : ℕ) → 0 < c → 0 < d → HasValue x false a c → HasValue y false b d → b * c ≤ a * d → sub f x y ≡ round f false (a * d - b * c) (c * d)
unfolding sub sum
sub_at f nan y a c b d C D p q h = absurd p
sub_at f (inf s) y a c b d C D p q h = absurd p
sub_at f (fin true m e) y a c b d C D p q h = absurd (true≢false p.0)
sub_at f (fin false m e) nan a c b d C D p q h = absurd q
sub_at f (fin false m e) (inf s) a c b d C D p q h = absurd q
sub_at f (fin false m e) (fin true n k) a c b d C D p q h = absurd (true≢false q.0)
sub_at f (fin false m e) (fin false n k) a c b d C D p q h =
    let P = m * up e * down k in
    let Q = n * up k * down e in
    cond-false (ltb P Q) (round f true (Q - P) (down e * down k)) (round f false (P - Q) (down e * down k))
    (le-ltb P Q (transfer (n * up k) (m * up e) (down k) (down e) b a d c D C q.1 p.1 h))
    ∙ round_same f false (P - Q) (down e * down k) (a * d - b * c) (c * d) (mul-pos (down_pos e) (down_pos k)) (mul-pos C D)
    (difference (m * up e) (n * up k) (down e) (down k) a b c d p.1 q.1)

-- a / c - b / d, where that is below 0
pub sub_under : (f : Format) (x y : Float) (a c b d : ℕ) → 0 < c → 0 < d → HasValue x false a c → HasValue y false b d → a * d < b * c → sub f x y ≡ round f true (b * c - a * d) (c * d)
unfolding sub sum
sub_under f nan y a c b d C D p q h = absurd p
sub_under f (inf s) y a c b d C D p q h = absurd p
sub_under f (fin true m e) y a c b d C D p q h = absurd (true≢false p.0)
sub_under f (fin false m e) nan a c b d C D p q h = absurd q
sub_under f (fin false m e) (inf s) a c b d C D p q h = absurd q
sub_under f (fin false m e) (fin true n k) a c b d C D p q h = absurd (true≢false q.0)
sub_under f (fin false m e) (fin false n k) a c b d C D p q h =
    let P = m * up e * down k in
    let Q = n * up k * down e in
    cond-true (ltb P Q) (round f true (Q - P) (down e * down k)) (round f false (P - Q) (down e * down k))
    (lt-ltb P Q (lt_of_not-le λ (g : Q ≤ P). not-le_of_lt h (transfer b a d c (n * up k) (m * up e) (down k) (down e) (down_pos k) (down_pos e) (sym q.1) (sym p.1) g)))
    ∙ round_same f true (Q - P) (down e * down k) (b * c - a * d) (c * d) (mul-pos (down_pos e) (down_pos k)) (mul-pos C D)
    (ap (λ (z : ℕ). (Q - P) * z) (mul_comm c d) ∙ difference (n * up k) (m * up e) (down k) (down e) b a d c q.1 p.1 ∙ ap (λ (z : ℕ). (b * c - a * d) * z) (mul_comm (down k) (down e)))

-- -a / c + b / d, where that is above 0
pub add_at : (f : Format) (x y : Float) (a c b d : ℕ) → 0 < c → 0 < d → HasValue x true a c → HasValue y false b d → a * d < b * c → add f x y ≡ round f false (b * c - a * d) (d * c)
unfolding add sum
add_at f nan y a c b d C D p q h = absurd p
add_at f (inf s) y a c b d C D p q h = absurd p
add_at f (fin false m e) y a c b d C D p q h = absurd (true≢false (sym p.0))
add_at f (fin true m e) nan a c b d C D p q h = absurd q
add_at f (fin true m e) (inf s) a c b d C D p q h = absurd q
add_at f (fin true m e) (fin true n k) a c b d C D p q h = absurd (true≢false q.0)
add_at f (fin true m e) (fin false n k) a c b d C D p q h =
    let P = m * up e * down k in
    let Q = n * up k * down e in
    cond-true (ltb P Q) (round f false (Q - P) (down e * down k)) (round f (ltb Q P) (P - Q) (down e * down k))
    (lt-ltb P Q (lt_of_not-le λ (g : Q ≤ P). not-le_of_lt h (transfer b a d c (n * up k) (m * up e) (down k) (down e) (down_pos k) (down_pos e) (sym q.1) (sym p.1) g)))
    ∙ round_same f false (Q - P) (down e * down k) (b * c - a * d) (d * c) (mul-pos (down_pos e) (down_pos k)) (mul-pos D C)
    (ap (λ (z : ℕ). (Q - P) * z) refl ∙ difference (n * up k) (m * up e) (down k) (down e) b a d c q.1 p.1 ∙ ap (λ (z : ℕ). (b * c - a * d) * z) (mul_comm (down k) (down e)))

-- ---- 16 n

-- 16.0, as the code has it
abbrev pub sixteen : Float
sixteen = of_bits binary64 4625196817309499392

like : (s : Bool) → unlike s false ≡ s
like true = refl
like false = refl

powers : (m p l x y : ℕ) → x * l ≡ y → m * p * x * l ≡ m * (p * y)
powers m p l x y h = simp (mul_assoc) (ap (λ (z : ℕ). m * (p * z)) h)

-- the product by 16 is exact, since n has no more digits than an f32
exact : (m : ℕ) (e : ℤ) → m < 2 ^ 24 → down e ≤ 2 ^ 149 → m * up e < 2 ^ 128 * down e → (s : Bool)
    → HasValue (round binary64 s (m * up e * 16) (down e * 1)) s (m * up e * 16) (down e * 1)
exact m (pos k) small fine large s =
    round_exact binary64 s (m * 2 ^ k * 16) (1 * 1) m (k + 1078) (lit< tt) (lt_of_lt_of_le small (lit≤ tt))
    (subst (λ (z : ℕ). z < 2 ^ 2098) (mul_assoc m (2 ^ k) (2 ^ 1078) ∙ ap (λ (z : ℕ). m * z) (sym (pow-add 2 k 1078)))
    (lt_of_lt_of_le (shl_lt {a = m * 2 ^ k} 128 1078 large) (pow_mono {i = 128 + 1078} {j = 2098} (lit≤ tt))))
    (powers m (2 ^ k) (2 ^ 1074) 16 (2 ^ 1078) refl ∙ ap (λ (z : ℕ). m * z) (sym (pow-add 2 k 1078)) ∙ sym (mul-one (m * 2 ^ (k + 1078))))
exact m (negsuc k) small fine large s =
    let j = 1078 - suc k in
    let K : suc k ≤ 149 = exponent_le (suc k) 149 fine in
    round_exact binary64 s (m * 1 * 16) (2 ^ suc k * 1) m j (mul-pos (pow_pos (suc k)) (lit< tt)) (lt_of_lt_of_le small (lit≤ tt))
    (lt_of_lt_of_le (shl_lt 24 j small) (pow_mono {i = 24 + j} {j = 2098} (omega arith)))
    (powers m 1 (2 ^ 1074) 16 (2 ^ 1078) refl
    ∙ ap (λ (z : ℕ). m * z) (one-mul (2 ^ 1078) ∙ ap (λ (z : ℕ). 2 ^ z) (sym (back 1078 (suc k) (le_trans K (lit≤ tt)))) ∙ pow-add 2 j (suc k))
    ∙ sym (mul_assoc m (2 ^ j) (2 ^ suc k))
    ∙ ap (λ (z : ℕ). m * 2 ^ j * z) (sym (mul-one (2 ^ suc k))))

-- ---- what is known of n and of 16 n

pub record Steps (n : Float) : Type 0 where
  pub s : Bool
  pub a : ℕ
  pub c : ℕ
  pub entry : entry_below n ≡ sixteenths s a c / c
  pub rest : rest_above n ≡ round binary64 false (sixteenths s a c % c) c
  pub value : HasValue (mul binary64 n sixteen) s (16 * a) c
  pub above : 0 < c
  pub some : 0 < a
  pub low : s ≡ true → a < 60 * c
  pub high : s ≡ false → a ≤ limit_decibels * c

rescaled : (x : Float) (s : Bool) (a c : ℕ) → HasValue x s (a * 16) (c * 1) → HasValue x s (16 * a) c
rescaled x s a c h = subst (λ (z : ℕ). HasValue x s z c) (mul_comm a 16) (subst (λ (z : ℕ). HasValue x s (a * 16) z) (mul-one c) h)

-- the tests of two numbers with the same sign
strict : (A B : ℕ) → T (not (ltb B A || (eqb A B && true))) → A < B
strict A B h = go (ltb B A) (eqb A B) (nltb→le B A) (λ (e : A ≡ B). subst (λ (z : ℕ). T (eqb A z)) e (eqb_refl A)) h
  where
    go : (p q : Bool) → (T (not p) → A ≤ B) → (A ≡ B → T q) → T (not (p || (q && true))) → A < B
    go true q f g t = absurd t
    go false true f g t = absurd t
    go false false f g t = lt_of_le-ne (f tt) g

lowest : (s : Bool) (m : ℕ) (e : ℤ) → T (not (le (fin s m e) silence)) → s ≡ true → m * up e < 60 * down e
unfolding le neg of_int
lowest true m e h p = subst (λ (z : ℕ). z < 60 * down e) (mul-one (m * up e)) (strict (m * up e * 1) (60 * down e) h)
lowest false m e h p = absurd (true≢false (sym p))

highest : (s : Bool) (m : ℕ) (e : ℤ) → T (le (fin s m e) limit) → s ≡ false → m * up e ≤ limit_decibels * down e
unfolding le of_int
highest true m e h p = absurd (true≢false p)
highest false m e h p = subst (λ (z : ℕ). z ≤ limit_decibels * down e) (mul-one (m * up e)) (or_le (m * up e * 1) (limit_decibels * down e) h)

zeros_equal : (s : Bool) (a b : ℕ) → a ≡ 0 → b ≡ 0 → T (eqb a b && (beq s false || eqb a 0))
zeros_equal s a b p q = subst (λ (z : ℕ). T (eqb z b && (beq s false || eqb z 0))) (sym p) (subst (λ (z : ℕ). T (eqb 0 z && (beq s false || true))) (sym q) (go s))
  where
    go : (t : Bool) → T (beq t false || true)
    go true = tt
    go false = tt

not-zero : (s : Bool) (e : ℤ) → T (not (eq (fin s zero e) (whole 0))) → ⊥
unfolding eq of_int
not-zero s e h =
    T_not (eq (fin s zero e) (whole 0)) h
    (zeros_equal s (0 * up e * 1) (0 * down e) (mul-one (0 * up e) ∙ zero-mul (up e)) (zero-mul (down e)))

pub by_16 : (s : Bool) (m : ℕ) (e : ℤ) → T (fits binary32 (fin s (suc m) e)) → HasValue (mul binary64 (fin s (suc m) e) sixteen) s (16 * (suc m * up e)) (down e)
unfolding mul of_bits
by_16 s m e h =
    let p = fits_parts binary32 s m e h in
    let a = suc m * up e in
    rescaled (mul binary64 (fin s (suc m) e) sixteen) s a (down e)
    (subst (λ (z : Bool). HasValue (round binary64 z (a * 16) (down e * 1)) s (a * 16) (down e * 1)) (sym (like s)) (exact (suc m) e p.digits p.fine p.top s))

pub steps : (n : Float) → T (fits binary32 n) → T (admitted n) → T (not (le n silence)) → T (not (eq n (whole 0))) → Steps n
unfolding admitted is_nan entry_below rest_above le neg of_int
steps nan f t u v = absurd t
steps (inf true) f t u v = absurd u
steps (inf false) f t u v = absurd t
steps (fin s zero e) f t u v = absurd (not-zero s e v)
steps (fin s (suc m) e) f t u v = record {
  s = s;
  a = suc m * up e;
  c = down e;
  entry = refl;
  rest = refl;
  value = by_16 s m e f;
  above = down_pos e;
  some = mul-pos (zero-lt-suc m) (up_pos e);
  low = lowest s (suc m) e u;
  high = highest s (suc m) e t;
}

-- ---- the code's tests and casts, at a value ±A / C

positive : (p A C u : ℕ) → p * C ≡ A * u → 0 < A → 0 < u → 0 < p
positive zero A C u h a v = absurd (not-le_of_lt (mul-pos a v) (le_of_eq (sym h ∙ zero-mul C)))
positive (suc p) A C u h a v = zero-lt-suc p

pub below_zero : (x : Float) (s : Bool) (A C : ℕ) → HasValue x s A C → 0 < A → lt x (of_bits binary64 0) ≡ s
unfolding lt of_bits
below_zero nan s A C v a = absurd v
below_zero (inf t) s A C v a = absurd v
below_zero (fin true m e) s A C v a =
    lt-ltb 0 (m * up e * 1 + 0 * down e)
    (lt_of_lt_of_le (positive (m * up e) A C (down e) v.1 a (down_pos e)) (le_trans (le_of_eq (sym (mul-one (m * up e)))) (le-add_right (m * up e * 1) (0 * down e))))
    ∙ v.0
below_zero (fin false m e) s A C v a = ap (λ (z : ℕ). ltb (m * up e * 1) z) (zero-mul (down e)) ∙ le-ltb (m * up e * 1) 0 zero-le ∙ v.0

pub castable : (y : Float) (A C : ℕ) → HasValue y false A C → A < 2 ^ 53 * C → T (lt y (whole (2 ^ 53)))
unfolding lt of_int
castable nan A C v fit = absurd v
castable (inf t) A C v fit = absurd v
castable (fin true m e) A C v fit = absurd (true≢false v.0)
castable (fin false m e) A C v fit =
    lt→ltb (m * up e * 1) (2 ^ 53 * down e)
    (lt_of_le_of_lt (le_of_eq (mul-one (m * up e)))
    (lt_of_mul-lt-mul_right C
    (lt_of_le_of_lt (le_of_eq v.1) (lt_of_lt_of_le (mul-lt-mul_of_pos_right fit (down_pos e)) (le_of_eq (mul_right_comm (2 ^ 53) C (down e)))))))

pub cut : (y : Float) (A C : ℕ) → HasValue y false A C → 0 < C → A < 2 ^ 53 * C → to_unsigned 64 y ≡ A / C
unfolding to_unsigned
cut nan A C v above fit = absurd v
cut (inf t) A C v above fit = absurd v
cut (fin true m e) A C v above fit = absurd (true≢false v.0)
cut (fin false m e) A C v above fit =
    let q : m * up e / down e ≡ A / C = div_same (m * up e) (down e) A C (down_pos e) above v.1 in
    let l : A / C < 2 ^ 53 = (div-lt_iff_lt-mul above).1 fit in
    omega arith

pub negated : (x : Float) (A C : ℕ) → HasValue x true A C → HasValue (neg x) false A C
unfolding neg
negated nan A C v = v
negated (inf t) A C v = v
negated (fin true m e) A C v = (refl, v.1)
negated (fin false m e) A C v = absurd (true≢false (sym v.0))

pub whole_value : (w : ℕ) → w ≤ 2 ^ 53 → HasValue (whole w) false w 1
unfolding of_int
whole_value w h = round_whole binary64 false w h

same_test : (P Q u v : ℕ) → (P ≡ Q → u ≡ v) → (u ≡ v → P ≡ Q) → (eqb P Q && true) ≡ eqb u v
same_test P Q u v f g = elim (ℕ_discrete P Q) [
  | yes e ↦ ap (λ (z : Bool). z && true) (eq-eqb P Q e) ∙ sym (eq-eqb u v (f e))
  | no n ↦ ap (λ (z : Bool). z && true) (ne_eqb P Q n) ∙ sym (ne_eqb u v (λ (e : u ≡ v). n (g e)))
]

-- two values are equal where their fractions are
pub eq_test : (x y : Float) (a c b d : ℕ) → 0 < c → 0 < d → HasValue x false a c → HasValue y false b d → eq x y ≡ eqb (a * d) (b * c)
unfolding eq
eq_test nan y a c b d C D p q = absurd p
eq_test (inf t) y a c b d C D p q = absurd p
eq_test (fin true m e) y a c b d C D p q = absurd (true≢false p.0)
eq_test (fin false m e) nan a c b d C D p q = absurd q
eq_test (fin false m e) (inf t) a c b d C D p q = absurd q
eq_test (fin false m e) (fin true n k) a c b d C D p q = absurd (true≢false q.0)
eq_test (fin false m e) (fin false n k) a c b d C D p q =
    let P = m * up e * down k in
    let Q = n * up k * down e in
    same_test P Q (a * d) (b * c)
    (λ (h : P ≡ Q). le_antisymm
    (transfer a b c d (m * up e) (n * up k) (down e) (down k) (down_pos e) (down_pos k) (sym p.1) (sym q.1) (le_of_eq h))
    (transfer b a d c (n * up k) (m * up e) (down k) (down e) (down_pos k) (down_pos e) (sym q.1) (sym p.1) (le_of_eq (sym h))))
    (λ (h : a * d ≡ b * c). le_antisymm
    (transfer (m * up e) (n * up k) (down e) (down k) a b c d C D p.1 q.1 (le_of_eq h))
    (transfer (n * up k) (m * up e) (down k) (down e) b a d c D C q.1 p.1 (le_of_eq (sym h))))

-- ---- the entry and the rest, over whole numbers

-- 960 - A / C with A / C the whole number w
exact_entry : (A C w : ℕ) → 0 < C → A ≡ w * C → (960 * C - A) / C ≡ 960 - w
exact_entry A C w h e = ap (λ (z : ℕ). z / C) (ap (λ (z : ℕ). 960 * C - z) e ∙ sym (minus_times 960 w C)) ∙ mul-div_cancel (960 - w) h

exact_rest : (A C w : ℕ) → A ≡ w * C → (960 * C - A) % C ≡ 0
exact_rest A C w e = ap (λ (z : ℕ). z % C) (ap (λ (z : ℕ). 960 * C - z) e ∙ sym (minus_times 960 w C)) ∙ mul-mod_left (960 - w) C

-- w * C < A < (w + 1) * C
record Inside (A C w : ℕ) : Type 0 where
  over : w * C < A
  under : A < w * C + C
  few : w ≤ 959

part_entry : (A C w : ℕ) → Inside A C w → (960 * C - A) / C ≡ 959 - w
part_entry A C w i =
    let W : (959 - w) * C ≡ 959 * C - w * C = minus_times 959 w C in
    let most : w * C ≤ 959 * C = mul-le-mul_right C i.few in
    let over = i.over in
    let under = i.under in
    div-eq_of_lt-le C (le_trans (le_of_eq W) (omega arith)) (lt_of_lt_of_le (omega arith) (le_of_eq (sym (add-mul (959 - w) 1 C))))

part_rest : (A C w : ℕ) → Inside A C w → (960 * C - A) % C ≡ (w + 1) * C - A
part_rest A C w i =
    let W : (959 - w) * C ≡ 959 * C - w * C = minus_times 959 w C in
    let most : w * C ≤ 959 * C = mul-le-mul_right C i.few in
    let over = i.over in
    let under = i.under in
    let next : (w + 1) * C ≡ w * C + 1 * C = add-mul w 1 C in
    mod-eq-sub-div-mul (960 * C - A) C ∙ ap (λ (z : ℕ). 960 * C - A - z * C) (part_entry A C w i) ∙ omega arith

-- ---- below 0, and from 0 on

pub record Below (n : Float) : Type 0 where
  pub A : ℕ
  pub C : ℕ
  pub value : HasValue (mul binary64 n sixteen) true A C
  pub above : 0 < C
  pub bound : A < 960 * C
  pub entry : entry_below n ≡ (960 * C - A) / C
  pub rest : rest_above n ≡ round binary64 false ((960 * C - A) % C) C

pub record From (n : Float) : Type 0 where
  pub A : ℕ
  pub C : ℕ
  pub value : HasValue (mul binary64 n sixteen) false A C
  pub above : 0 < C
  pub bound : A ≤ 16 * limit_decibels * C
  pub entry : entry_below n ≡ (960 * C + A) / C
  pub rest : rest_above n ≡ round binary64 false ((960 * C + A) % C) C

sign : (n : Float) (S : Steps n) → S.s ≡ lt (mul binary64 n sixteen) (of_bits binary64 0)
sign n S = sym (below_zero (mul binary64 n sixteen) S.s (16 * S.a) S.c S.value (mul-pos (lit< tt) S.some))

times : (a c k : ℕ) → a < k * c → 16 * a < 16 * (k * c)
times a c k h = omega arith

times_le : (a c k : ℕ) → a ≤ k * c → 16 * a ≤ 16 * (k * c)
times_le a c k h = omega arith

pub below : (n : Float) → Steps n → lt (mul binary64 n sixteen) (of_bits binary64 0) ≡ true → Below n
below n S h =
    let e : S.s ≡ true = sign n S ∙ h in
    record {
      A = 16 * S.a;
      C = S.c;
      value = subst (λ (z : Bool). HasValue (mul binary64 n sixteen) z (16 * S.a) S.c) e S.value;
      above = S.above;
      bound = lt_of_lt_of_le (times S.a S.c 60 (S.low e)) (le_of_eq (sym (mul_assoc 16 60 S.c)));
      entry = S.entry ∙ ap (λ (z : Bool). sixteenths z S.a S.c / S.c) e;
      rest = S.rest ∙ ap (λ (z : Bool). round binary64 false (sixteenths z S.a S.c % S.c) S.c) e;
    }

pub from : (n : Float) → Steps n → lt (mul binary64 n sixteen) (of_bits binary64 0) ≡ false → From n
from n S h =
    let e : S.s ≡ false = sign n S ∙ h in
    record {
      A = 16 * S.a;
      C = S.c;
      value = subst (λ (z : Bool). HasValue (mul binary64 n sixteen) z (16 * S.a) S.c) e S.value;
      above = S.above;
      bound = le_trans (times_le S.a S.c limit_decibels (S.high e)) (le_of_eq (sym (mul_assoc 16 limit_decibels S.c)));
      entry = S.entry ∙ ap (λ (z : Bool). sixteenths z S.a S.c / S.c) e;
      rest = S.rest ∙ ap (λ (z : Bool). round binary64 false (sixteenths z S.a S.c % S.c) S.c) e;
    }

-- both are far below 2 ^ 53
wide : (A C k : ℕ) → 0 < C → A ≤ k * C → k < 2 ^ 53 → A < 2 ^ 53 * C
wide A C k h b l = lt_of_le_of_lt b (mul-lt-mul_of_pos_right l h)

pub below_wide : {n : Float} (b : Below n) → b.A < 2 ^ 53 * b.C
below_wide b = wide b.A b.C 960 b.above (le_of_lt b.bound) (lit< tt)

pub from_wide : {n : Float} (b : From n) → b.A < 2 ^ 53 * b.C
from_wide b = wide b.A b.C (16 * limit_decibels) b.above b.bound (lit< tt)

-- ---- the whole part that the code cuts off

pub below_cut : {n : Float} (b : Below n) → to_unsigned 64 (neg (mul binary64 n sixteen)) ≡ b.A / b.C
below_cut {n} b = cut (neg (mul binary64 n sixteen)) b.A b.C (negated (mul binary64 n sixteen) b.A b.C b.value) b.above (below_wide b)

pub from_cut : {n : Float} (b : From n) → to_unsigned 64 (mul binary64 n sixteen) ≡ b.A / b.C
from_cut {n} b = cut (mul binary64 n sixteen) b.A b.C b.value b.above (from_wide b)

pub below_few : {n : Float} (b : Below n) → b.A / b.C ≤ 959
below_few b = le_of_suc-le-suc ((div-lt_iff_lt-mul b.above).1 b.bound)

pub from_few : {n : Float} (b : From n) → b.A / b.C ≤ 16 * limit_decibels
from_few b = le_of_suc-le-suc ((div-lt_iff_lt-mul b.above).1 (lt_of_le_of_lt b.bound (omega (arith, b.above))))

pub in_float_lem : (w : ℕ) → w ≤ 1000 → T (in_float binary64 (pos w))
unfolding in_float
in_float_lem w h = le→leb w (2 ^ 53) (le_trans h (lit≤ tt))

-- ---- the results

module _ (n : Float) (w : ℕ) where
  -- a whole number of sixteenths below 0
  pub at_entry : (b : Below n) → w ≡ b.A / b.C → eq (neg (mul binary64 n sixteen)) (whole w) ≡ true → (960 - w ≡ entry_below n) × (of_bits binary64 0 ≡ rest_above n)
  at_entry b e t =
      let few : w ≤ 959 = le_trans (le_of_eq e) (below_few b) in
      let q : b.A * 1 ≡ w * b.C = eqb-true (b.A * 1) (w * b.C) (sym (eq_test (neg (mul binary64 n sixteen)) (whole w) b.A b.C w 1 b.above (lit< tt) (negated (mul binary64 n sixteen) b.A b.C b.value) (whole_value w (le_trans few (lit≤ tt)))) ∙ t) in
      let q' : b.A ≡ w * b.C = sym (mul-one b.A) ∙ q in (
        sym (b.entry ∙ exact_entry b.A b.C w b.above q'),
        sym (b.rest ∙ ap (λ (z : ℕ). round binary64 false z b.C) (exact_rest b.A b.C w q') ∙ round_zero binary64 false b.C b.above ∙ sym (zero_bits binary64)),
      )

  -- between two of them
  pub between_entries : (b : Below n) → w ≡ b.A / b.C → eq (neg (mul binary64 n sixteen)) (whole w) ≡ false
      → (959 - w ≡ entry_below n) × (add binary64 (mul binary64 n sixteen) (whole (w + 1)) ≡ rest_above n)
  between_entries b e t =
      let few : w ≤ 959 = le_trans (le_of_eq e) (below_few b) in
      let q : b.A * 1 ≡ w * b.C → ⊥ = eqb-false (b.A * 1) (w * b.C) (sym (eq_test (neg (mul binary64 n sixteen)) (whole w) b.A b.C w 1 b.above (lit< tt) (negated (mul binary64 n sixteen) b.A b.C b.value) (whole_value w (le_trans few (lit≤ tt)))) ∙ t) in
      let d : w * b.C + b.A % b.C ≡ b.A = subst (λ (z : ℕ). z * b.C + b.A % b.C ≡ b.A) (sym e) (div-add-mod' b.A b.C) in
      let l : b.A % b.C < b.C = mod-lt b.A b.above in
      let i : Inside b.A b.C w = record {
        over = lt_of_le-ne (subst (λ (z : ℕ). z * b.C ≤ b.A) (sym e) (div-mul-le_self b.A b.C)) (λ (g : w * b.C ≡ b.A). q (mul-one b.A ∙ sym g));
        under = omega arith;
        few = few;
      } in
      let next : (w + 1) * b.C ≡ w * b.C + 1 * b.C = add-mul w 1 b.C in
      let less : b.A * 1 < (w + 1) * b.C = omega arith in (
        sym (b.entry ∙ part_entry b.A b.C w i),
        add_at binary64 (mul binary64 n sixteen) (whole (w + 1)) b.A b.C (w + 1) 1 b.above (lit< tt) b.value (whole_value (w + 1) (le_trans (omega arith) (lit≤ {m = 960} tt))) less
            ∙ ap (λ (z : ℕ). round binary64 false ((w + 1) * b.C - z) (1 * b.C)) (mul-one b.A)
            ∙ ap (λ (z : ℕ). round binary64 false ((w + 1) * b.C - b.A) z) (one-mul b.C)
            ∙ sym (b.rest ∙ ap (λ (z : ℕ). round binary64 false z b.C) (part_rest b.A b.C w i)),
      )

  pub above_zero : (b : From n) → w ≡ b.A / b.C → (960 + w ≡ entry_below n) × (sub binary64 (mul binary64 n sixteen) (whole w) ≡ rest_above n)
  above_zero b e =
      let few : w ≤ 16 * limit_decibels = le_trans (le_of_eq e) (from_few b) in
      let most : w * b.C ≤ b.A = subst (λ (z : ℕ). z * b.C ≤ b.A) (sym e) (div-mul-le_self b.A b.C) in
      let rest : (960 * b.C + b.A) % b.C ≡ b.A - w * b.C =
      ap (λ (z : ℕ). z % b.C) (add_comm (960 * b.C) b.A)
      ∙ add-mul-mod_self_right b.A 960 b.C
      ∙ mod-eq-sub-div-mul b.A b.C
      ∙ ap (λ (z : ℕ). b.A - z * b.C) (sym e) in (
        sym (b.entry ∙ mul-add-div_right b.above 960 b.A ∙ ap (λ (z : ℕ). 960 + z) (sym e)),
        sub_at binary64 (mul binary64 n sixteen) (whole w) b.A b.C w 1 b.above (lit< tt) b.value (whole_value w (le_trans few (lit≤ tt))) (omega arith)
            ∙ ap (λ (z : ℕ). round binary64 false (z - w * b.C) (b.C * 1)) (mul-one b.A)
            ∙ ap (λ (z : ℕ). round binary64 false (b.A - w * b.C) z) (mul-one b.C)
            ∙ sym (b.rest ∙ ap (λ (z : ℕ). round binary64 false z b.C) rest),
      )

-- ---- the entry is at most the limit's

pub entry_most : (n : Float) → Steps n → entry_below n ≤ last_entry
entry_most n S = go (lt (mul binary64 n sixteen) (of_bits binary64 0)) refl
  where
    go : (t : Bool) → lt (mul binary64 n sixteen) (of_bits binary64 0) ≡ t → entry_below n ≤ last_entry
    go true e =
        let b = below n S e in
        let few : (960 * b.C - b.A) / b.C < 961 = (div-lt_iff_lt-mul b.above).1 (omega (arith, b.above)) in
        omega (arith, b.entry)
    go false e =
        let b = from n S e in
        omega (arith, b.entry, mul-add-div_right b.above 960 b.A, from_few b)
