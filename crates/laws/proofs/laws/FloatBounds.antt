-- Bounds on the size of a float, for f32 and f64 alike. `Within x a c` says that x is finite and |x| ≤ a / c.
-- A sum is within the sum of the bounds and a product within the product, where the format holds the bound itself (`Holds`): rounding keeps the
-- order, and it leaves the bound as it is. Bounds of many terms are counted as n * 2 ^ u, which a format holds for every short n. Assumes nothing.
use mathlib.Core.Path.{◌≡◌, sym, ap, ◌∙◌, subst}
use Prim.Native.Nat.{ℕ, suc, ◌+◌, ◌-◌, ◌*◌, ◌^◌, ◌≤◌, ◌<◌, zero-le, suc-le-suc}
use native.Mathlib.Nat.{le_refl, le_of_eq, le_of_lt, le_trans, lt_of_lt_of_le, zero-mul, one-mul, mul-one, mul_comm, mul_assoc, mul_right_comm, mul-mul-mul_comm, add-mul, mul-pos, mul-le-mul, mul-le-mul_right, add-le-add, le-add_left, le-add_right, sub-le, sub-add_cancel, add-zero}
use native.Mathlib.Numerals.{one-add}
use native.Mathlib.Omega.{arith}
use mathlib.Core.Bool.{Bool, true, false, ◌&&◌, ◌||◌, beq, cond, true≢false}
use lib.IntN.{ℤ}
use lib.Dec.{T, ltb, eqb, eqb→eq, ltb→lt, lit<, lit≤}
use lib.Pow.{pow-add, pow_pos, pow_mono, shl_lt}
use lib.Ieee.{Float, nan, inf, fin, Format, binary32, binary64, prec, emax, low, up, down, unlike, round, neg, sum, add, mul, le}
use lib.Ieee.Fits.{down_pos, and_l, reach}
use lib.Ieee.Exact.{HasValue, round_exact}
use lib.Ieee.Order.{round_mono}
use lib.Ieee.Scale.{overflow}
use lib.Ieee.Positive.{den, through}
use Rattle.laws.proofs.laws.Float.{Zero, positive_zero, negative_zero}
use Rattle.laws.proofs.laws.FloatValue.{Plus, round_plus, round_sign}
use Rattle.laws.specs.FloatBounds.{Within}

-- the format holds a / c: it is `digits` * 2 ^ `shift` times the format's smallest value, with no more digits than the format keeps, and below the overflow
pub record Holds (f : Format) (a c : ℕ) : Type 0 where
  pub positive : 0 < c
  pub digits : ℕ
  pub shift : ℕ
  pub short : digits < 2 ^ prec f
  pub under : digits * 2 ^ shift < overflow f
  pub exact : a * 2 ^ low f ≡ digits * 2 ^ shift * c

-- ---- what a format holds

split_low : (l u v : ℕ) → v ≤ l → 2 ^ u * 2 ^ l ≡ 2 ^ (u + (l - v)) * 2 ^ v
split_low l u v h =
    ap (λ (x : ℕ). 2 ^ u * x) (ap (λ (x : ℕ). 2 ^ x) (sym (sub-add_cancel h)) ∙ pow-add 2 (l - v) v)
    ∙ sym (mul_assoc (2 ^ u) (2 ^ (l - v)) (2 ^ v)) ∙ ap (λ (x : ℕ). x * 2 ^ v) (sym (pow-add 2 u (l - v)))

room : (k u v l t : ℕ) → v ≤ l → k + u ≤ t + v → k + (u + (l - v)) ≤ l + t
room k u v l t h g = omega arith

-- n * 2 ^ u / 2 ^ v, for an n of k digits
pub holds_scaled : (f : Format) (n k u v : ℕ) → n < 2 ^ k → k ≤ prec f → v ≤ low f → k + u ≤ suc (emax f) + v → Holds f (n * 2 ^ u) (2 ^ v)
holds_scaled f n k u v N K W U =
    record {
      positive = pow_pos v;
      digits = n;
      shift = u + (low f - v);
      short = lt_of_lt_of_le N (pow_mono K);
      under = lt_of_lt_of_le (shl_lt k (u + (low f - v)) N) (pow_mono (room k u v (low f) (suc (emax f)) W U));
      exact = mul_assoc n (2 ^ u) (2 ^ low f) ∙ ap (λ (x : ℕ). n * x) (split_low (low f) u v W) ∙ sym (mul_assoc n (2 ^ (u + (low f - v))) (2 ^ v));
    }

-- n * 2 ^ u
pub holds_count : (f : Format) (n k u : ℕ) → n < 2 ^ k → k ≤ prec f → k + u ≤ suc (emax f) → Holds f (n * 2 ^ u) 1
holds_count f n k u N K U = holds_scaled f n k u 0 N K zero-le (le_trans U (le-add_right (suc (emax f)) 0))

-- a whole number
pub holds_number : (f : Format) (n : ℕ) → n < 2 ^ prec f → Holds f n 1
holds_number f n N =
    subst (λ (x : ℕ). Holds f x 1) (mul-one n) (holds_count f n (prec f) 0 N (le_refl (prec f)) (le_trans (le_of_eq (add-zero (prec f))) (reach f)))

-- each format keeps 24 digits at least, and reaches 2 ^ 128 at least
pub least_digits : (f : Format) → 24 ≤ prec f
least_digits binary32 = lit≤ tt
least_digits binary64 = lit≤ tt

-- so each holds the whole numbers below 2 ^ 24
pub holds_small : (f : Format) (n : ℕ) → n < 2 ^ 24 → Holds f n 1
holds_small f n h = holds_number f n (lt_of_lt_of_le h (pow_mono (least_digits f)))

-- a power of two
pub holds_pow : (f : Format) (u : ℕ) → u ≤ emax f → Holds f (2 ^ u) 1
holds_pow f u U = subst (λ (x : ℕ). Holds f x 1) (one-mul (2 ^ u)) (holds_count f 1 1 u (lit< tt) (le_trans (lit≤ tt) (least_digits f)) (le_trans (le_of_eq (one-add u)) (suc-le-suc U)))

-- rounding leaves a bound that the format holds as it is
pub holds_value : {f : Format} (s : Bool) {a c : ℕ} → Holds f a c → HasValue (round f s a c) s a c
holds_value {f} s {a} {c} h = round_exact f s a c h.digits h.shift h.positive h.short h.under h.exact

-- ---- what has a bound, and what follows from one

pub within_weaken : {x : Float} {a b c : ℕ} → a ≤ b → Within x a c → Within x b c
within_weaken {x} h w = record { is_finite = w.is_finite; size = le_trans w.size (mul-le-mul_right (den x) h) }

nothing : (a c d : ℕ) → 0 * c ≤ a * d
nothing a c d = le_trans (le_of_eq (zero-mul c)) zero-le

pub within_zero : {x : Float} {a c : ℕ} → Zero x → Within x a c
within_zero {a = a} {c = c} positive_zero = record { is_finite = tt; size = nothing a c 1 }
within_zero {a = a} {c = c} negative_zero = record { is_finite = tt; size = nothing a c 1 }

pub within_value : (x : Float) (s : Bool) {a c : ℕ} → HasValue x s a c → Within x a c
within_value nan s h = absurd h
within_value (inf t) s h = absurd h
within_value (fin t m e) s h = record { is_finite = tt; size = le_of_eq h.1 }

pub within_neg : {x : Float} {a c : ℕ} → Within x a c → Within (neg x) a c
unfolding neg
within_neg {x = nan} w = w
within_neg {x = inf s} w = absurd w.is_finite
within_neg {x = fin s m e} w = record { is_finite = tt; size = w.size }

-- ---- bounds and the order

-- A ≤ B from the model's `lt || eq`, written from either side
either : (p : Bool) (A B : ℕ) (r : Bool) → (T p → A ≤ B) → T (p || (eqb A B && r)) → A ≤ B
either true A B r h t = h tt
either false A B r h t = le_of_eq (eqb→eq A B (and_l (eqb A B) r t))

either_back : (p : Bool) (A B : ℕ) (r : Bool) → (T p → A ≤ B) → T (p || (eqb B A && r)) → A ≤ B
either_back true A B r h t = h tt
either_back false A B r h t = le_of_eq (sym (eqb→eq B A (and_l (eqb B A) r t)))

less : (A B : ℕ) → T (ltb A B) → A ≤ B
less A B t = le_of_lt (ltb→lt A B t)

-- a value with the sign + is no larger than what it is below; one with the sign - no larger than what it is above
size_below : (m : ℕ) (e : ℤ) (t : Bool) (n : ℕ) (d : ℤ) → T (le (fin false m e) (fin t n d)) → m * up e * down d ≤ n * up d * down e
unfolding le
size_below m e true n d h = either false (m * up e * down d) (n * up d * down e) (false || eqb (m * up e * down d) 0) (λ t. absurd t) h
size_below m e false n d h = either (ltb (m * up e * down d) (n * up d * down e)) (m * up e * down d) (n * up d * down e) true (less (m * up e * down d) (n * up d * down e)) h

size_above : (m : ℕ) (e : ℤ) (t : Bool) (n : ℕ) (d : ℤ) → T (le (fin t n d) (fin true m e)) → m * up e * down d ≤ n * up d * down e
unfolding le
size_above m e false n d h = either_back false (m * up e * down d) (n * up d * down e) (false || eqb (n * up d * down e) 0) (λ t. absurd t) h
size_above m e true n d h = either_back (ltb (m * up e * down d) (n * up d * down e)) (m * up e * down d) (n * up d * down e) true (less (m * up e * down d) (n * up d * down e)) h

between : (s : Bool) (m : ℕ) (e : ℤ) (x : Float) (t : Bool) (n : ℕ) (d : ℤ) (a c : ℕ) → m * up e * c ≤ a * down e → n * up d * c ≤ a * down d → T (le (fin s m e) x) → T (le x (fin t n d)) → Within x a c
between s m e nan t n d a c v w h k = absurd (unfold le in h)
between s m e (inf true) t n d a c v w h k = absurd (unfold le in h)
between s m e (inf false) t n d a c v w h k = absurd (unfold le in k)
between s m e (fin true p z) t n d a c v w h k = record { is_finite = tt; size = through (p * up z) (m * up e) a (down z) (down e) c (down_pos e) (size_above p z s m e h) v }
between s m e (fin false p z) t n d a c v w h k = record { is_finite = tt; size = through (p * up z) (n * up d) a (down z) (down d) c (down_pos d) (size_below p z t n d k) w }

-- what lies between two values that are within a bound is within it
pub within_between : {lo x hi : Float} {a c : ℕ} → Within lo a c → Within hi a c → T (le lo x) → T (le x hi) → Within x a c
within_between {lo = nan} v w h k = absurd v.is_finite
within_between {lo = inf s} v w h k = absurd v.is_finite
within_between {lo = fin s m e} {hi = nan} v w h k = absurd w.is_finite
within_between {lo = fin s m e} {hi = inf t} v w h k = absurd w.is_finite
within_between {lo = fin s m e} {x = x} {hi = fin t n d} {a = a} {c = c} v w h k = between s m e x t n d a c v.size w.size h k

-- |x| ≤ u as two tests, where u is a / c
pub within_of_tests : {x : Float} (u : Float) {a c : ℕ} → HasValue u false a c → T (le (neg u) x) → T (le x u) → Within x a c
within_of_tests u v h k = within_between (within_neg (within_value u false v)) (within_value u false v) h k

-- ---- rounding

-- a result with the sign + that is below the bound
under_value : (x y : Float) (a c : ℕ) → Plus x → HasValue y false a c → T (le x y) → Within x a c
under_value nan y a c p v h = absurd p
under_value (inf true) y a c p v h = absurd (true≢false p)
under_value (inf false) nan a c p v h = absurd v
under_value (inf false) (inf t) a c p v h = absurd v
under_value (inf false) (fin t n d) a c p v h = absurd (unfold le in h)
under_value (fin true m e) y a c p v h = absurd (true≢false p)
under_value (fin false m e) nan a c p v h = absurd v
under_value (fin false m e) (inf t) a c p v h = absurd v
under_value (fin false m e) (fin t n d) a c p v h = record { is_finite = tt; size = through (m * up e) (n * up d) a (down e) (down d) c (down_pos d) (size_below m e t n d h) (le_of_eq v.1) }

round_plus_within : (f : Format) (n d a c : ℕ) → 0 < d → Holds f a c → n * c ≤ a * d → Within (round f false n d) a c
round_plus_within f n d a c D h k = under_value (round f false n d) (round f false a c) a c (round_plus f n d) (holds_value false h) (round_mono f n d a c D h.positive k)

-- a fraction that is no larger than a bound that the format holds rounds to a value within it
pub round_within : {f : Format} (s : Bool) (n d : ℕ) {a c : ℕ} → 0 < d → Holds f a c → n * c ≤ a * d → Within (round f s n d) a c
round_within {f} false n d {a} {c} D h k = round_plus_within f n d a c D h k
round_within {f} true n d {a} {c} D h k = subst (λ (x : Float). Within x a c) (sym (round_sign f n d)) (within_neg (round_plus_within f n d a c D h k))

-- ---- the operations

-- x / p ≤ a / c over the common denominator p * q
spread : (x p q a c : ℕ) → x * c ≤ a * p → x * q * c ≤ a * (p * q)
spread x p q a c h = le_trans (le_of_eq (mul_right_comm x q c)) (le_trans (mul-le-mul_right q h) (le_of_eq (mul_assoc a p q)))

sum_parts : (f : Format) (s t : Bool) (A B C a b c : ℕ) → 0 < C → Holds f (a + b) c → A * c ≤ a * C → B * c ≤ b * C → Within (sum f s A t B C) (a + b) c
unfolding sum
sum_parts f s t A B C a b c P h k l = go (beq s t) (ltb A B)
  where
    both : (A + B) * c ≤ (a + b) * C
    both = le_trans (le_of_eq (add-mul A B c)) (le_trans (add-le-add k l) (le_of_eq (sym (add-mul a b C))))

    first : (A - B) * c ≤ (a + b) * C
    first = le_trans (mul-le-mul_right c (sub-le A B)) (le_trans k (mul-le-mul_right C (le-add_right a b)))

    second : (B - A) * c ≤ (a + b) * C
    second = le_trans (mul-le-mul_right c (sub-le B A)) (le_trans l (mul-le-mul_right C (le-add_left b a)))

    go : (x y : Bool) → Within (cond x (round f s (A + B) C) (cond y (round f t (B - A) C) (round f (s && ltb B A) (A - B) C))) (a + b) c
    go true y = round_within s (A + B) C P h both
    go false true = round_within t (B - A) C P h second
    go false false = round_within (s && ltb B A) (A - B) C P h first

pub add_within : {f : Format} {x y : Float} {a b c : ℕ} → Holds f (a + b) c → Within x a c → Within y b c → Within (add f x y) (a + b) c
unfolding add
add_within {x = nan} h v w = absurd v.is_finite
add_within {x = inf s} h v w = absurd v.is_finite
add_within {x = fin s m e} {y = nan} h v w = absurd w.is_finite
add_within {x = fin s m e} {y = inf t} h v w = absurd w.is_finite
add_within {f} {x = fin s m e} {y = fin t n d} {a = a} {b = b} {c = c} h v w =
    sum_parts f s t (m * up e * down d) (n * up d * down e) (down e * down d) a b c (mul-pos (down_pos e) (down_pos d)) h
    (spread (m * up e) (down e) (down d) a c v.size)
    (le_trans (spread (n * up d) (down d) (down e) b c w.size) (le_of_eq (ap (λ (x : ℕ). b * x) (mul_comm (down d) (down e)))))

pub mul_within : {f : Format} {x y : Float} {a c b d : ℕ} → Holds f (a * b) (c * d) → Within x a c → Within y b d → Within (mul f x y) (a * b) (c * d)
unfolding mul
mul_within {x = nan} h v w = absurd v.is_finite
mul_within {x = inf s} h v w = absurd v.is_finite
mul_within {x = fin s m e} {y = nan} h v w = absurd w.is_finite
mul_within {x = fin s m e} {y = inf t} h v w = absurd w.is_finite
mul_within {x = fin s m e} {y = fin t n g} {a = a} {c = c} {b = b} {d = d} h v w =
    round_within (unlike s t) (m * up e * (n * up g)) (down e * down g) (mul-pos (down_pos e) (down_pos g)) h
    (le_trans (le_of_eq (mul-mul-mul_comm (m * up e) (n * up g) c d)) (le_trans (mul-le-mul v.size w.size) (le_of_eq (mul-mul-mul_comm a (down e) b (down g)))))

-- ---- bounds counted as n * 2 ^ u. k is a number of digits that holds every count, as 7 for counts up to 96

pub add_count : (f : Format) (k u : ℕ) {x y : Float} (n m : ℕ) → k ≤ prec f → k + u ≤ suc (emax f) → n + m < 2 ^ k
    → Within x (n * 2 ^ u) 1 → Within y (m * 2 ^ u) 1 → Within (add f x y) ((n + m) * 2 ^ u) 1
add_count f k u {x} {y} n m K U h v w =
    subst (λ (z : ℕ). Within (add f x y) z 1) (sym (add-mul n m (2 ^ u))) (add_within (subst (λ (z : ℕ). Holds f z 1) (add-mul n m (2 ^ u)) (holds_count f (n + m) k u h K U)) v w)

-- a count of k digits at most is one of a power of two that is k higher
pub raise_count : {x : Float} (n k u : ℕ) → n ≤ 2 ^ k → Within x (n * 2 ^ u) 1 → Within x (2 ^ (k + u)) 1
raise_count n k u h w = within_weaken (le_trans (mul-le-mul_right (2 ^ u) h) (le_of_eq (sym (pow-add 2 k u)))) w
