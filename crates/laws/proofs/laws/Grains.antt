-- Numbers of f64 counted in grains of 2 ^ -g. Fewer than 2 ^ 53 whole grains are a number that f64 holds, and rounding passes no number that it holds: so
-- sums, products and quotients stay between whole bounds, and no error is counted. Assumes nothing.
use mathlib.Core.Path.{◌≡◌, refl, sym, ap, ◌∙◌, subst}
use mathlib.Core.Logic.{◌⊎◌, inl, inr}
use Prim.Native.Nat.{ℕ, zero, suc, ◌+◌, ◌-◌, ◌*◌, ◌^◌, ◌≤◌, ◌<◌}
use native.Mathlib.Nat.{le_trans, le_of_eq, le_of_lt, lt_of_le_of_lt, mul-pos, mul-le-mul, mul-le-mul_right}
use native.Mathlib.Omega.{arith}
use mathlib.Core.Bool.{false}
use lib.Dec.{T, lit<}
use lib.Pow.{pow-add, pow_pos, pow_mono}
use lib.Ieee.{Float, binary64, low, round, add, mul, div, le, of_int}
use lib.Ieee.Scale.{overflow}
use Rattle.laws.specs.Loop.{upto}
use Rattle.laws.specs.Float.{pos_zero, whole}
use Rattle.laws.specs.FloatOrder.{Number, plus, minus}
use Rattle.laws.specs.FloatRound.{Between}
use Rattle.laws.proofs.laws.FloatLiteral.{at_pos_zero}
use Rattle.laws.proofs.laws.FloatOrder.{OnGrid, one_sided, units→le}
use Rattle.laws.proofs.laws.FloatRound.{number, units_most, units_least, at_grid, at_integer, add_least, add_between, mul_between, div_between}

-- ---- whole grains

-- 1.0 in units of f64
abbrev unit : ℕ
unit = 2 ^ low binary64

-- fewer grains than so many are a number that f64 holds
abbrev pub grains_most : ℕ
grains_most = 2 ^ 53

-- a grain of 2 ^ -g in units
pub grain : ℕ → ℕ
grain g = 2 ^ (low binary64 - g)

-- 2 ^ g grains are one
unit_grains : (g : ℕ) → g ≤ low binary64 → unit ≡ 2 ^ g * grain g
unfolding grain
unit_grains g fine = ap (λ (k : ℕ). 2 ^ k) (parts (low binary64) g fine) ∙ pow-add 2 g (low binary64 - g)
  where
    parts : (a g : ℕ) → g ≤ a → a ≡ g + (a - g)
    parts a g h = omega arith

grain_most : (g : ℕ) → grain g ≤ unit
unfolding grain
grain_most g = pow_mono (less (low binary64) g)
  where
    less : (a g : ℕ) → a - g ≤ a
    less a g = omega arith

most_grains : grains_most * unit < overflow binary64
most_grains = lit< tt

-- n grains, as a number
abbrev grains : ℕ → ℕ → Float
grains g n = round binary64 false (n * grain g) unit

grains_held : (g n : ℕ) → n < grains_most → OnGrid binary64 (n * grain g)
unfolding grain
grains_held g n h =
    record { digits = n; place = low binary64 - g; is = refl; few = h; under = lt_of_le_of_lt (mul-le-mul (le_of_lt h) (grain_most g)) most_grains }

grains_at : (g n : ℕ) → n < grains_most → Number binary64 (grains g n) × (plus binary64 (grains g n) ≡ n * grain g) × (minus binary64 (grains g n) ≡ 0)
grains_at g n h = at_grid binary64 false (n * grain g) (grains_held g n h)

-- a number from a grains to b grains, and so not below zero
pub record InGrains (g a b : ℕ) (x : Float) : Type 0 where
  pub number : Number binary64 x
  pub none : minus binary64 x ≡ 0
  pub least : a * grain g ≤ plus binary64 x
  pub most : plus binary64 x ≤ b * grain g

one_side : (p m l l' : ℕ) → (p ≡ 0) ⊎ (m ≡ 0) → l' ≡ 0 → l + m ≤ p + l' → m ≡ 0
one_side p m l l' (inl z) e h = omega arith
one_side p m l l' (inr z) e h = z

at_least : (w p m l l' : ℕ) → l ≡ w → l' ≡ 0 → m ≡ 0 → l + m ≤ p + l' → w ≤ p
at_least w p m l l' a b c h = omega arith

at_most : (w p m l l' : ℕ) → l ≡ w → l' ≡ 0 → m ≡ 0 → p + l' ≤ l + m → p ≤ w
at_most w p m l l' a b c h = omega arith

between_grains : (g a b : ℕ) (x : Float) → a < grains_most → b < grains_most → Between binary64 (grains g a) (grains g b) x → InGrains g a b x
between_grains g a b x h k r =
    let lo = grains_at g a h in
    let hi = grains_at g b k in
    let l = units_least binary64 (grains g a) (grains g b) x lo.0 hi.0 r in
    let m = units_most binary64 (grains g a) (grains g b) x lo.0 hi.0 r in
    let z = one_side (plus binary64 x) (minus binary64 x) (plus binary64 (grains g a)) (minus binary64 (grains g a)) (one_sided binary64 x) lo.2 l in
    record {
      number = number binary64 (grains g a) (grains g b) x lo.0 hi.0 r;
      none = z;
      least = at_least (a * grain g) (plus binary64 x) (minus binary64 x) (plus binary64 (grains g a)) (minus binary64 (grains g a)) lo.1 lo.2 z l;
      most = at_most (b * grain g) (plus binary64 x) (minus binary64 x) (plus binary64 (grains g b)) (minus binary64 (grains g b)) hi.1 hi.2 z m;
    }

-- what lies below and what lies above
pub grains_le : (g a b c d : ℕ) (x y : Float) → InGrains g a b x → InGrains g c d y → b ≤ c → T (le x y)
grains_le g a b c d x y l m h =
    units→le binary64 x y l.number m.number
    (meet (plus binary64 x) (minus binary64 x) (plus binary64 y) (minus binary64 y) l.none m.none (le_trans l.most (le_trans (mul-le-mul_right (grain g) h) m.least)))
  where
    meet : (x x' y y' : ℕ) → x' ≡ 0 → y' ≡ 0 → x ≤ y → x + y' ≤ y + x'
    meet x x' y y' p q h = omega arith

-- ---- sums

sum_least : (W x x' y y' a b v v' : ℕ) → x' ≡ 0 → y' ≡ 0 → v ≡ (a + b) * W → v' ≡ 0 → a * W ≤ x → b * W ≤ y → x' + y' + v ≤ x + y + v'
sum_least W x x' y y' a b v v' p q r s h k = rw (p, q, r, s) (omega (arith, h, k))

sum_most : (W x x' y y' a b v v' : ℕ) → x' ≡ 0 → y' ≡ 0 → v ≡ (a + b) * W → v' ≡ 0 → x ≤ a * W → y ≤ b * W → x + y + v' ≤ x' + y' + v
sum_most W x x' y y' a b v v' p q r s h k = rw (p, q, r, s) (omega (arith, h, k))

pub sum_in : (g a b c d : ℕ) (x y : Float) → a + c < grains_most → b + d < grains_most → InGrains g a b x → InGrains g c d y → InGrains g (a + c) (b + d) (add binary64 x y)
sum_in g a b c d x y h k l m =
    let lo = grains_at g (a + c) h in
    let hi = grains_at g (b + d) k in
    between_grains g (a + c) (b + d) (add binary64 x y) h k
    (add_between binary64 x y (grains g (a + c)) (grains g (b + d)) l.number m.number lo.0 hi.0
    (sum_least (grain g) (plus binary64 x) (minus binary64 x) (plus binary64 y) (minus binary64 y) a c (plus binary64 (grains g (a + c))) (minus binary64 (grains g (a + c))) l.none m.none lo.1 lo.2
    l.least m.least)
    (sum_most (grain g) (plus binary64 x) (minus binary64 x) (plus binary64 y) (minus binary64 y) b d (plus binary64 (grains g (b + d))) (minus binary64 (grains g (b + d))) l.none m.none hi.1 hi.2
    l.most m.most))

-- a sum with a number that is not below zero is no less
pub sum_grows : (x y : Float) → Number binary64 x → Number binary64 y → minus binary64 y ≡ 0 → T (le x (add binary64 x y))
sum_grows x y N M z = add_least binary64 x y x N M N (more (plus binary64 x) (minus binary64 x) (plus binary64 y) (minus binary64 y) z)
  where
    more : (x x' y y' : ℕ) → y' ≡ 0 → x' + y' + x ≤ x + y + x'
    more x x' y y' e = omega arith

zero_in : (g : ℕ) → InGrains g 0 0 pos_zero
zero_in g =
    let z = at_pos_zero binary64 in
    record { number = z.0; none = z.2; least = nothing (grain g) (plus binary64 pos_zero) z.1; most = no_more (grain g) (plus binary64 pos_zero) z.1 }
  where
    nothing : (W x : ℕ) → x ≡ 0 → 0 * W ≤ x
    nothing W x e = omega arith

    no_more : (W x : ℕ) → x ≡ 0 → x ≤ 0 * W
    no_more W x e = omega arith

-- a number added up k times from 0.0

none_yet : (a : ℕ) → 0 ≡ 0 * a
none_yet a = omega arith

once_more : (k a : ℕ) → k * a + a ≡ suc k * a
once_more k a = omega arith

once_less : (k a : ℕ) → suc k * a < grains_most → k * a < grains_most
once_less k a h = omega arith

pub sums_in : (g a b : ℕ) (x : Float) → InGrains g a b x → (k : ℕ) → k * a < grains_most → k * b < grains_most → InGrains g (k * a) (k * b) (upto (λ i sum. add binary64 sum x) k pos_zero)
unfolding upto
sums_in g a b x l zero h m = subst (λ (n : ℕ). InGrains g n (0 * b) pos_zero) (none_yet a) (subst (λ (n : ℕ). InGrains g 0 n pos_zero) (none_yet b) (zero_in g))
sums_in g a b x l (suc k) h m =
    let sum = upto (λ i sum. add binary64 sum x) k pos_zero in
    subst (λ (n : ℕ). InGrains g n (suc k * b) (add binary64 sum x)) (once_more k a)
    (subst (λ (n : ℕ). InGrains g (k * a + a) n (add binary64 sum x)) (once_more k b)
    (sum_in g (k * a) (k * b) a b sum x (subst (λ (n : ℕ). n < grains_most) (sym (once_more k a)) h) (subst (λ (n : ℕ). n < grains_most) (sym (once_more k b)) m)
    (sums_in g a b x l k (once_less k a h) (once_less k b m)) l))

-- ---- whole numbers, quotients and products. W is a grain, U is one, and G is how many grains are one

whole_at : (n : ℕ) → n < 2 ^ 53 → Number binary64 (whole n) × (plus binary64 (whole n) ≡ n * unit) × (minus binary64 (whole n) ≡ 0)
unfolding of_int
whole_at n h = at_integer binary64 false n h

pub whole_in : (g n : ℕ) → g ≤ low binary64 → n < 2 ^ 53 → InGrains g (2 ^ g * n) (2 ^ g * n) (whole n)
whole_in g n fine h =
    let w = whole_at n h in
    let e : plus binary64 (whole n) ≡ 2 ^ g * n * grain g = w.1 ∙ ap (λ (z : ℕ). n * z) (unit_grains g fine) ∙ turn n (2 ^ g) (grain g) in
    record { number = w.0; none = w.2; least = le_of_eq (sym e); most = le_of_eq e }
  where
    turn : (n G W : ℕ) → n * (G * W) ≡ G * n * W
    turn n G W = omega arith

-- n ones in grains
over : (G W U n : ℕ) → U ≡ G * W → G * n * (W * U) ≡ n * U * U
over G W U n e = swap G W U n ∙ ap (λ (z : ℕ). n * z * U) (sym e)
  where
    swap : (G W U n : ℕ) → G * n * (W * U) ≡ n * (G * W) * U
    swap G W U n = omega arith

apart : (W U a m : ℕ) → a * m * (W * U) ≡ a * W * (m * U)
apart W U a m = omega arith

quotient_least : (G W U x x' y v v' n m a : ℕ) → U ≡ G * W → x ≡ n * U → x' ≡ 0 → y ≡ m * U → v ≡ a * W → v' ≡ 0 → a * m ≤ G * n → x' * U + v * y ≤ x * U + v' * y
quotient_least G W U x x' y v v' n m a e p q r s t h =
    rw (q, t, p, r, s) (tidy (a * W * (m * U)) (n * U * U) U (m * U) (le_trans (le_of_eq (sym (apart W U a m))) (le_trans (mul-le-mul_right (W * U) h) (le_of_eq (over G W U n e)))))
  where
    tidy : (k l U y : ℕ) → k ≤ l → 0 * U + k ≤ l + 0 * y
    tidy k l U y h = omega arith

quotient_most : (G W U x x' y v v' n m a : ℕ) → U ≡ G * W → x ≡ n * U → x' ≡ 0 → y ≡ m * U → v ≡ a * W → v' ≡ 0 → G * n ≤ a * m → x * U + v' * y ≤ x' * U + v * y
quotient_most G W U x x' y v v' n m a e p q r s t h =
    rw (q, t, p, r, s) (tidy (n * U * U) (a * W * (m * U)) U (m * U) (le_trans (le_of_eq (sym (over G W U n e))) (le_trans (mul-le-mul_right (W * U) h) (le_of_eq (apart W U a m)))))
  where
    tidy : (k l U y : ℕ) → k ≤ l → k + 0 * y ≤ 0 * U + l
    tidy k l U y h = omega arith

-- n / m of whole numbers
pub quotient_in : (g n m a b : ℕ) → g ≤ low binary64 → n < 2 ^ 53 → m < 2 ^ 53 → 0 < m → a < grains_most → b < grains_most → a * m ≤ 2 ^ g * n → 2 ^ g * n ≤ b * m
    → InGrains g a b (div binary64 (whole n) (whole m))
quotient_in g n m a b fine hn hm some ha hb below above =
    let x = whole_at n hn in
    let y = whole_at m hm in
    let lo = grains_at g a ha in
    let hi = grains_at g b hb in
    between_grains g a b (div binary64 (whole n) (whole m)) ha hb
    (div_between binary64 (whole n) (whole m) (grains g a) (grains g b) x.0 y.0 lo.0 hi.0
    (subst (λ (k : ℕ). 0 < k) (sym y.1) (mul-pos some (pow_pos (low binary64))))
    (quotient_least (2 ^ g) (grain g) unit (plus binary64 (whole n)) (minus binary64 (whole n)) (plus binary64 (whole m)) (plus binary64 (grains g a)) (minus binary64 (grains g a)) n m a (unit_grains g fine) x.1 x.2
    y.1 lo.1 lo.2 below)
    (quotient_most (2 ^ g) (grain g) unit (plus binary64 (whole n)) (minus binary64 (whole n)) (plus binary64 (whole m)) (plus binary64 (grains g b)) (minus binary64 (grains g b)) n m b (unit_grains g fine) x.1 x.2
    y.1 hi.1 hi.2 above))

product_least : (W U x x' y y' v v' n a : ℕ) → x' ≡ 0 → y ≡ n * U → y' ≡ 0 → v ≡ a * n * W → v' ≡ 0 → a * W ≤ x → x * y' + x' * y + v * U ≤ x * y + x' * y' + v' * U
product_least W U x x' y y' v v' n a p q r s t h =
    rw (p, r, t, q, s) (tidy (a * n * W * U) (x * (n * U)) x U (n * U) (le_trans (le_of_eq (turn W U n a)) (mul-le-mul_right (n * U) h)))
  where
    turn : (W U n a : ℕ) → a * n * W * U ≡ a * W * (n * U)
    turn W U n a = omega arith

    tidy : (k l x U y : ℕ) → k ≤ l → x * 0 + 0 * y + k ≤ l + 0 * 0 + 0 * U
    tidy k l x U y h = omega arith

product_most : (W U x x' y y' v v' n a : ℕ) → x' ≡ 0 → y ≡ n * U → y' ≡ 0 → v ≡ a * n * W → v' ≡ 0 → x ≤ a * W → x * y + x' * y' + v' * U ≤ x * y' + x' * y + v * U
product_most W U x x' y y' v v' n a p q r s t h =
    rw (p, r, t, q, s) (tidy (x * (n * U)) (a * n * W * U) x U (n * U) (le_trans (mul-le-mul_right (n * U) h) (le_of_eq (turn W U n a))))
  where
    turn : (W U n a : ℕ) → a * W * (n * U) ≡ a * n * W * U
    turn W U n a = omega arith

    tidy : (k l x U y : ℕ) → k ≤ l → k + 0 * 0 + 0 * U ≤ x * 0 + 0 * y + l
    tidy k l x U y h = omega arith

-- a number times a whole number
pub product_in : (g a b n : ℕ) (x : Float) → n < 2 ^ 53 → a * n < grains_most → b * n < grains_most → InGrains g a b x → InGrains g (a * n) (b * n) (mul binary64 x (whole n))
product_in g a b n x hn h k l =
    let y = whole_at n hn in
    let lo = grains_at g (a * n) h in
    let hi = grains_at g (b * n) k in
    between_grains g (a * n) (b * n) (mul binary64 x (whole n)) h k
    (mul_between binary64 x (whole n) (grains g (a * n)) (grains g (b * n)) l.number y.0 lo.0 hi.0
    (product_least (grain g) unit (plus binary64 x) (minus binary64 x) (plus binary64 (whole n)) (minus binary64 (whole n)) (plus binary64 (grains g (a * n))) (minus binary64 (grains g (a * n))) n a l.none y.1 y.2
    lo.1 lo.2 l.least)
    (product_most (grain g) unit (plus binary64 x) (minus binary64 x) (plus binary64 (whole n)) (minus binary64 (whole n)) (plus binary64 (grains g (b * n))) (minus binary64 (grains g (b * n))) n b l.none y.1 y.2
    hi.1 hi.2 l.most))
