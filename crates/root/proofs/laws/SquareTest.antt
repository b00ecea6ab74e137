-- The code's test is exact: the sum of two f32 that stand side by side has 25 digits, its square 50, and an f64 holds 53. So the test in f64 compares squares of
-- whole numbers in units of the smallest f32. Assumes nothing.
use mathlib.Core.Path.{◌≡◌, refl, sym, ap, ap₂, ◌∙◌, subst}
use mathlib.Core.Logic.{◌⊎◌, inl, inr}
use mathlib.Core.Bool.{Bool, true, false, cond}
use Prim.Native.Nat.{ℕ, suc, ◌+◌, ◌-◌, ◌*◌, ◌^◌, ◌≤◌, ◌<◌}
use native.Mathlib.Nat.{le_of_lt, le_of_mul-le-mul_right, lt_of_le_of_lt, lt_of_lt_of_le, add-zero, add-mul, add-le-add, mul-le-mul, mul-le-mul_right, mul_assoc, mul_right_comm}
use native.Mathlib.Omega.{arith}
use lib.IntN.{ℤ}
use lib.Dec.{leb, leb→le, le→leb, lit<, lit≤}
use lib.Pow.{pow-add, pow_pos}
use lib.Ieee.{Float, nan, inf, fin, binary32, binary64, low, up, down, add, mul, le, round, of_bits}
use lib.Ieee.Fits.{fits_widens}
use lib.Ieee.Exact.{HasValue}
use lib.Ieee.Scale.{overflow}
use Rattle.laws.specs.FloatOrder.{Number, magnitude, plus, minus}
use Rattle.laws.specs.FloatRound.{Between, integer}
use Rattle.laws.proofs.laws.Arithmetic.{both_ways}
use Rattle.laws.proofs.laws.FloatOrder.{OnGrid, magnitude_exact, plus_on_grid, one_sided, value_plus, value_minus, le_is}
use Rattle.laws.proofs.laws.FloatRound.{number, mul_between, add_exact, between_same, at_grid, at_integer}
use Rattle.root.specs.Root.{FromZero, infinity, units, reaches}
use Rattle.root.proofs.laws.Patterns.{Next, next, pattern_number, pattern_minus, from_zero_minus}

-- ---- numbers from 0 up in units of f64

-- the smallest f32 in units of f64, and a unit's square in squares of them: both by powers that are shut, so that nobody computes with them
grain : ℕ
grain = 2 ^ 925

shift : ℕ
shift = 2 ^ 776

grain_units : 2 ^ low binary64 ≡ 2 ^ low binary32 * grain
unfolding grain
grain_units = refl

grain_square : grain * grain ≡ shift * 2 ^ low binary64
unfolding grain shift
grain_square = refl

grain-shift : grain ≡ 2 ^ low binary32 * shift
unfolding grain shift
grain-shift = refl

shift_positive : 0 < shift
unfolding shift
shift_positive = pow_pos 776

-- x is w units of f64
record Is (x : Float) (w : ℕ) : Type 0 where
  number : Number binary64 x
  none : minus binary64 x ≡ 0
  size : plus binary64 x ≡ w

-- an f32 is an f64
wide_value : (s : Bool) (m : ℕ) (e : ℤ) → Number binary32 (fin s m e) → HasValue (fin s m e) s (magnitude binary32 (fin s m e) * grain) (2 ^ low binary64)
wide_value s m e N = (
  refl,
  ap (λ (u : ℕ). m * up e * u) grain_units
      ∙ sym (mul_assoc (m * up e) (2 ^ low binary32) grain)
      ∙ ap (λ (z : ℕ). z * grain) (sym (magnitude_exact binary32 (fin s m e) N))
      ∙ mul_right_comm (magnitude binary32 (fin s m e)) (down e) grain,
)

scaled : (s : Bool) (a g : ℕ) → cond s 0 (a * g) ≡ cond s 0 a * g
scaled true a g = omega arith
scaled false a g = refl

scaled' : (s : Bool) (a g : ℕ) → cond s (a * g) 0 ≡ cond s a 0 * g
scaled' true a g = refl
scaled' false a g = omega arith

wide_plus : (x : Float) → Number binary32 x → plus binary64 x ≡ plus binary32 x * grain
wide_plus nan N = absurd N.is_finite
wide_plus (inf s) N = absurd N.is_finite
wide_plus (fin s m e) N =
    let a = magnitude binary32 (fin s m e) in
    value_plus binary64 (fin s m e) s (a * grain) (wide_value s m e N) ∙ scaled s a grain ∙ ap (λ (z : ℕ). z * grain) (unfold plus in refl)

wide_minus : (x : Float) → Number binary32 x → minus binary64 x ≡ minus binary32 x * grain
wide_minus nan N = absurd N.is_finite
wide_minus (inf s) N = absurd N.is_finite
wide_minus (fin s m e) N =
    let a = magnitude binary32 (fin s m e) in
    value_minus binary64 (fin s m e) s (a * grain) (wide_value s m e N) ∙ scaled' s a grain ∙ ap (λ (z : ℕ). z * grain) (unfold minus in refl)

wide : (x : Float) → Number binary32 x → minus binary32 x ≡ 0 → Is x (plus binary32 x * grain)
wide x N m =
    record {
      number = record { held = fits_widens x N.held; is_finite = N.is_finite };
      none = wide_minus x N ∙ ap (λ (z : ℕ). z * grain) m ∙ nothing grain;
      size = wide_plus x N;
    }
  where
    nothing : (g : ℕ) → ◌≡◌ {A = ℕ} (0 * g) 0
    nothing g = omega arith

-- ---- a sum and a product that f64 holds

-- what lies at w, but for the sign of a zero, is w
settled : (x : Float) (w : ℕ) → Number binary64 x → plus binary64 x ≡ w + minus binary64 x → Is x w
settled x w N e = record { number = N; none = zero_part (plus binary64 x) (minus binary64 x) w (one_sided binary64 x) e; size = all (plus binary64 x) (minus binary64 x) w (one_sided binary64 x) e }
  where
    zero_part : (p m w : ℕ) → (p ≡ 0) ⊎ (m ≡ 0) → p ≡ w + m → m ≡ 0
    zero_part p m w (inl z) e = omega arith
    zero_part p m w (inr z) e = z

    all : (p m w : ℕ) → (p ≡ 0) ⊎ (m ≡ 0) → p ≡ w + m → p ≡ w
    all p m w (inl z) e = omega arith
    all p m w (inr z) e = omega arith

sum_is : (x y : Float) (a b : ℕ) → Is x a → Is y b → OnGrid binary64 (a + b) → Is (add binary64 x y) (a + b)
sum_is x y a b X Y g =
    let r = add_exact binary64 x y false (a + b) X.number Y.number g
    (given (plus binary64 x) (minus binary64 x) (plus binary64 y) (minus binary64 y) a b X.size X.none Y.size Y.none) in
    settled (add binary64 x y) (a + b) r.0
    (found (plus binary64 (add binary64 x y)) (minus binary64 (add binary64 x y)) (plus binary64 x) (minus binary64 x) (plus binary64 y) (minus binary64 y) a b X.size X.none Y.size Y.none r.1)
  where
    given : (x x' y y' a b : ℕ) → x ≡ a → x' ≡ 0 → y ≡ b → y' ≡ 0 → a + b + (x' + y') ≡ 0 + (x + y)
    given x x' y y' a b p q r s = omega arith

    found : (z z' x x' y y' a b : ℕ) → x ≡ a → x' ≡ 0 → y ≡ b → y' ≡ 0 → z + (x' + y') ≡ z' + (x + y) → z ≡ a + b + z'
    found z z' x x' y y' a b p q r s e = omega arith

product_bounds : (x x' y y' v v' a b c U : ℕ) → x ≡ a → x' ≡ 0 → y ≡ b → y' ≡ 0 → v ≡ c → v' ≡ 0 → a * b ≡ c * U
    → (x * y' + x' * y + v * U ≤ x * y + x' * y' + v' * U) × (x * y + x' * y' + v' * U ≤ x * y' + x' * y + v * U)
product_bounds x x' y y' v v' a b c U p q r s t k e = rw (p, q, r, s, t, k) (lower a b (a * b) (c * U) U e, upper a b (a * b) (c * U) U e)
  where
    lower : (a b m n U : ℕ) → m ≡ n → a * 0 + 0 * b + n ≤ m + 0 * 0 + 0 * U
    lower a b m n U h = omega arith

    upper : (a b m n U : ℕ) → m ≡ n → m + 0 * 0 + 0 * U ≤ a * 0 + 0 * b + n
    upper a b m n U h = omega arith

product_is : (x y : Float) (a b c : ℕ) → Is x a → Is y b → a * b ≡ c * 2 ^ low binary64 → OnGrid binary64 c → Is (mul binary64 x y) c
product_is x y a b c X Y e g =
    let t = round binary64 false c (2 ^ low binary64) in
    let k = at_grid binary64 false c g in
    let i = product_bounds (plus binary64 x) (minus binary64 x) (plus binary64 y) (minus binary64 y) (plus binary64 t) (minus binary64 t) a b c (2 ^ low binary64) X.size X.none Y.size Y.none k.1 k.2 e in
    let r : Between binary64 t t (mul binary64 x y) = mul_between binary64 x y t t X.number Y.number k.0 k.0 i.0 i.1 in
    settled (mul binary64 x y) c (number binary64 t t (mul binary64 x y) k.0 k.0 r)
    (found (plus binary64 (mul binary64 x y)) (minus binary64 (mul binary64 x y)) (plus binary64 t) (minus binary64 t) c k.1 k.2 (between_same binary64 t (mul binary64 x y) k.0 r))
  where
    found : (z z' v v' c : ℕ) → v ≡ c → v' ≡ 0 → z + v' ≡ v + z' → z ≡ c + z'
    found z z' v v' c p q e = omega arith

-- ---- what f64 holds: n digits at a place, below 2 ^ 600 units of f32

grid : (w d p : ℕ) → w ≡ d * 2 ^ p → d < 2 ^ 53 → w < 2 ^ 600 → OnGrid binary64 (w * grain)
unfolding grain
grid w d p e few h =
    record {
      digits = d;
      place = p + 925;
      is = ap (λ (z : ℕ). z * 2 ^ 925) e ∙ mul_assoc d (2 ^ p) (2 ^ 925) ∙ ap (λ (z : ℕ). d * z) (sym (pow-add 2 p 925));
      few = few;
      under = lt_of_le_of_lt (mul-le-mul_right (2 ^ 925) (le_of_lt h)) (lit< tt);
    }

square_grid : (w d p : ℕ) → w ≡ d * 2 ^ p → d < 2 ^ 25 → w < 2 ^ 600 → OnGrid binary64 (w * w * shift)
unfolding shift
square_grid w d p e few h =
    record {
      digits = d * d;
      place = p + p + 776;
      is =
          ap (λ (z : ℕ). z * z * 2 ^ 776) e
          ∙ turn d (2 ^ p) (2 ^ 776)
          ∙ ap (λ (z : ℕ). d * d * z) (ap (λ (z : ℕ). z * 2 ^ 776) (sym (pow-add 2 p p)) ∙ sym (pow-add 2 (p + p) 776));
      few = lt_of_le_of_lt (mul-le-mul (le_of_lt few) (le_of_lt few)) (lit< tt);
      under = lt_of_le_of_lt (mul-le-mul_right (2 ^ 776) (mul-le-mul (le_of_lt h) (le_of_lt h))) (lit< tt);
    }
  where
    turn : (d p q : ℕ) → d * p * (d * p) * q ≡ d * d * (p * p * q)
    turn d p q = omega arith

-- ---- the test

-- 4.0
four : Float
four = of_bits binary64 4616189618054758400

four_is : Is four (4 * 2 ^ low binary64)
four_is = subst (λ (x : Float). Is x (4 * 2 ^ low binary64)) same (let k = at_integer binary64 false 4 (lit< tt) in record { number = k.0; none = k.2; size = k.1 })
  where
    same : integer binary64 false 4 ≡ four
    same = unfold four in unfold round in unfold of_bits in refl

before : (j k : ℕ) → k ≡ suc j → k < infinity → j < infinity
before j k e h = omega arith

units_under : (k : ℕ) → k < infinity → units k < overflow binary32
unfolding units
units_under k h = (plus_on_grid binary32 (of_bits binary32 k) (pattern_number k h)).under

wide_pattern : (k : ℕ) → k < infinity → Is (of_bits binary32 k) (units k * grain)
unfolding units
wide_pattern k h = wide (of_bits binary32 k) (pattern_number k h) (pattern_minus k h)

-- twice the middle of two f32 that stand side by side
module _ (j k : ℕ) (e : k ≡ suc j) (h : k < infinity) where
  abbrev twice : Float
  twice = add binary64 (of_bits binary32 j) (of_bits binary32 k)

  steps : Next j
  steps = next j (subst (λ (z : ℕ). z < infinity) e h)

  w : ℕ
  w = units j + units k

  digits : w ≡ (2 * steps.digits + 1) * 2 ^ steps.place
  unfolding w
  digits = ap₂ (λ (a b : ℕ). a + b) steps.this (ap units e ∙ steps.next) ∙ join steps.digits (2 ^ steps.place)
    where
      join : (d p : ℕ) → d * p + suc d * p ≡ (2 * d + 1) * p
      join d p = omega arith

  few : 2 * steps.digits + 1 < 2 ^ 25
  few = least steps.digits steps.few
    where
      least : (d : ℕ) → d < 2 ^ 24 → 2 * d + 1 < 2 ^ 25
      least d h = omega arith

  under : w < 2 ^ 600
  unfolding w
  under = lt_of_le_of_lt (add-le-add (le_of_lt (units_under j (before j k e h))) (le_of_lt (units_under k h))) (lit< tt)

  twice_is : Is twice (w * grain)
  unfolding w
  twice_is =
      let J : Is (of_bits binary32 j) (units j * grain) = wide_pattern j (before j k e h) in
      let K : Is (of_bits binary32 k) (units k * grain) = wide_pattern k h in
      let both = add-mul (units j) (units k) grain in
      subst (Is twice) (sym both)
      (sum_is (of_bits binary32 j) (of_bits binary32 k) (units j * grain) (units k * grain) J K (subst (OnGrid binary64) both (grid w (2 * steps.digits + 1) steps.place digits (lt_of_lt_of_le few (lit≤ tt)) under)))

  square_is : Is (mul binary64 twice twice) (w * w * shift)
  square_is =
      product_is twice twice (w * grain) (w * grain) (w * w * shift) twice_is twice_is
      (squared w grain shift (2 ^ low binary64) grain_square)
      (square_grid w (2 * steps.digits + 1) steps.place digits few under)
    where
      squared : (w g s U : ℕ) → g * g ≡ s * U → w * g * (w * g) ≡ w * w * s * U
      squared w g s U e = apart w g ∙ ap (λ (z : ℕ). w * w * z) e ∙ sym (mul_assoc (w * w) s U)
        where
          apart : (w g : ℕ) → w * g * (w * g) ≡ w * w * (g * g)
          apart w g = omega arith

-- 4 x
module _ (x : Float) (X : FromZero x) where
  v : ℕ
  v = plus binary32 x

  held : OnGrid binary32 v
  unfolding v
  held = plus_on_grid binary32 x X.number

  fourfold : v * 4 ≡ 4 * held.digits * 2 ^ held.place
  fourfold = ap (λ (z : ℕ). z * 4) held.is ∙ turn held.digits (2 ^ held.place)
    where
      turn : (d p : ℕ) → d * p * 4 ≡ 4 * d * p
      turn d p = omega arith

  target_is : Is (mul binary64 four x) (v * 4 * grain)
  unfolding v
  target_is =
      product_is four x (4 * 2 ^ low binary64) (v * grain) (v * 4 * grain) four_is (wide x X.number (from_zero_minus x X))
      (turn (2 ^ low binary64) v grain)
      (grid (v * 4) (4 * held.digits) held.place fourfold (less held.digits held.few) (lt_of_le_of_lt (mul-le-mul_right 4 (le_of_lt held.under)) (lit< tt)))
    where
      turn : (U v g : ℕ) → 4 * U * (v * g) ≡ v * 4 * g * U
      turn U v g = omega arith

      less : (d : ℕ) → d < 2 ^ 24 → 4 * d < 2 ^ 53
      less d h = omega arith

leb_scale : (a b s : ℕ) → 0 < s → leb (a * s) (b * s) ≡ leb a b
leb_scale a b s S =
    both_ways (leb (a * s) (b * s)) (leb a b) (λ h. le→leb a b (le_of_mul-le-mul_right (leb→le (a * s) (b * s) h) S)) (λ h. le→leb (a * s) (b * s) (mul-le-mul_right s (leb→le a b h)))

compared : (p m q n a b s : ℕ) → 0 < s → p ≡ a * s → m ≡ 0 → q ≡ b * s → n ≡ 0 → leb (p + n) (q + m) ≡ leb a b
compared p m q n a b s S e f g h = ap₂ leb (ap₂ (λ (y z : ℕ). y + z) e h ∙ add-zero (a * s)) (ap₂ (λ (y z : ℕ). y + z) g f ∙ add-zero (b * s)) ∙ leb_scale a b s S

test_is : (x : Float) (X : FromZero x) (j k : ℕ) → k ≡ suc j → k < infinity
    → le (mul binary64 (add binary64 (of_bits binary32 j) (of_bits binary32 k)) (add binary64 (of_bits binary32 j) (of_bits binary32 k))) (mul binary64 four x)
    ≡ leb ((units j + units k) * (units j + units k)) (4 * (plus binary32 x * 2 ^ 149))
unfolding v w
test_is x X j k e h =
    let S = square_is j k e h in
    let F = target_is x X in
    let a = mul binary64 (add binary64 (of_bits binary32 j) (of_bits binary32 k)) (add binary64 (of_bits binary32 j) (of_bits binary32 k)) in
    let b = mul binary64 four x in
    let n = units j + units k in
    le_is binary64 a b S.number F.number
    ∙ compared (plus binary64 a) (minus binary64 a) (plus binary64 b) (minus binary64 b) (n * n) (4 * (plus binary32 x * 2 ^ 149)) shift shift_positive S.size S.none
    (F.size ∙ ap (λ (z : ℕ). plus binary32 x * 4 * z) grain-shift ∙ turn (plus binary32 x) (2 ^ low binary32) shift) F.none
  where
    turn : (v u s : ℕ) → v * 4 * (u * s) ≡ 4 * (v * u) * s
    turn v u s = omega arith

pub square_test : (x : Float) (k : ℕ) → FromZero x → 0 < k → k < infinity
    → le (mul binary64 (add binary64 (of_bits binary32 (k - 1)) (of_bits binary32 k)) (add binary64 (of_bits binary32 (k - 1)) (of_bits binary32 k))) (mul binary64 (of_bits binary64 4616189618054758400) x)
    ≡ reaches (plus binary32 x) k
unfolding four reaches
square_test x k X p h = test_is x X (k - 1) k (omega arith) h
