-- Signed rounding keeps the order: a sum, difference, product or quotient whose exact value is at most v, for a number v of the format, rounds to at most v, and so from below.
-- Between two numbers of the format it is a number itself, and where the format holds the exact value it is that value. Assumes nothing.
use mathlib.Core.Path.{◌≡◌, refl, sym, ap, ◌∙◌, subst}
use mathlib.Core.Logic.{◌⊎◌, inl, inr}
use Prim.Native.Nat.{ℕ, suc, ◌+◌, ◌-◌, ◌*◌, ◌^◌, ◌≤◌, ◌<◌, zero-le}
use native.Mathlib.Nat.{le_trans, le_of_eq, le_of_lt, lt_of_lt_of_le, le_antisymm, lt_irrefl, le-add_left, le-add_right, not-le_of_lt, add-zero, zero-add, mul-one, zero-mul, mul-zero, mul_comm, mul_assoc, add-mul, mul-pos, mul-le-mul_right, mul-lt-mul_of_pos_right, mul-mul-mul_comm, le_of_mul-le-mul_right, eq_of_mul-eq-mul_right, add_left_cancel, le_dest}
use native.Mathlib.Omega.{arith}
use mathlib.Core.Bool.{Bool, true, false, not, cond}
use lib.IntN.{ℤ}
use lib.Dec.{T, lit≤, ltb, eqb, ltb→lt, nltb→le, eqb→eq}
use lib.Pow.{pow-add, pow_pos, pow_mono}
use lib.Ieee.{Float, nan, inf, fin, Format, binary32, binary64, prec, emax, low, up, down, unlike, odd, units, round, neg, sum, add, sub, mul, div, lt, le, fits}
use lib.Ieee.Fits.{and_r, down_pos, round_is, round-fits, reach, add-fits, sub-fits, mul-fits, div-fits}
use lib.Ieee.Exact.{HasValue, units_val, round_exact}
use lib.Ieee.Order.{drop, kept, round_mono}
use lib.Ieee.Scale.{finite, overflow, grid, round_same, round_under}
use lib.Ieee.Positive.{first_pos}
use Rattle.laws.proofs.laws.Arithmetic.{rearranged}
use Rattle.laws.specs.FloatOrder.{Number, magnitude, plus, minus}
use Rattle.laws.proofs.laws.FloatOrder.{OnGrid, zero_on_grid, magnitude_exact, plus_on_grid, minus_on_grid, one_sided, value_plus, value_minus, value_finite, neg_number, plus-neg, minus-neg, le→units, units→le, lt→units, units→lt, le_through, cross_left, cross_right}
use Rattle.laws.specs.FloatRound.{Between, integer}

-- ---- definitions

-- x is the fraction (p - n) / c, rounded to the format; an exact zero may have either sign
pub data Rounded (f : Format) (x : Float) (p n c : ℕ) : Type 0 where
  upward : (d : ℕ) → p ≡ n + d → x ≡ round f false d c → Rounded f x p n c
  downward : (d : ℕ) → n ≡ p + d → x ≡ round f true d c → Rounded f x p n c

-- ---- the size of a rounded fraction in units, which is `grid`

round_value : (f : Format) (s : Bool) (a c : ℕ) → grid f a c < overflow f → HasValue (round f s a c) s (grid f a c) (2 ^ low f)
round_value f s a c h =
    subst (λ (z : Float). HasValue z s (grid f a c) (2 ^ low f)) (sym (round_is f s a c)) (units_val f s (kept (prec f) (a * 2 ^ low f) c) (drop (prec f) (a * 2 ^ low f) c) h)

units_over : (f : Format) (s : Bool) (q k : ℕ) → overflow f ≤ q * 2 ^ k → units f s q k ≡ inf s
unfolding units
units_over f s q k h = go (ltb (q * 2 ^ k) (overflow f)) (ltb→lt (q * 2 ^ k) (overflow f))
  where
    go : (b : Bool) → (T b → q * 2 ^ k < overflow f) → cond b (odd (suc (prec f)) s q k (low f)) (inf s) ≡ inf s
    go true g = absurd (not-le_of_lt (g tt) h)
    go false g = refl

round_over : (f : Format) (s : Bool) (a c : ℕ) → overflow f ≤ grid f a c → round f s a c ≡ inf s
round_over f s a c h = round_is f s a c ∙ units_over f s (kept (prec f) (a * 2 ^ low f) c) (drop (prec f) (a * 2 ^ low f) c) h

round_number : (f : Format) (s : Bool) (a c : ℕ) → grid f a c < overflow f → Number f (round f s a c)
round_number f s a c h = record { held = round-fits f s a c; is_finite = value_finite (round f s a c) s (grid f a c) (2 ^ low f) (round_value f s a c h) }

round-plus : (f : Format) (s : Bool) (a c : ℕ) → grid f a c < overflow f → plus f (round f s a c) ≡ cond s 0 (grid f a c)
round-plus f s a c h = value_plus f (round f s a c) s (grid f a c) (round_value f s a c h)

round-minus : (f : Format) (s : Bool) (a c : ℕ) → grid f a c < overflow f → minus f (round f s a c) ≡ cond s (grid f a c) 0
round-minus f s a c h = value_minus f (round f s a c) s (grid f a c) (round_value f s a c h)

pub below_or_not : (a b : ℕ) → (a < b) ⊎ (b ≤ a)
below_or_not a b = go (ltb a b) (ltb→lt a b) (nltb→le a b)
  where
    go : (t : Bool) → (T t → a < b) → (T (not t) → b ≤ a) → (a < b) ⊎ (b ≤ a)
    go true p q = inl (p tt)
    go false p q = inr (q tt)

-- what lies on the grid is not changed
grid_fixed : (f : Format) (w : ℕ) → OnGrid f w → (grid f w (2 ^ low f) < overflow f) × (grid f w (2 ^ low f) ≡ w)
grid_fixed f w g =
    let u = 2 ^ low f in
    let x = round f false w u in
    let v : HasValue x false w u = round_exact f false w u g.digits g.place (pow_pos (low f)) g.few (subst (λ (z : ℕ). z < overflow f) g.is g.under) (ap (λ (z : ℕ). z * u) g.is) in
    let k : grid f w u < overflow f = round_under f w u (value_finite x false w u v) in
    (k, sym (round-plus f false w u k) ∙ value_plus f x false w v)

no_more : (a b p q r s : ℕ) → p + s ≤ r + q → p ≡ a → q ≡ 0 → r ≡ b → s ≡ 0 → a ≤ b
no_more a b p q r s h i j k l = omega arith

-- the order of two rounded fractions that don't overflow is that of their grids
grids_of_le : (f : Format) (a c b d : ℕ) → grid f a c < overflow f → grid f b d < overflow f → T (le (round f false a c) (round f false b d)) → grid f a c ≤ grid f b d
grids_of_le f a c b d h k l =
    let x = round f false a c in
    let y = round f false b d in
    no_more (grid f a c) (grid f b d) (plus f x) (minus f x) (plus f y) (minus f y)
    (le→units f x y (round_number f false a c h) (round_number f false b d k) l)
    (round-plus f false a c h) (round-minus f false a c h) (round-plus f false b d k) (round-minus f false b d k)

inf_not_le : (x : Float) → T (finite x) → T (le (inf false) x) → ⊥
unfolding le
inf_not_le nan h t = h
inf_not_le (inf s) h t = h
inf_not_le (fin s m e) h t = t

pub grid_most : (f : Format) (a c w : ℕ) → 0 < c → OnGrid f w → a * 2 ^ low f ≤ w * c → (grid f a c < overflow f) × (grid f a c ≤ w)
grid_most f a c w C g h =
    let u = 2 ^ low f in
    let fixed = grid_fixed f w g in
    let l : T (le (round f false a c) (round f false w u)) = round_mono f a c w u C (pow_pos (low f)) h in
    elim (below_or_not (grid f a c) (overflow f)) [
      | inl k ↦ (k, le_trans (grids_of_le f a c w u k fixed.0 l) (le_of_eq fixed.1))
      | inr k ↦ absurd (inf_not_le (round f false w u) (round_number f false w u fixed.0).is_finite (subst (λ (z : Float). T (le z (round f false w u))) (round_over f false a c k) l))
    ]

pub grid_least : (f : Format) (a c w : ℕ) → 0 < c → OnGrid f w → w * c ≤ a * 2 ^ low f → w ≤ grid f a c
grid_least f a c w C g h =
    let u = 2 ^ low f in
    let fixed = grid_fixed f w g in
    elim (below_or_not (grid f a c) (overflow f)) [
      | inl k ↦ le_trans (le_of_eq (sym fixed.1)) (grids_of_le f w u a c fixed.0 k (round_mono f w u a c (pow_pos (low f)) C h))
      | inr k ↦ le_trans (le_of_lt g.under) k
    ]

-- ---- a rounded fraction against a number v of the format

-- a fraction d / c that is at most a - a', where a or a' is 0
within : (a a' c d u : ℕ) → 0 < c → (a ≡ 0) ⊎ (a' ≡ 0) → d * u + a' * c ≤ a * c → (a' ≡ 0) × (d * u ≤ a * c)
within a a' c d u C (inl z) h =
    let e : a' ≡ 0 = le_antisymm (le_of_mul-le-mul_right (le_trans (le_trans (le-add_left (a' * c) (d * u)) h) (le_of_eq (ap (λ (k : ℕ). k * c) z))) C) zero-le in
    (e, le_trans (le-add_right (d * u) (a' * c)) h)
within a a' c d u C (inr z) h = (z, le_trans (le-add_right (d * u) (a' * c)) h)

module _ (f : Format) (a a' c d : ℕ) (C : 0 < c) (one : (a ≡ 0) ⊎ (a' ≡ 0)) where
  -- d / c ≤ a - a'
  rounds_within : OnGrid f a → d * 2 ^ low f + a' * c ≤ a * c → (grid f d c < overflow f) × (grid f d c + a' ≤ a)
  rounds_within g h =
      let k = within a a' c d (2 ^ low f) C one h in
      let m = grid_most f d c a C g k.1 in
      (m.0, le_trans (le_of_eq (ap (λ (z : ℕ). grid f d c + z) k.0 ∙ add-zero (grid f d c))) m.1)

  -- a' - a ≤ d / c
  rounds_beyond : OnGrid f a' → a' * c ≤ d * 2 ^ low f + a * c → a' ≤ a + grid f d c
  rounds_beyond g h = elim one [
    | inl z ↦
        le_trans
        (grid_least f d c a' C g (le_trans h (le_of_eq (ap (λ (k : ℕ). d * 2 ^ low f + k * c) z ∙ ap (λ (k : ℕ). d * 2 ^ low f + k) (zero-mul c) ∙ add-zero (d * 2 ^ low f)))))
        (le-add_left (grid f d c) a)
    | inr z ↦ le_trans (le_of_eq z) zero-le
  ]

inf-le : (v : Float) → T (finite v) → T (le (inf true) v)
unfolding le
inf-le nan h = h
inf-le (inf s) h = absurd h
inf-le (fin s m e) h = tt

le-inf : (v : Float) → T (finite v) → T (le v (inf false))
unfolding le
le-inf nan h = h
le-inf (inf s) h = absurd h
le-inf (fin s m e) h = tt

swap : {A B : Type 0} → A ⊎ B → B ⊎ A
swap (inl a) = inr a
swap (inr b) = inl b

-- (n + d) - n ≤ a - a', and a' - a ≤ (n + d) - n, with u to the unit
take_off : (p n d u x y : ℕ) → p ≡ n + d → p * u + x ≤ n * u + y → d * u + x ≤ y
take_off p n d u x y e h =
    let k : p * u ≡ n * u + d * u = ap (λ (z : ℕ). z * u) e ∙ add-mul n d u in
    omega arith

put_on : (p n d u x y : ℕ) → n ≡ p + d → p * u + x ≤ n * u + y → x ≤ d * u + y
put_on p n d u x y e h =
    let k : n * u ≡ p * u + d * u = ap (λ (z : ℕ). z * u) e ∙ add-mul p d u in
    omega arith

join_up : (g X X' a a' : ℕ) → X ≡ g → X' ≡ 0 → g + a' ≤ a → X + a' ≤ a + X'
join_up g X X' a a' p q h = omega arith

join_down : (g X X' a a' : ℕ) → X ≡ 0 → X' ≡ g → a' ≤ a + g → X + a' ≤ a + X'
join_down g X X' a a' p q h = omega arith

module _ (f : Format) (x : Float) (p n c : ℕ) (v : Float) (C : 0 < c) (N : Number f v) (r : Rounded f x p n c) where
  -- the exact value is at most v
  pub rounded_most : p * 2 ^ low f + minus f v * c ≤ n * 2 ^ low f + plus f v * c → T (le x v)
  rounded_most h = elim r [
    | upward d e i ↦
        let k = rounds_within f (plus f v) (minus f v) c d C (one_sided f v) (plus_on_grid f v N) (take_off p n d (2 ^ low f) (minus f v * c) (plus f v * c) e h) in
        subst (λ (z : Float). T (le z v)) (sym i)
        (units→le f (round f false d c) v (round_number f false d c k.0) N
        (join_up (grid f d c) (plus f (round f false d c)) (minus f (round f false d c)) (plus f v) (minus f v) (round-plus f false d c k.0) (round-minus f false d c k.0) k.1))
    | downward d e i ↦
        let k = rounds_beyond f (plus f v) (minus f v) c d C (one_sided f v) (minus_on_grid f v N) (put_on p n d (2 ^ low f) (minus f v * c) (plus f v * c) e h) in
        subst (λ (z : Float). T (le z v)) (sym i)
        (elim (below_or_not (grid f d c) (overflow f)) [
          | inl b ↦
              units→le f (round f true d c) v (round_number f true d c b) N
              (join_down (grid f d c) (plus f (round f true d c)) (minus f (round f true d c)) (plus f v) (minus f v) (round-plus f true d c b) (round-minus f true d c b) k)
          | inr b ↦ subst (λ (z : Float). T (le z v)) (sym (round_over f true d c b)) (inf-le v N.is_finite)
        ])
  ]

  -- the exact value is at least v
  pub rounded_least : n * 2 ^ low f + plus f v * c ≤ p * 2 ^ low f + minus f v * c → T (le v x)
  rounded_least h = elim r [
    | upward d e i ↦
        let k = rounds_beyond f (minus f v) (plus f v) c d C (swap (one_sided f v)) (plus_on_grid f v N) (put_on n p d (2 ^ low f) (plus f v * c) (minus f v * c) e h) in
        subst (λ (z : Float). T (le v z)) (sym i)
        (elim (below_or_not (grid f d c) (overflow f)) [
          | inl b ↦
              units→le f v (round f false d c) N (round_number f false d c b)
              (turned (plus f v) (minus f v) (plus f (round f false d c)) (minus f (round f false d c))
              (join_down (grid f d c) (minus f (round f false d c)) (plus f (round f false d c)) (minus f v) (plus f v) (round-minus f false d c b) (round-plus f false d c b) k))
          | inr b ↦ subst (λ (z : Float). T (le v z)) (sym (round_over f false d c b)) (le-inf v N.is_finite)
        ])
    | downward d e i ↦
        let k = rounds_within f (minus f v) (plus f v) c d C (swap (one_sided f v)) (minus_on_grid f v N) (take_off n p d (2 ^ low f) (plus f v * c) (minus f v * c) e h) in
        subst (λ (z : Float). T (le v z)) (sym i)
        (units→le f v (round f true d c) N (round_number f true d c k.0)
        (turned (plus f v) (minus f v) (plus f (round f true d c)) (minus f (round f true d c))
        (join_up (grid f d c) (minus f (round f true d c)) (plus f (round f true d c)) (minus f v) (plus f v) (round-minus f true d c k.0) (round-plus f true d c k.0) k.1)))
  ]
    where
      turned : (a b c d : ℕ) → d + a ≤ b + c → a + d ≤ c + b
      turned a b c d h = omega arith

-- ---- two rounded fractions over one divisor stand in the order of the fractions

grid_zero : (f : Format) (d c : ℕ) → 0 < c → d ≡ 0 → grid f d c ≡ 0
grid_zero f d c C z = le_antisymm (grid_most f d c 0 C (zero_on_grid f) (le_of_eq (ap (λ (k : ℕ). k * 2 ^ low f) z ∙ zero-mul (2 ^ low f) ∙ sym (zero-mul c)))).1 zero-le

-- a number that is ±d / c, rounded: its size in units
record Sized (f : Format) (x : Float) (s : Bool) (d c : ℕ) : Type 0 where
  under : grid f d c < overflow f
  on_plus : plus f x ≡ cond s 0 (grid f d c)
  on_minus : minus f x ≡ cond s (grid f d c) 0

sized : (f : Format) (x : Float) (s : Bool) (d c : ℕ) → Number f x → x ≡ round f s d c → Sized f x s d c
sized f x s d c N e = elim (below_or_not (grid f d c) (overflow f)) [
  | inl k ↦ record { under = k; on_plus = ap (plus f) e ∙ round-plus f s d c k; on_minus = ap (minus f) e ∙ round-minus f s d c k }
  | inr k ↦ absurd (subst (λ (z : Float). T (finite z)) (e ∙ round_over f s d c k) N.is_finite)
]

module _ (f : Format) (x y : Float) (p n p' n' c : ℕ) (C : 0 < c) (N : Number f x) (M : Number f y) where
  -- from their sizes
  sizes_le : (s t : Bool) (d e : ℕ) → Sized f x s d c → Sized f y t e c → cond s 0 (grid f d c) + cond t (grid f e c) 0 ≤ cond t 0 (grid f e c) + cond s (grid f d c) 0 → T (le x y)
  sizes_le s t d e X Y h =
      units→le f x y N M (joined (plus f x) (minus f x) (plus f y) (minus f y) (cond s 0 (grid f d c)) (cond s (grid f d c) 0) (cond t 0 (grid f e c)) (cond t (grid f e c) 0) X.on_plus X.on_minus Y.on_plus Y.on_minus h)
    where
      joined : (px mx py my a b c d : ℕ) → px ≡ a → mx ≡ b → py ≡ c → my ≡ d → a + d ≤ c + b → px + my ≤ py + mx
      joined px mx py my a b c d i j k l h = omega arith

  grids_le : (d e : ℕ) → grid f d c < overflow f → grid f e c < overflow f → d ≤ e → grid f d c ≤ grid f e c
  grids_le d e h k l = grids_of_le f d c e c h k (round_mono f d c e c C C (mul-le-mul_right c l))

  pub rounded_le : Rounded f x p n c → Rounded f y p' n' c → p + n' ≤ p' + n → T (le x y)
  rounded_le (upward d i j) (upward e k l) h =
      let X = sized f x false d c N j in
      let Y = sized f y false e c M l in
      sizes_le false false d e X Y (both (grid f d c) (grid f e c) (grids_le d e X.under Y.under (less p n d p' n' e i k h)))
    where
      less : (p n d p' n' e : ℕ) → p ≡ n + d → p' ≡ n' + e → p + n' ≤ p' + n → d ≤ e
      less p n d p' n' e i k h = omega arith

      both : (a b : ℕ) → a ≤ b → a + 0 ≤ b + 0
      both a b h = omega arith
  rounded_le (upward d i j) (downward e k l) h =
      let X = sized f x false d c N j in
      let Y = sized f y true e c M l in
      sizes_le false true d e X Y (none (grid f d c) (grid f e c) (grid_zero f d c C (first p n d p' n' e i k h)) (grid_zero f e c C (second p n d p' n' e i k h)))
    where
      first : (p n d p' n' e : ℕ) → p ≡ n + d → n' ≡ p' + e → p + n' ≤ p' + n → d ≡ 0
      first p n d p' n' e i k h = omega arith

      second : (p n d p' n' e : ℕ) → p ≡ n + d → n' ≡ p' + e → p + n' ≤ p' + n → e ≡ 0
      second p n d p' n' e i k h = omega arith

      none : (a b : ℕ) → a ≡ 0 → b ≡ 0 → a + b ≤ 0 + 0
      none a b i j = omega arith
  rounded_le (downward d i j) (upward e k l) h = sizes_le true false d e (sized f x true d c N j) (sized f y false e c M l) zero-le
  rounded_le (downward d i j) (downward e k l) h =
      let X = sized f x true d c N j in
      let Y = sized f y true e c M l in
      sizes_le true true d e X Y (both (grid f d c) (grid f e c) (grids_le e d Y.under X.under (less p n d p' n' e i k h)))
    where
      less : (p n d p' n' e : ℕ) → n ≡ p + d → n' ≡ p' + e → p + n' ≤ p' + n → e ≤ d
      less p n d p' n' e i k h = omega arith

      both : (a b : ℕ) → b ≤ a → 0 + b ≤ 0 + a
      both a b h = omega arith

-- ---- each operation's result is a rounded fraction

-- the same fraction over another divisor
carried : (p n d c p' n' c' : ℕ) → 0 < c → p ≡ n + d → p * c' ≡ p' * c → n * c' ≡ n' * c → (k : ℕ) × (p' ≡ n' + k) × (d * c' ≡ k * c)
carried p n d c p' n' c' C e i j =
    let s : p * c' ≡ n * c' + d * c' = ap (λ (z : ℕ). z * c') e ∙ add-mul n d c' in
    let l : n' ≤ p' = le_of_mul-le-mul_right (le_trans (le_of_eq (sym j)) (le_trans (le-add_right (n * c') (d * c')) (le_of_eq (sym s ∙ i)))) C in
    let k : ℕ = (le_dest l).0 in
    let q : n' + k ≡ p' = (le_dest l).1 in
    (k, sym q, add_left_cancel (n * c') (sym s ∙ i ∙ ap (λ (z : ℕ). z * c) (sym q) ∙ add-mul n' k c ∙ ap (λ (z : ℕ). z + k * c) (sym j)))

rescaled : (f : Format) (x : Float) (p n c p' n' c' : ℕ) → 0 < c → 0 < c' → p * c' ≡ p' * c → n * c' ≡ n' * c → Rounded f x p n c → Rounded f x p' n' c'
rescaled f x p n c p' n' c' C C' i j (upward d e h) =
    let k = carried p n d c p' n' c' C e i j in
    upward k.0 k.1 (h ∙ round_same f false d c k.0 c' C C' k.2)
rescaled f x p n c p' n' c' C C' i j (downward d e h) =
    let k = carried n p d c n' p' c' C e j i in
    downward k.0 k.1 (h ∙ round_same f true d c k.0 c' C C' k.2)

-- ±d / c
signed_rounded : (f : Format) (s : Bool) (d c : ℕ) → Rounded f (round f s d c) (cond s 0 d) (cond s d 0) c
signed_rounded f false d c = upward d (sym (zero-add d)) refl
signed_rounded f true d c = downward d (sym (zero-add d)) refl

rest : (a b : ℕ) → b ≤ a → a + 0 ≡ 0 + b + (a - b)
rest a b h = omega arith

gap : (a b : ℕ) → a < b → 0 + b ≡ a + 0 + (b - a)
gap a b h = omega arith

sum_rounded : (f : Format) (s : Bool) (a : ℕ) (t : Bool) (b c : ℕ) → Rounded f (sum f s a t b c) (cond s 0 a + cond t 0 b) (cond s a 0 + cond t b 0) c
unfolding sum
sum_rounded f false a false b c = upward (a + b) (sym (zero-add (a + b))) refl
sum_rounded f true a true b c = downward (a + b) (sym (zero-add (a + b))) refl
sum_rounded f false a true b c = go (ltb a b) (ltb→lt a b) (nltb→le a b)
  where
    go : (t : Bool) → (T t → a < b) → (T (not t) → b ≤ a) → Rounded f (cond t (round f true (b - a) c) (round f false (a - b) c)) (a + 0) (0 + b) c
    go true h k = downward (b - a) (gap a b (h tt)) refl
    go false h k = upward (a - b) (rest a b (k tt)) refl
sum_rounded f true a false b c = go (ltb a b) (ltb→lt a b) (nltb→le a b) (ltb b a) (nltb→le b a)
  where
    zero_part : (a b : ℕ) → b ≤ a → a ≤ b → 0 + b ≡ a + 0 + (a - b)
    zero_part a b h k = omega arith

    go : (t : Bool) → (T t → a < b) → (T (not t) → b ≤ a) → (u : Bool) → (T (not u) → a ≤ b) → Rounded f (cond t (round f false (b - a) c) (round f u (a - b) c)) (0 + b) (a + 0) c
    go true h k u l = upward (b - a) (gap a b (h tt)) refl
    go false h k true l = downward (a - b) (rest a b (k tt)) refl
    go false h k false l = upward (a - b) (zero_part a b (k tt) (l tt)) refl

scaled_part : (s : Bool) (A a U D : ℕ) → A * U ≡ a * D → cond s 0 A * U ≡ cond s 0 a * D
scaled_part true A a U D h = zero-mul U ∙ sym (zero-mul D)
scaled_part false A a U D h = h

scaled_part' : (s : Bool) (A a U D : ℕ) → A * U ≡ a * D → cond s A 0 * U ≡ cond s a 0 * D
scaled_part' true A a U D h = h
scaled_part' false A a U D h = zero-mul U ∙ sym (zero-mul D)

scaled_sum : (A B a b U D : ℕ) → A * U ≡ a * D → B * U ≡ b * D → (A + B) * U ≡ (a + b) * D
scaled_sum A B a b U D p q = add-mul A B U ∙ ap (λ (z : ℕ). z + B * U) p ∙ ap (λ (z : ℕ). a * D + z) q ∙ sym (add-mul a b D)

pub add_rounded : (f : Format) (x y : Float) → Number f x → Number f y → Rounded f (add f x y) (plus f x + plus f y) (minus f x + minus f y) (2 ^ low f)
unfolding add plus minus
add_rounded f nan y N M = absurd N.is_finite
add_rounded f (inf s) y N M = absurd N.is_finite
add_rounded f (fin s m e) nan N M = absurd M.is_finite
add_rounded f (fin s m e) (inf t) N M = absurd M.is_finite
add_rounded f (fin s m e) (fin t n d) N M =
    let A = m * up e * down d in
    let B = n * up d * down e in
    let D = down e * down d in
    let U = 2 ^ low f in
    let a = magnitude f (fin s m e) in
    let b = magnitude f (fin t n d) in
    let i : A * U ≡ a * D = cross_left f s m e t n d N M in
    let j : B * U ≡ b * D = cross_right f s m e t n d N M in
    rescaled f (sum f s A t B D) (cond s 0 A + cond t 0 B) (cond s A 0 + cond t B 0) D (cond s 0 a + cond t 0 b) (cond s a 0 + cond t b 0) U (mul-pos (down_pos e) (down_pos d)) (pow_pos (low f))
    (scaled_sum (cond s 0 A) (cond t 0 B) (cond s 0 a) (cond t 0 b) U D (scaled_part s A a U D i) (scaled_part t B b U D j))
    (scaled_sum (cond s A 0) (cond t B 0) (cond s a 0) (cond t b 0) U D (scaled_part' s A a U D i) (scaled_part' t B b U D j))
    (sum_rounded f s A t B D)

pub sub_rounded : (f : Format) (x y : Float) → Number f x → Number f y → Rounded f (sub f x y) (plus f x + minus f y) (minus f x + plus f y) (2 ^ low f)
unfolding sub
sub_rounded f x y N M =
    subst (λ (z : ℕ). Rounded f (add f x (neg y)) (plus f x + z) (minus f x + plus f y) (2 ^ low f)) (plus-neg f y)
    (subst (λ (z : ℕ). Rounded f (add f x (neg y)) (plus f x + plus f (neg y)) (minus f x + z) (2 ^ low f)) (minus-neg f y) (add_rounded f x (neg y) N (neg_number f y M)))

-- the parts of a product ±a * ±b
product_plus : (s t : Bool) (a b : ℕ) → cond (unlike s t) 0 (a * b) ≡ cond s 0 a * cond t 0 b + cond s a 0 * cond t b 0
product_plus false false a b = sym (add-zero (a * b))
product_plus false true a b = sym (ap (λ (z : ℕ). z + 0 * b) (mul-zero a) ∙ zero-add (0 * b) ∙ zero-mul b)
product_plus true false a b = sym (ap (λ (z : ℕ). z + a * 0) (zero-mul b) ∙ zero-add (a * 0) ∙ mul-zero a)
product_plus true true a b = sym (zero-add (a * b))

product_minus : (s t : Bool) (a b : ℕ) → cond (unlike s t) (a * b) 0 ≡ cond s 0 a * cond t b 0 + cond s a 0 * cond t 0 b
product_minus false false a b = sym (ap (λ (z : ℕ). z + 0 * b) (mul-zero a) ∙ zero-add (0 * b) ∙ zero-mul b)
product_minus false true a b = sym (add-zero (a * b))
product_minus true false a b = sym (zero-add (a * b))
product_minus true true a b = sym (ap (λ (z : ℕ). z + a * 0) (zero-mul b) ∙ zero-add (a * 0) ∙ mul-zero a)

pub mul_rounded : (f : Format) (x y : Float) → Number f x → Number f y
    → Rounded f (mul f x y) (plus f x * plus f y + minus f x * minus f y) (plus f x * minus f y + minus f x * plus f y) (2 ^ low f * 2 ^ low f)
unfolding mul plus minus
mul_rounded f nan y N M = absurd N.is_finite
mul_rounded f (inf s) y N M = absurd N.is_finite
mul_rounded f (fin s m e) nan N M = absurd M.is_finite
mul_rounded f (fin s m e) (inf t) N M = absurd M.is_finite
mul_rounded f (fin s m e) (fin t n d) N M =
    let U = 2 ^ low f in
    let a = magnitude f (fin s m e) in
    let b = magnitude f (fin t n d) in
    let r = unlike s t in
    let i : round f r (m * up e * (n * up d)) (down e * down d) ≡ round f r (a * b) (U * U) =
    round_same f r (m * up e * (n * up d)) (down e * down d) (a * b) (U * U) (mul-pos (down_pos e) (down_pos d)) (mul-pos (pow_pos (low f)) (pow_pos (low f)))
    (mul-mul-mul_comm (m * up e) (n * up d) U U
    ∙ ap (λ (z : ℕ). z * (n * up d * U)) (sym (magnitude_exact f (fin s m e) N))
    ∙ ap (λ (z : ℕ). a * down e * z) (sym (magnitude_exact f (fin t n d) M))
    ∙ mul-mul-mul_comm a (down e) b (down d)) in
    subst (λ (z : Float). Rounded f z (cond s 0 a * cond t 0 b + cond s a 0 * cond t b 0) (cond s 0 a * cond t b 0 + cond s a 0 * cond t 0 b) (U * U)) (sym i)
    (subst (λ (z : ℕ). Rounded f (round f r (a * b) (U * U)) z (cond s 0 a * cond t b 0 + cond s a 0 * cond t 0 b) (U * U)) (product_plus s t a b)
    (subst (λ (z : ℕ). Rounded f (round f r (a * b) (U * U)) (cond r 0 (a * b)) z (U * U)) (product_minus s t a b) (signed_rounded f r (a * b) (U * U))))

-- the quotient of two values by their magnitudes, the divisor not zero
div_is : (f : Format) (s : Bool) (m : ℕ) (e : ℤ) (t : Bool) (n : ℕ) (d : ℤ) → Number f (fin s m e) → Number f (fin t n d) → 0 < magnitude f (fin t n d)
    → div f (fin s m e) (fin t n d) ≡ round f (unlike s t) (magnitude f (fin s m e)) (magnitude f (fin t n d))
unfolding div
div_is f s m e t n d N M P =
    let A = m * up e * down d in
    let B = n * up d * down e in
    let D = down e * down d in
    let U = 2 ^ low f in
    let a = magnitude f (fin s m e) in
    let b = magnitude f (fin t n d) in
    let i : A * U ≡ a * D = cross_left f s m e t n d N M in
    let j : B * U ≡ b * D = cross_right f s m e t n d N M in
    let pd : 0 < D = mul-pos (down_pos e) (down_pos d) in
    let pb : 0 < B = first_pos B U (subst (λ (z : ℕ). 0 < z) (sym j) (mul-pos P pd)) in
    let q : A * b ≡ a * B = eq_of_mul-eq-mul_right (U * D) (mul-pos (pow_pos (low f)) pd) (A * b) (a * B)
    (mul-mul-mul_comm A b U D ∙ ap (λ (z : ℕ). z * (b * D)) i ∙ ap (λ (z : ℕ). a * D * z) (sym j) ∙ ap (λ (z : ℕ). a * D * z) (mul_comm B U) ∙ mul-mul-mul_comm a D U B ∙ ap (λ (z : ℕ). a * U * z) (mul_comm D B) ∙ mul-mul-mul_comm a U B D) in
    go (eqb n 0) (λ h. zero_first (eqb→eq n 0 h) pb) A B (round_same f (unlike s t) A B a b pb P q)
  where
    zero_first : n ≡ 0 → 0 < n * up d * down e → ⊥
    zero_first z h = lt_irrefl 0 (subst (λ (k : ℕ). 0 < k) (ap (λ (k : ℕ). k * up d * down e) z ∙ ap (λ (k : ℕ). k * down e) (zero-mul (up d)) ∙ zero-mul (down e)) h)

    go : (c : Bool) → (T c → ⊥) → (A B : ℕ) → round f (unlike s t) A B ≡ round f (unlike s t) (magnitude f (fin s m e)) (magnitude f (fin t n d))
        → cond c (cond (eqb m 0) nan (inf (unlike s t))) (round f (unlike s t) A B) ≡ round f (unlike s t) (magnitude f (fin s m e)) (magnitude f (fin t n d))
    go true h A B q = absurd (h tt)
    go false h A B q = q

-- by a divisor above zero, and below zero
pub div_rounded : (f : Format) (x y : Float) → Number f x → Number f y → 0 < plus f y → Rounded f (div f x y) (plus f x) (minus f x) (plus f y)
unfolding plus minus
div_rounded f nan y N M P = absurd N.is_finite
div_rounded f (inf s) y N M P = absurd N.is_finite
div_rounded f (fin s m e) nan N M P = absurd M.is_finite
div_rounded f (fin s m e) (inf t) N M P = absurd M.is_finite
div_rounded f (fin s m e) (fin true n d) N M P = absurd (lt_irrefl 0 P)
div_rounded f (fin s m e) (fin false n d) N M P = over_plus s (magnitude f (fin s m e)) (magnitude f (fin false n d)) (div_is f s m e false n d N M P)
  where
    over_plus : (s : Bool) (a b : ℕ) {z : Float} → z ≡ round f (unlike s false) a b → Rounded f z (cond s 0 a) (cond s a 0) b
    over_plus true a b h = downward a (sym (zero-add a)) h
    over_plus false a b h = upward a (sym (zero-add a)) h

-- ---- what lies between two numbers is a number

pub between_number : (f : Format) (lo hi x : Float) → T (finite lo) → T (finite hi) → Between f lo hi x → Number f x
between_number f lo hi x a b h = record { held = h.held; is_finite = go lo hi x a b h.least h.most }
  where
    go : (lo hi x : Float) → T (finite lo) → T (finite hi) → T (le lo x) → T (le x hi) → T (finite x)
    go nan hi x a b l m = absurd a
    go (inf s) hi x a b l m = absurd a
    go (fin s k e) nan x a b l m = absurd b
    go (fin s k e) (inf t) x a b l m = absurd b
    go (fin s k e) (fin t n d) nan a b l m = unfold le in l
    go (fin s k e) (fin t n d) (inf true) a b l m = unfold le in l
    go (fin s k e) (fin t n d) (inf false) a b l m = unfold le in m
    go (fin s k e) (fin t n d) (fin r i j) a b l m = tt

module _ (f : Format) (lo hi x : Float) (N : Number f lo) (M : Number f hi) (h : Between f lo hi x) where
  pub number : Number f x
  number = between_number f lo hi x N.is_finite M.is_finite h

  pub units_least : plus f lo + minus f x ≤ plus f x + minus f lo
  units_least = le→units f lo x N number h.least

  pub units_most : plus f x + minus f hi ≤ plus f hi + minus f x
  units_most = le→units f x hi number M h.most

-- ---- what lies between two that lie inside bounds lies inside them

-- nothing is below the one infinity, nothing above the other
none_below : (lo : Float) → T (lt lo (inf true)) → ⊥
unfolding lt
none_below nan h = h
none_below (inf s) h = and_r s false h
none_below (fin s m e) h = h

none_above : (hi : Float) → T (lt (inf false) hi) → ⊥
unfolding lt
none_above nan h = h
none_above (inf s) h = h
none_above (fin s m e) h = h

inside_finite : (lo hi x : Float) → T (lt lo x) → T (lt x hi) → T (finite x)
inside_finite lo hi nan a b = unfold lt in b
inside_finite lo hi (inf true) a b = none_below lo a
inside_finite lo hi (inf false) a b = none_above hi b
inside_finite lo hi (fin s m e) a b = tt

-- the bounds may be infinite
lt-le : (f : Format) (x y z : Float) → T (fits f x) → Number f y → Number f z → T (lt x y) → T (le y z) → T (lt x z)
lt-le f nan y z F M K h k = absurd (unfold lt in h)
lt-le f (inf s) nan z F M K h k = absurd M.is_finite
lt-le f (inf s) (inf t) z F M K h k = absurd M.is_finite
lt-le f (inf s) (fin t n d) nan F M K h k = absurd K.is_finite
lt-le f (inf s) (fin t n d) (inf u) F M K h k = absurd K.is_finite
lt-le f (inf s) (fin t n d) (fin u i j) F M K h k = unfold lt in h
lt-le f (fin s m e) y z F M K h k =
    let x = fin s m e in
    let N : Number f x = record { held = F; is_finite = tt } in
    units→lt f x z N K (through (plus f x) (minus f x) (plus f y) (minus f y) (plus f z) (minus f z) (lt→units f x y N M h) (le→units f y z M K k))
  where
    through : (px mx py my pz mz : ℕ) → px + my < py + mx → py + mz ≤ pz + my → px + mz < pz + mx
    through px mx py my pz mz h k = omega arith

le-lt : (f : Format) (x y z : Float) → Number f x → Number f y → T (fits f z) → T (le x y) → T (lt y z) → T (lt x z)
le-lt f nan y z N M F h k = absurd N.is_finite
le-lt f (inf s) y z N M F h k = absurd N.is_finite
le-lt f (fin s m e) nan z N M F h k = absurd M.is_finite
le-lt f (fin s m e) (inf t) z N M F h k = absurd M.is_finite
le-lt f (fin s m e) (fin t n d) nan N M F h k = unfold lt in k
le-lt f (fin s m e) (fin t n d) (inf u) N M F h k = unfold lt in k
le-lt f (fin s m e) (fin t n d) (fin u i j) N M F h k =
    let x = fin s m e in
    let y = fin t n d in
    let z = fin u i j in
    let K : Number f z = record { held = F; is_finite = tt } in
    units→lt f x z N K (through (plus f x) (minus f x) (plus f y) (minus f y) (plus f z) (minus f z) (le→units f x y N M h) (lt→units f y z M K k))
  where
    through : (px mx py my pz mz : ℕ) → px + my ≤ py + mx → py + mz < pz + my → px + mz < pz + mx
    through px mx py my pz mz h k = omega arith

pub inside_bounds : (f : Format) (lo hi x y z : Float) → T (fits f lo) → T (fits f hi) → T (fits f x) → T (fits f z) → T (lt lo x) → T (lt x hi) → T (lt lo z) → T (lt z hi) → Between f x z y → T (lt lo y) × T (lt y hi)
inside_bounds f lo hi x y z L H X Z a b c d B =
    let N : Number f x = record { held = X; is_finite = inside_finite lo hi x a b } in
    let M : Number f z = record { held = Z; is_finite = inside_finite lo hi z c d } in
    let K : Number f y = number f x z y N M B in
    (lt-le f lo x y L N K a B.least, le-lt f y z hi K M H B.most d)

pub units_between : (f : Format) (lo hi x : Float) → Number f lo → Number f hi → Number f x → plus f lo + minus f x ≤ plus f x + minus f lo → plus f x + minus f hi ≤ plus f hi + minus f x
    → Between f lo hi x
units_between f lo hi x N M K h k = record { held = K.held; least = units→le f lo x N K h; most = units→le f x hi K M k }

-- wider bounds; where they are literals, the two tests compute
pub between_widens : (f : Format) (lo hi lo' hi' x : Float) → Number f lo → Number f hi → Number f lo' → Number f hi' → T (le lo' lo) → T (le hi hi') → Between f lo hi x → Between f lo' hi' x
between_widens f lo hi lo' hi' x N M N' M' h k b =
    let K : Number f x = number f lo hi x N M b in
    record { held = b.held; least = le_through f lo' lo x N' N K h b.least; most = le_through f x hi hi' K M M' b.most k }

-- a value between v and v is v, but for the sign of a zero
pub between_same : (f : Format) (v x : Float) → Number f v → Between f v v x → plus f x + minus f v ≡ plus f v + minus f x
between_same f v x N h = le_antisymm (units_most f v v x N N h) (units_least f v v x N N h)

-- ---- the laws of each operation

rounded_fits : (f : Format) (x : Float) (p n c : ℕ) → Rounded f x p n c → T (fits f x)
rounded_fits f x p n c (upward d e h) = subst (λ (z : Float). T (fits f z)) (sym h) (round-fits f false d c)
rounded_fits f x p n c (downward d e h) = subst (λ (z : Float). T (fits f z)) (sym h) (round-fits f true d c)

pub rounded_between : (f : Format) (x : Float) (p n c : ℕ) (lo hi : Float) → 0 < c → Number f lo → Number f hi → Rounded f x p n c
    → n * 2 ^ low f + plus f lo * c ≤ p * 2 ^ low f + minus f lo * c → p * 2 ^ low f + minus f hi * c ≤ n * 2 ^ low f + plus f hi * c → Between f lo hi x
rounded_between f x p n c lo hi C N M r h k = record { held = rounded_fits f x p n c r; least = rounded_least f x p n c lo C N r h; most = rounded_most f x p n c hi C M r k }

-- in units the exact value is p - n
in_units : (p n v v' U : ℕ) → p + v' ≤ n + v → p * U + v' * U ≤ n * U + v * U
in_units p n v v' U h = le_trans (le_of_eq (sym (add-mul p v' U))) (le_trans (mul-le-mul_right U h) (le_of_eq (add-mul n v U)))

-- in units of a unit it is p - n
in_squares : (p n v v' U : ℕ) → p + v' * U ≤ n + v * U → p * U + v' * (U * U) ≤ n * U + v * (U * U)
in_squares p n v v' U h =
    le_trans (le_of_eq (ap (λ (z : ℕ). p * U + z) (sym (mul_assoc v' U U))))
    (le_trans (in_units p n (v * U) (v' * U) U h) (le_of_eq (ap (λ (z : ℕ). n * U + z) (mul_assoc v U U))))

module _ (f : Format) (x y v : Float) (N : Number f x) (M : Number f y) (K : Number f v) where
  pub add_most : plus f x + plus f y + minus f v ≤ minus f x + minus f y + plus f v → T (le (add f x y) v)
  add_most h =
      rounded_most f (add f x y) (plus f x + plus f y) (minus f x + minus f y) (2 ^ low f) v (pow_pos (low f)) K (add_rounded f x y N M)
      (in_units (plus f x + plus f y) (minus f x + minus f y) (plus f v) (minus f v) (2 ^ low f) h)

  pub add_least : minus f x + minus f y + plus f v ≤ plus f x + plus f y + minus f v → T (le v (add f x y))
  add_least h =
      rounded_least f (add f x y) (plus f x + plus f y) (minus f x + minus f y) (2 ^ low f) v (pow_pos (low f)) K (add_rounded f x y N M)
      (in_units (minus f x + minus f y) (plus f x + plus f y) (minus f v) (plus f v) (2 ^ low f) h)

  pub sub_most : plus f x + minus f y + minus f v ≤ minus f x + plus f y + plus f v → T (le (sub f x y) v)
  sub_most h =
      rounded_most f (sub f x y) (plus f x + minus f y) (minus f x + plus f y) (2 ^ low f) v (pow_pos (low f)) K (sub_rounded f x y N M)
      (in_units (plus f x + minus f y) (minus f x + plus f y) (plus f v) (minus f v) (2 ^ low f) h)

  pub sub_least : minus f x + plus f y + plus f v ≤ plus f x + minus f y + minus f v → T (le v (sub f x y))
  sub_least h =
      rounded_least f (sub f x y) (plus f x + minus f y) (minus f x + plus f y) (2 ^ low f) v (pow_pos (low f)) K (sub_rounded f x y N M)
      (in_units (minus f x + plus f y) (plus f x + minus f y) (minus f v) (plus f v) (2 ^ low f) h)

  pub mul_most : plus f x * plus f y + minus f x * minus f y + minus f v * 2 ^ low f ≤ plus f x * minus f y + minus f x * plus f y + plus f v * 2 ^ low f → T (le (mul f x y) v)
  mul_most h =
      let p = plus f x * plus f y + minus f x * minus f y in
      let n = plus f x * minus f y + minus f x * plus f y in
      rounded_most f (mul f x y) p n (2 ^ low f * 2 ^ low f) v (mul-pos (pow_pos (low f)) (pow_pos (low f))) K (mul_rounded f x y N M) (in_squares p n (plus f v) (minus f v) (2 ^ low f) h)

  pub mul_least : plus f x * minus f y + minus f x * plus f y + plus f v * 2 ^ low f ≤ plus f x * plus f y + minus f x * minus f y + minus f v * 2 ^ low f → T (le v (mul f x y))
  mul_least h =
      let p = plus f x * plus f y + minus f x * minus f y in
      let n = plus f x * minus f y + minus f x * plus f y in
      rounded_least f (mul f x y) p n (2 ^ low f * 2 ^ low f) v (mul-pos (pow_pos (low f)) (pow_pos (low f))) K (mul_rounded f x y N M) (in_squares n p (minus f v) (plus f v) (2 ^ low f) h)

  -- by a y above zero
  pub div_most : 0 < plus f y → plus f x * 2 ^ low f + minus f v * plus f y ≤ minus f x * 2 ^ low f + plus f v * plus f y → T (le (div f x y) v)
  div_most P h = rounded_most f (div f x y) (plus f x) (minus f x) (plus f y) v P K (div_rounded f x y N M P) h

  pub div_least : 0 < plus f y → minus f x * 2 ^ low f + plus f v * plus f y ≤ plus f x * 2 ^ low f + minus f v * plus f y → T (le v (div f x y))
  div_least P h = rounded_least f (div f x y) (plus f x) (minus f x) (plus f y) v P K (div_rounded f x y N M P) h

-- from both sides
module _ (f : Format) (x y lo hi : Float) (N : Number f x) (M : Number f y) (K : Number f lo) (L : Number f hi) where
  pub add_between : minus f x + minus f y + plus f lo ≤ plus f x + plus f y + minus f lo → plus f x + plus f y + minus f hi ≤ minus f x + minus f y + plus f hi → Between f lo hi (add f x y)
  add_between h k = record { held = add-fits f x y; least = add_least f x y lo N M K h; most = add_most f x y hi N M L k }

  pub sub_between : minus f x + plus f y + plus f lo ≤ plus f x + minus f y + minus f lo → plus f x + minus f y + minus f hi ≤ minus f x + plus f y + plus f hi → Between f lo hi (sub f x y)
  sub_between h k = record { held = sub-fits f x y; least = sub_least f x y lo N M K h; most = sub_most f x y hi N M L k }

  pub mul_between : plus f x * minus f y + minus f x * plus f y + plus f lo * 2 ^ low f ≤ plus f x * plus f y + minus f x * minus f y + minus f lo * 2 ^ low f
      → plus f x * plus f y + minus f x * minus f y + minus f hi * 2 ^ low f ≤ plus f x * minus f y + minus f x * plus f y + plus f hi * 2 ^ low f → Between f lo hi (mul f x y)
  mul_between h k = record { held = mul-fits f x y; least = mul_least f x y lo N M K h; most = mul_most f x y hi N M L k }

  pub div_between : 0 < plus f y → minus f x * 2 ^ low f + plus f lo * plus f y ≤ plus f x * 2 ^ low f + minus f lo * plus f y
      → plus f x * 2 ^ low f + minus f hi * plus f y ≤ minus f x * 2 ^ low f + plus f hi * plus f y → Between f lo hi (div f x y)
  div_between P h k = record { held = div-fits f x y; least = div_least f x y lo N M K P h; most = div_most f x y hi N M L P k }

-- in its second operand a sum never falls, and a product with x rises or falls by the sign of x
module _ (f : Format) (x y z : Float) (N : Number f x) (M : Number f y) (K : Number f z) (h : T (le y z)) where
  pub add_mono : Number f (add f x y) → Number f (add f x z) → T (le (add f x y) (add f x z))
  add_mono A B =
      rounded_le f (add f x y) (add f x z) (plus f x + plus f y) (minus f x + minus f y) (plus f x + plus f z) (minus f x + minus f z) (2 ^ low f) (pow_pos (low f)) A B (add_rounded f x y N M) (add_rounded f x z N K)
      (moved (plus f x) (minus f x) (plus f y) (minus f y) (plus f z) (minus f z) (le→units f y z M K h))
    where
      moved : (px mx py my pz mz : ℕ) → py + mz ≤ pz + my → px + py + (mx + mz) ≤ px + pz + (mx + my)
      moved px mx py my pz mz h = omega arith

  pub mul_rises : minus f x ≤ plus f x → Number f (mul f x y) → Number f (mul f x z) → T (le (mul f x y) (mul f x z))
  mul_rises l A B =
      rounded_le f (mul f x y) (mul f x z) (plus f x * plus f y + minus f x * minus f y) (plus f x * minus f y + minus f x * plus f y) (plus f x * plus f z + minus f x * minus f z) (plus f x * minus f z + minus f x * plus f z)
      (2 ^ low f * 2 ^ low f) (mul-pos (pow_pos (low f)) (pow_pos (low f))) A B (mul_rounded f x y N M) (mul_rounded f x z N K)
      (products (plus f x) (minus f x) (plus f y) (minus f y) (plus f z) (minus f z) (rearranged (minus f x) (plus f x) (plus f y + minus f z) (plus f z + minus f y) l (le→units f y z M K h)))
    where
      products : (px mx py my pz mz : ℕ) → px * (py + mz) + mx * (pz + my) ≤ mx * (py + mz) + px * (pz + my) → px * py + mx * my + (px * mz + mx * pz) ≤ px * pz + mx * mz + (px * my + mx * py)
      products px mx py my pz mz h = omega arith

  pub mul_falls : plus f x ≤ minus f x → Number f (mul f x y) → Number f (mul f x z) → T (le (mul f x z) (mul f x y))
  mul_falls l A B =
      rounded_le f (mul f x z) (mul f x y) (plus f x * plus f z + minus f x * minus f z) (plus f x * minus f z + minus f x * plus f z) (plus f x * plus f y + minus f x * minus f y) (plus f x * minus f y + minus f x * plus f y)
      (2 ^ low f * 2 ^ low f) (mul-pos (pow_pos (low f)) (pow_pos (low f))) B A (mul_rounded f x z N K) (mul_rounded f x y N M)
      (products (plus f x) (minus f x) (plus f y) (minus f y) (plus f z) (minus f z) (rearranged (plus f x) (minus f x) (plus f y + minus f z) (plus f z + minus f y) l (le→units f y z M K h)))
    where
      products : (px mx py my pz mz : ℕ) → mx * (py + mz) + px * (pz + my) ≤ px * (py + mz) + mx * (pz + my) → px * pz + mx * mz + (px * my + mx * py) ≤ px * py + mx * my + (px * mz + mx * pz)
      products px mx py my pz mz h = omega arith

-- ---- the numbers ±w units, for w on the grid

pub at_grid : (f : Format) (s : Bool) (w : ℕ) → OnGrid f w → Number f (round f s w (2 ^ low f)) × (plus f (round f s w (2 ^ low f)) ≡ cond s 0 w) × (minus f (round f s w (2 ^ low f)) ≡ cond s w 0)
at_grid f s w g =
    let k = grid_fixed f w g in (
      round_number f s w (2 ^ low f) k.0,
      round-plus f s w (2 ^ low f) k.0 ∙ ap (λ (z : ℕ). cond s 0 z) k.1,
      round-minus f s w (2 ^ low f) k.0 ∙ ap (λ (z : ℕ). cond s z 0) k.1,
    )

-- ---- an exact value that the format holds, as ±w units, is the result

rounded_exact : (f : Format) (x : Float) (p n : ℕ) (s : Bool) (w : ℕ) → OnGrid f w → Rounded f x p n (2 ^ low f) → cond s 0 w + n ≡ cond s w 0 + p → Number f x × (plus f x + n ≡ minus f x + p)
rounded_exact f x p n s w g r e =
    let U = 2 ^ low f in
    let v = round f s w U in
    let k = at_grid f s w g in
    let b : Between f v v x = rounded_between f x p n U v v (pow_pos (low f)) k.0 k.0 r
    (in_units n p (minus f v) (plus f v) U (from_below (plus f v) (minus f v) (cond s 0 w) (cond s w 0) p n k.1 k.2 e))
    (in_units p n (plus f v) (minus f v) U (from_above (plus f v) (minus f v) (cond s 0 w) (cond s w 0) p n k.1 k.2 e)) in
    (number f v v x k.0 k.0 b, same (plus f v) (minus f v) (plus f x) (minus f x) (cond s 0 w) (cond s w 0) p n k.1 k.2 e (between_same f v x k.0 b))
  where
    from_below : (pv mv a b p n : ℕ) → pv ≡ a → mv ≡ b → a + n ≡ b + p → n + pv ≤ p + mv
    from_below pv mv a b p n h i e = omega arith

    from_above : (pv mv a b p n : ℕ) → pv ≡ a → mv ≡ b → a + n ≡ b + p → p + mv ≤ n + pv
    from_above pv mv a b p n h i e = omega arith

    same : (pv mv px mx a b p n : ℕ) → pv ≡ a → mv ≡ b → a + n ≡ b + p → px + mv ≡ pv + mx → px + n ≡ mx + p
    same pv mv px mx a b p n h i e k = omega arith

module _ (f : Format) (x y : Float) (s : Bool) (w : ℕ) (N : Number f x) (M : Number f y) (g : OnGrid f w) where
  pub add_exact : cond s 0 w + (minus f x + minus f y) ≡ cond s w 0 + (plus f x + plus f y)
      → Number f (add f x y) × (plus f (add f x y) + (minus f x + minus f y) ≡ minus f (add f x y) + (plus f x + plus f y))
  add_exact e = rounded_exact f (add f x y) (plus f x + plus f y) (minus f x + minus f y) s w g (add_rounded f x y N M) e

  pub sub_exact : cond s 0 w + (minus f x + plus f y) ≡ cond s w 0 + (plus f x + minus f y)
      → Number f (sub f x y) × (plus f (sub f x y) + (minus f x + plus f y) ≡ minus f (sub f x y) + (plus f x + minus f y))
  sub_exact e = rounded_exact f (sub f x y) (plus f x + minus f y) (minus f x + plus f y) s w g (sub_rounded f x y N M) e

whole_on_grid : (f : Format) (n : ℕ) → n < 2 ^ prec f → OnGrid f (n * 2 ^ low f)
whole_on_grid f n h =
    record {
      digits = n;
      place = low f;
      is = refl;
      few = h;
      under =
          lt_of_lt_of_le (mul-lt-mul_of_pos_right h (pow_pos (low f)))
          (le_trans (mul-le-mul_right (2 ^ low f) (pow_mono (reach f))) (le_of_eq (mul_comm (2 ^ suc (emax f)) (2 ^ low f) ∙ sym (pow-add 2 (low f) (suc (emax f))))));
    }

pub at_integer : (f : Format) (s : Bool) (n : ℕ) → n < 2 ^ prec f
    → Number f (integer f s n) × (plus f (integer f s n) ≡ cond s 0 (n * 2 ^ low f)) × (minus f (integer f s n) ≡ cond s (n * 2 ^ low f) 0)
at_integer f s n h =
    subst (λ (x : Float). Number f x × (plus f x ≡ cond s 0 (n * 2 ^ low f)) × (minus f x ≡ cond s (n * 2 ^ low f) 0))
    (round_same f s (n * 2 ^ low f) (2 ^ low f) n 1 (pow_pos (low f)) (pow_pos 0) (mul-one (n * 2 ^ low f)))
    (at_grid f s (n * 2 ^ low f) (whole_on_grid f n h))

-- the format's digits reach below its units, so that 1 / n for a whole number n of at most prec digits is a unit at least
pub digits_below_low : (f : Format) → prec f ≤ low f
digits_below_low binary32 = lit≤ tt
digits_below_low binary64 = lit≤ tt
