-- The ranges that decibel values keep to, as binary32. A volume that a scene names lies from -96 to 18, the value that a parameter holds from -97 to 19,
-- and what is read between two such values within a chunk from -98 to 20. Volumes from -96 to -60, which are silent, stay there. Assumes nothing.
use mathlib.Core.Path.{◌≡◌, refl, sym, ap, ◌∙◌, subst}
use Prim.Native.Nat.{ℕ, ◌+◌, ◌*◌, ◌^◌, ◌≤◌, ◌<◌}
use native.Mathlib.Nat.{le_trans, le_of_eq, lt_of_le_of_lt, zero-mul, mul-pos, mul_assoc, mul-le-mul_right, mul-mul-mul_comm}
use native.Mathlib.Omega.{arith}
use mathlib.Core.Bool.{Bool, true, false, not, cond}
use lib.IntN.{pos}
use lib.Dec.{T, lit<, lit≤}
use lib.Pow.{pow_pos}
use lib.Ieee.{Float, fin, Format, binary32, prec, low, round, div, le, fits, is_nan, of_int}
use Rattle.laws.specs.FloatOrder.{Number, plus, minus}
use Rattle.laws.proofs.laws.FloatOrder.{le_through, not_nan}
use Rattle.laws.specs.FloatRound.{integer}
use Rattle.laws.proofs.laws.FloatRound.{at_integer, div_between}
use Rattle.laws.proofs.laws.Amount.{InUnit}
use Rattle.laws.specs.Interpolate.{interpolate, InRange}
use Rattle.laws.proofs.laws.Interpolate.{InRangeBelow, range_number, range_widens, below→range, interpolate_stays, interpolate_below}
use Rattle.laws.specs.Float.{pos_zero}
use Rattle.laws.specs.DecibelRange.{TargetRange, ValueRange}

-- of what is read between two values of a parameter
abbrev pub ReadRange : Float → Type 0
ReadRange = InRange binary32 98 20

-- of a volume that is silent
abbrev pub SilentRange : Float → Type 0
SilentRange = InRangeBelow binary32 96 60

-- ---- the ranges

module _ (x : Float) where
  pub target→value : TargetRange x → ValueRange x
  target→value = range_widens binary32 96 18 97 19 x (lit< tt) (lit< tt) (lit≤ tt) (lit≤ tt)

  pub value→read : ValueRange x → ReadRange x
  value→read = range_widens binary32 97 19 98 20 x (lit< tt) (lit< tt) (lit≤ tt) (lit≤ tt)

  pub silent→target : SilentRange x → TargetRange x
  silent→target = below→range binary32 96 60 18 x (lit< tt) (lit< tt) (lit< tt)

  pub read_number : ReadRange x → Number binary32 x
  read_number = range_number binary32 98 20 x (lit< tt) (lit< tt)

module _ (a b t : Float) (A : InUnit binary32 t) where
  pub value_moves : ValueRange a → TargetRange b → ValueRange (interpolate binary32 a b t)
  value_moves h k = interpolate_stays binary32 96 18 a b t (lit< tt) h k A

  pub value_read : ValueRange a → ValueRange b → ReadRange (interpolate binary32 a b t)
  value_read h k = interpolate_stays binary32 97 19 a b t (lit< tt) (value→read a h) k A

  pub silent_stays : SilentRange a → SilentRange b → SilentRange (interpolate binary32 a b t)
  silent_stays h k = interpolate_below binary32 96 60 5 a b (lit< tt) (lit< tt) (lit≤ tt) (lit< tt) h k t A

-- ---- the literal -60.0, which is the last silent value

abbrev pub minus_sixty : Float
minus_sixty = fin true 15 (pos 2)

minus_sixty_number : Number binary32 minus_sixty
minus_sixty_number = record { held = unfold fits in tt; is_finite = tt }

module _ (x : Float) where
  pub silent_most : SilentRange x → T (le x minus_sixty)
  unfolding le round
  silent_most h =
      le_through binary32 x (integer binary32 true 60) minus_sixty (read_number x (value→read x (target→value x (silent→target x h)))) (at_integer binary32 true 60 (lit< tt)).0
      minus_sixty_number h.most tt

  pub read_not_nan : ReadRange x → T (not (is_nan x))
  read_not_nan h = not_nan x (read_number x h).is_finite

pub minus_sixty_silent : SilentRange minus_sixty
unfolding le round
minus_sixty_silent = record { held = unfold fits in tt; least = tt; most = tt }

pub pos_zero_target : TargetRange pos_zero
unfolding le round
pos_zero_target = record { held = unfold fits in tt; least = tt; most = tt }

-- ---- thousandths of a decibel, as a whole number by 1000

-- an integer as a float, by its sign and its size
pub integer-pos : (f : Format) (n : ℕ) → of_int f (pos n) ≡ integer f false n
unfolding of_int
integer-pos f n = refl

squared : (n q k U : ℕ) → n ≤ q * k → n * U * U ≤ q * U * (k * U)
squared n q k U h = le_trans (mul-le-mul_right U (mul-le-mul_right U h)) (le_of_eq (mul_assoc (q * k) U U ∙ mul-mul-mul_comm q k U U))

squared' : (n q k U : ℕ) → q * k ≤ n → q * U * (k * U) ≤ n * U * U
squared' n q k U h = le_trans (le_of_eq (mul-mul-mul_comm q U k U ∙ sym (mul_assoc (q * k) U U))) (mul-le-mul_right U (mul-le-mul_right U h))

bounded_freely : (X Z Y G W : ℕ) (U : ℕ) → X ≡ 0 → Z ≡ 0 → X * U + Z * Y ≤ G * U + W * Y
bounded_freely X Z Y G W U x z =
    let a : X * U ≡ 0 = ap (λ (k : ℕ). k * U) x ∙ zero-mul U in
    let b : Z * Y ≡ 0 = ap (λ (k : ℕ). k * Y) z ∙ zero-mul Y in
    omega arith

bounded_above : (n q k U X Z Y G W : ℕ) → n ≤ q * k → X ≡ n * U → Z ≡ 0 → Y ≡ k * U → W ≡ q * U → X * U + Z * Y ≤ G * U + W * Y
bounded_above n q k U X Z Y G W h x z y w =
    let a : X * U ≡ n * U * U = ap (λ (i : ℕ). i * U) x in
    let b : Z * Y ≡ 0 = ap (λ (i : ℕ). i * Y) z ∙ zero-mul Y in
    let c : W * Y ≡ q * U * (k * U) = ap (λ (i : ℕ). i * Y) w ∙ ap (λ (i : ℕ). q * U * i) y in
    let d : n * U * U ≤ q * U * (k * U) = squared n q k U h in
    omega arith

bounded_below : (n q k U X Z Y G W : ℕ) → q * k ≤ n → G ≡ n * U → X ≡ 0 → Y ≡ k * U → Z ≡ q * U → X * U + Z * Y ≤ G * U + W * Y
bounded_below n q k U X Z Y G W h v x y z =
    let a : G * U ≡ n * U * U = ap (λ (i : ℕ). i * U) v in
    let b : X * U ≡ 0 = ap (λ (i : ℕ). i * U) x ∙ zero-mul U in
    let c : Z * Y ≡ q * U * (k * U) = ap (λ (i : ℕ). i * Y) z ∙ ap (λ (i : ℕ). q * U * i) y in
    let d : q * U * (k * U) ≤ n * U * U = squared' n q k U h in
    omega arith

-- ±n / k, for n ≤ p * k below zero and n ≤ q * k above it, lies from -p to q
module _ (f : Format) (n k p q : ℕ) (N : n < 2 ^ prec f) (K : k < 2 ^ prec f) (P : p < 2 ^ prec f) (Q : q < 2 ^ prec f) (Z : 0 < k) where
  divisor_pos : 0 < plus f (integer f false k)
  divisor_pos = subst (λ (z : ℕ). 0 < z) (sym (at_integer f false k K).1) (mul-pos Z (pow_pos (low f)))

  pub quotient_in_range : (s : Bool) → n ≤ cond s p q * k → InRange f p q (div f (integer f s n) (integer f false k))
  quotient_in_range false h =
      let x = at_integer f false n N in
      let y = at_integer f false k K in
      let l = at_integer f true p P in
      let m = at_integer f false q Q in
      div_between f (integer f false n) (integer f false k) (integer f true p) (integer f false q) x.0 y.0 l.0 m.0 divisor_pos
      (bounded_freely (minus f (integer f false n)) (plus f (integer f true p)) (plus f (integer f false k)) (plus f (integer f false n)) (minus f (integer f true p)) (2 ^ low f) x.2 l.1)
      (bounded_above n q k (2 ^ low f) (plus f (integer f false n)) (minus f (integer f false q)) (plus f (integer f false k)) (minus f (integer f false n)) (plus f (integer f false q)) h x.1 m.2 y.1 m.1)
  quotient_in_range true h =
      let x = at_integer f true n N in
      let y = at_integer f false k K in
      let l = at_integer f true p P in
      let m = at_integer f false q Q in
      div_between f (integer f true n) (integer f false k) (integer f true p) (integer f false q) x.0 y.0 l.0 m.0 divisor_pos
      (bounded_above n p k (2 ^ low f) (minus f (integer f true n)) (plus f (integer f true p)) (plus f (integer f false k)) (plus f (integer f true n)) (minus f (integer f true p)) h x.2 l.1 y.1 l.2)
      (bounded_freely (plus f (integer f true n)) (minus f (integer f false q)) (plus f (integer f false k)) (minus f (integer f true n)) (plus f (integer f false q)) (2 ^ low f) x.1 m.2)

  pub quotient_below : q * k ≤ n → n ≤ p * k → InRangeBelow f p q (div f (integer f true n) (integer f false k))
  quotient_below h i =
      let x = at_integer f true n N in
      let y = at_integer f false k K in
      let l = at_integer f true p P in
      let m = at_integer f true q Q in
      div_between f (integer f true n) (integer f false k) (integer f true p) (integer f true q) x.0 y.0 l.0 m.0 divisor_pos
      (bounded_above n p k (2 ^ low f) (minus f (integer f true n)) (plus f (integer f true p)) (plus f (integer f false k)) (plus f (integer f true n)) (minus f (integer f true p)) i x.2 l.1 y.1 l.2)
      (bounded_below n q k (2 ^ low f) (plus f (integer f true n)) (minus f (integer f true q)) (plus f (integer f false k)) (minus f (integer f true n)) (plus f (integer f true q)) h x.2 x.1 y.1 m.2)

pub thousandths_silent : (n : ℕ) → 60000 ≤ n → n ≤ 96000 → SilentRange (div binary32 (integer binary32 true n) (integer binary32 false 1000))
thousandths_silent n h k = quotient_below binary32 n 1000 96 60 (lt_of_le_of_lt k (lit< tt)) (lit< tt) (lit< tt) (lit< tt) (lit< tt) h k
