-- The distance between two positions in -1000..1000 is a number: each difference is within 2000, so that no square and no sum overflows. Assumes nothing.
use Prim.Native.Nat.{◌*◌, zero-le}
use native.Mathlib.Nat.{zero-mul, le_of_eq, le_trans}
use mathlib.Core.Bool.{true, false}
use lib.Dec.{T, lit<, lit≤}
use lib.Ieee.{Float, nan, inf, fin, binary32, up, down, add, sub, mul, le, fits}
use lib.Ieee.Fits.{add-fits}
use lib.Ieee.Scale.{finite}
use lib.Ieee.Back.{round_whole}
use Rattle.laws.proofs.laws.Unsigned.{unsigned}
use Rattle.laws.specs.Float.{pos_zero}
use Rattle.laws.specs.FloatBounds.{Within}
use Rattle.laws.specs.FloatOrder.{Number}
use Rattle.laws.specs.FloatRound.{integer}
use Rattle.laws.specs.Interpolate.{InRange}
use Rattle.laws.proofs.laws.Amount.{round-unsigned, add-unsigned}
use Rattle.laws.proofs.laws.Arithmetic.{le_or}
use Rattle.laws.proofs.laws.FloatBounds.{holds_small, within_value, within_between, within_neg, add_within, mul_within}
use Rattle.root.specs.Root.{FromZero}
use Rattle.root.proofs.laws.Root.{root_from_zero}
use Rattle.spatial.specs.declared.spatial.Position.{Position}
use Rattle.spatial.specs.Spatial.{length_squared, distance, PositionIn}

coordinate_within : (x : Float) → InRange binary32 1000 1000 x → Within x 1000 1
coordinate_within x h =
    within_between (within_value (integer binary32 true 1000) true (round_whole binary32 true 1000 (lit≤ tt))) (within_value (integer binary32 false 1000) false (round_whole binary32 false 1000 (lit≤ tt)))
    h.least h.most

difference_within : (x y : Float) → InRange binary32 1000 1000 x → InRange binary32 1000 1000 y → Within (sub binary32 x y) 2000 1
unfolding sub
difference_within x y h k = add_within {a = 1000} {b = 1000} {c = 1} (holds_small binary32 2000 (lit< tt)) (coordinate_within x h) (within_neg (coordinate_within y k))

square_within : (x : Float) → Within x 2000 1 → Within (mul binary32 x x) 4000000 1
square_within x h = mul_within {a = 2000} {c = 1} {b = 2000} {d = 1} (holds_small binary32 4000000 (lit< tt)) h h

square_unsigned : (x : Float) → T (finite x) → T (unsigned (mul binary32 x x))
unfolding mul
square_unsigned nan h = absurd h
square_unsigned (inf s) h = absurd h
square_unsigned (fin true m e) h = round-unsigned binary32 (m * up e * (m * up e)) (down e * down e)
square_unsigned (fin false m e) h = round-unsigned binary32 (m * up e * (m * up e)) (down e * down e)

-- what is finite and has no sign is 0 or more
from_zero : (x : Float) → T (finite x) → T (unsigned x) → T (le pos_zero x)
unfolding le
from_zero nan h k = absurd h
from_zero (inf s) h k = absurd h
from_zero (fin true m e) h k = absurd k
from_zero (fin false m e) h k = le_or (0 * down e) (m * up e * 1) (le_trans (le_of_eq (zero-mul (down e))) zero-le)

module _ (x y z : Float) (X : Within x 2000 1) (Y : Within y 2000 1) (Z : Within z 2000 1) where
  length_within : Within (length_squared x y z) 12000000 1
  unfolding length_squared
  length_within =
      add_within {a = 8000000} {b = 4000000} {c = 1} (holds_small binary32 12000000 (lit< tt))
      (add_within {a = 4000000} {b = 4000000} {c = 1} (holds_small binary32 8000000 (lit< tt)) (square_within x X) (square_within y Y)) (square_within z Z)

  length_unsigned : T (unsigned (length_squared x y z))
  unfolding length_squared
  length_unsigned =
      add-unsigned binary32 (add binary32 (mul binary32 x x) (mul binary32 y y)) (mul binary32 z z)
      (add-unsigned binary32 (mul binary32 x x) (mul binary32 y y) (square_unsigned x X.is_finite) (square_unsigned y Y.is_finite)) (square_unsigned z Z.is_finite)

  length_fits : T (fits binary32 (length_squared x y z))
  unfolding length_squared
  length_fits = add-fits binary32 (add binary32 (mul binary32 x x) (mul binary32 y y)) (mul binary32 z z)

  length_from_zero : FromZero (length_squared x y z)
  length_from_zero = record { number = record { held = length_fits; is_finite = length_within.is_finite }; least = from_zero (length_squared x y z) length_within.is_finite length_unsigned }

-- of the listener's position less the track's
module _ (l p : Position) (L : PositionIn l) (P : PositionIn p) where
  abbrev squares : Float
  squares = length_squared (sub binary32 l.x p.x) (sub binary32 l.y p.y) (sub binary32 l.z p.z)

  pub squares_from_zero : FromZero squares
  squares_from_zero =
      length_from_zero (sub binary32 l.x p.x) (sub binary32 l.y p.y) (sub binary32 l.z p.z)
      (difference_within l.x p.x L.x P.x) (difference_within l.y p.y L.y P.y) (difference_within l.z p.z L.z P.z)

  pub distance_number : Number binary32 (distance l p)
  unfolding distance
  distance_number = (root_from_zero squares).number
