-- A finite float as two natural numbers, x = plus - minus, in units of the format's smallest positive value, 2 ^ -(low f).
use Rattle.std.specs.Prelude.{ℕ, ◌*◌, ◌/◌, ◌^◌, cond, T, Float}
use Rattle.std.specs.Float.{nan, inf, fin, Format}
use Rattle.std.specs.Float.Ieee.{low, up, down, fits}
use Rattle.std.specs.Float.Ieee.Scale.{finite}

-- ---- definitions

-- a finite value of the format
pub record Number (f : Format) (x : Float) : Type 0 where
  pub held : T (fits f x)
  pub is_finite : T (finite x)

-- how many units x is, its sign left out
unfoldable pub magnitude : Format → Float → ℕ
magnitude f nan = 0
magnitude f (inf s) = 0
magnitude f (fin s m e) = m * up e * 2 ^ low f / down e

-- how many units x is above zero, and below zero
unfoldable pub plus : Format → Float → ℕ
unfolding magnitude
plus f nan = 0
plus f (inf s) = 0
plus f (fin s m e) = cond s 0 (magnitude f (fin s m e))

unfoldable pub minus : Format → Float → ℕ
unfolding magnitude
minus f nan = 0
minus f (inf s) = 0
minus f (fin s m e) = cond s (magnitude f (fin s m e)) 0
