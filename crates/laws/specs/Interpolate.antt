-- kira's interpolation of two floats, a + (b - a) * t.
use Rattle.std.specs.Prelude.{ℕ, true, false, Float}
use Rattle.std.specs.Float.{Format}
use Rattle.std.specs.Float.Ieee.{add, sub, mul}
use Rattle.laws.specs.FloatRound.{Between, integer}

-- ---- definitions

unfoldable pub interpolate : Format → Float → Float → Float → Float
interpolate f a b t = add f a (mul f (sub f b a) t)

-- x is a number of the format from -a to b
abbrev pub InRange : Format → ℕ → ℕ → Float → Type 0
InRange f a b x = Between f (integer f true a) (integer f false b) x
