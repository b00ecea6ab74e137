-- Numbers as floats: a few literals, which both formats hold, and whole numbers.
use Rattle.std.specs.Prelude.{true, false, ℕ, ◌<◌, pos, negsuc, Float, List, T, length, get_or}
use Rattle.std.specs.Float.{fin, binary64, nan, binary32}
use Rattle.std.specs.Float.Ieee.{of_int, fits}

-- 0.0 and -0.0
abbrev pub pos_zero : Float
pos_zero = fin false 0 (pos 0)

abbrev pub neg_zero : Float
neg_zero = fin true 0 (pos 0)

-- 1.0
abbrev pub one : Float
one = fin false 1 (pos 0)

abbrev pub half : Float
half = fin false 1 (negsuc 0)

abbrev pub two : Float
two = fin false 1 (pos 1)

-- a whole number
abbrev pub whole : ℕ → Float
whole n = of_int binary64 (pos n)

-- a list of f32 numbers, as a slice of them is
abbrev pub AreF32 : List Float → Type 0
AreF32 samples = (i : ℕ) → i < length samples → T (fits binary32 (get_or samples i nan))
