-- Floats whose sign is clear. Assumes nothing.
use mathlib.Core.Bool.{Bool, false, not}
use lib.Ieee.{Float, nan, inf, fin}

-- the sign is clear: +0, the values above zero, and the infinity above them
abbrev pub unsigned : Float → Bool
unsigned nan = false
unsigned (inf s) = not s
unsigned (fin s m e) = not s
