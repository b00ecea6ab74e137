-- The ranges that decibel values keep to. A volume that a scene names lies from -96 to 18, the value that a parameter holds from -97 to 19.
use Rattle.std.specs.Prelude.{Float}
use Rattle.std.specs.Float.{binary32}
use Rattle.laws.specs.Interpolate.{InRange}

-- ---- definitions

-- of a volume that a scene names
abbrev pub TargetRange : Float → Type 0
TargetRange = InRange binary32 96 18

-- of what a parameter holds
abbrev pub ValueRange : Float → Type 0
ValueRange = InRange binary32 97 19
