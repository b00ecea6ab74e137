-- tween/tweenable.rs: `Tweenable::interpolate`, of decibels.
use Rattle.std.specs.Prelude.{Float}
use Rattle.std.specs.Float.{binary32}
use Rattle.laws.specs.Interpolate.{interpolate}
use Rattle.rounding.specs.Narrow.{narrowed}
use Rattle.decibels.specs.declared.decibels.Decibels.{Decibels}

-- a + (b - a) * amount in f32, the amount rounded to f32 first
unfoldable pub interpolated : Decibels → Decibels → Float → Decibels
interpolated a b amount = record { 0 = interpolate binary32 a.0 b.0 (narrowed amount) }
