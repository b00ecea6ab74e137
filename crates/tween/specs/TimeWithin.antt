-- Times within a motion.
use Rattle.std.specs.Prelude.{not, ℕ, T, Float}
use Rattle.std.specs.Float.{is_sign_negative}
use Rattle.std.specs.Float.Ieee.{le}
use Rattle.rounding.specs.Duration.{secs_from_millis}

-- a time within a motion of so many milliseconds
pub record TimeWithin (time : Float) (millis : ℕ) : Type 0 where
  -- the sign is clear: +0, the values above zero, and the infinity above them; a NaN, of which this says nothing, is at most no duration
  pub sign : T (not (is_sign_negative time))
  pub most : T (le time (secs_from_millis millis))
