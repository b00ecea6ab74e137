-- kira's clock/clock_speed.rs.
use Rattle.std.specs.Prelude.{Bool, ◌&&◌, Float}
use Rattle.std.specs.Float.{binary64}
use Rattle.std.specs.Float.Ieee.{div, le}
use Rattle.laws.specs.Float.{whole}
use Rattle.clock.specs.declared.clock_speed.ClockSpeed.{ClockSpeed}
use Rattle.clock.specs.declared.clock_speed.ClockSpeed.TheVariants.{SecondsPerTick, TicksPerSecond, TicksPerMinute}

unfoldable pub as_ticks_per_second : ClockSpeed → Float
as_ticks_per_second (SecondsPerTick s) = div binary64 (whole 1) s
as_ticks_per_second (TicksPerSecond t) = t
as_ticks_per_second (TicksPerMinute m) = div binary64 m (whole 60)

-- the range of a speed: 0 to 1000 ticks per second
unfoldable pub allowed_speed : ClockSpeed → Bool
unfolding as_ticks_per_second
allowed_speed s = le (whole 0) (as_ticks_per_second s) && le (as_ticks_per_second s) (whole 1000)
