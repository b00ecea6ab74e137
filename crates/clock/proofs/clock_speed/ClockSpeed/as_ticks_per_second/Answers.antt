-- `ClockSpeed::as_ticks_per_second` meets its contract: each arm is the definition's. Assumes nothing.
use mathlib.Core.Path.{sym, ap}
use lib.Ieee.{of_bits, of_int}
use Rattle.clock.specs.ClockSpeed.{as_ticks_per_second}
use Rattle.clock.proofs.clock_speed.ClockSpeed.as_ticks_per_second.Goals as goal

pub returns-in-SecondsPerTick : goal.returns-in-SecondsPerTick
unfolding as_ticks_per_second of_bits of_int
returns-in-SecondsPerTick c = ap as_ticks_per_second (sym c.in-SecondsPerTick.is)

pub returns-in-TicksPerMinute : goal.returns-in-TicksPerMinute
unfolding as_ticks_per_second of_bits of_int
returns-in-TicksPerMinute c = ap as_ticks_per_second (sym c.in-TicksPerMinute.is)
