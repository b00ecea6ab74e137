-- kira's clock/time.rs.
use Rattle.std.specs.Prelude.{Bool, false, cond, eqb, ltb}
use Rattle.std.specs.Float.Ieee.{le}
use Rattle.clock.specs.declared.clock_time.ClockTime.{ClockTime}

-- `a >= b` by kira's order: the times of two clocks have none; ticks first, then fractions
unfoldable pub at_or_after : ClockTime → ClockTime → Bool
at_or_after a b =
    cond (eqb a.clock b.clock) (cond (eqb a.ticks b.ticks) (le b.fraction a.fraction) (ltb b.ticks a.ticks)) false
