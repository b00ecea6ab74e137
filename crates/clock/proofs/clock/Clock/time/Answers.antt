-- `Clock::time` meets its contract: each arm is the definition's. Assumes nothing.
use mathlib.Core.Path.{sym, ap}
use lib.Ieee.{of_bits, of_int}
use Rattle.clock.specs.declared.clock_time.ClockTime.{ClockTime}
use Rattle.clock.specs.declared.clock.ClockState.{ClockState}
use Rattle.clock.specs.Clock.{ticks_of, fraction_of, time_of}
use Rattle.clock.proofs.clock.Clock.time.Goals as goal

pub returns-in-NotStarted : goal.returns-in-NotStarted
unfolding time_of of_bits of_int
returns-in-NotStarted c =
    let clock = c.args.clock in
    ap {B = ClockTime} (λ (s : ClockState). record { clock = clock; ticks = ticks_of s; fraction = fraction_of s }) (sym c.in-NotStarted.is)
