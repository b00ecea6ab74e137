-- start_time.rs.
use Rattle.std.specs.Prelude.{Bool, true, false, cond, ℕ, ◌-◌, ◌<◌, eqb, Float}
use Rattle.rounding.specs.Duration.{nanos_from_secs}
use Rattle.clock.specs.declared.when_to_start.Clocks.{Clocks}
use Rattle.clock.specs.declared.when_to_start.WhenToStart.{WhenToStart}
use Rattle.clock.specs.declared.when_to_start.WhenToStart.TheVariants.{Now, Later, Never}
use Rattle.clock.specs.WhenToStart.{when_to_start}
use Rattle.tween.specs.declared.start_time.StartTime.{StartTime}
use Rattle.tween.specs.declared.start_time.StartTime.TheVariants.{Immediate, Delayed, ClockTime}
use Rattle.clock.specs.declared.clock_time.ClockTime as time

unfoldable pub is_immediate : StartTime → Bool
is_immediate Immediate = true
is_immediate (Delayed remaining) = false
is_immediate (ClockTime t) = false

-- what is left of a delay in nanoseconds: `saturating_sub`, as ℕ subtracts
unfoldable pub delay_left : ℕ → Float → ℕ
delay_left remaining dt = remaining - nanos_from_secs dt

-- no delay is no waiting
unfoldable pub after_delay : ℕ → StartTime
after_delay left = cond (eqb left 0) Immediate (Delayed left)

-- after an update: the start time, and whether it will never come
pub record StartTimeUpdate : Type 0 where
  pub start_time : StartTime
  pub will_never_start : Bool

unfoldable pub at_clock_time : time.ClockTime → WhenToStart → StartTimeUpdate
at_clock_time t Now = record { start_time = Immediate; will_never_start = false }
at_clock_time t Later = record { start_time = ClockTime t; will_never_start = false }
at_clock_time t Never = record { start_time = ClockTime t; will_never_start = true }

unfoldable pub start_time_update : StartTime → Float → Clocks → StartTimeUpdate
start_time_update Immediate dt clocks = record { start_time = Immediate; will_never_start = false }
start_time_update (Delayed remaining) dt clocks = record { start_time = after_delay (delay_left remaining dt); will_never_start = false }
start_time_update (ClockTime t) dt clocks = at_clock_time t (when_to_start clocks t)

-- the clock that it names, if it names one, is one of the first `count`
abbrev pub ClockThere : ℕ → StartTime → Type 0
ClockThere count Immediate = Unit {0}
ClockThere count (Delayed remaining) = Unit {0}
ClockThere count (ClockTime t) = t.clock < count
