-- A start time whose clock is there starts at some time: it is never given up. Assumes nothing.
use mathlib.Core.Path.{◌≡◌, refl}
use mathlib.Core.Bool.{Bool, true, false, cond}
use Prim.Native.Nat.{ℕ, ◌<◌}
use native.Mathlib.Nat.{not-le_of_lt}
use lib.Dec.{eqb}
use lib.Ieee.{Float}
use Rattle.clock.specs.declared.when_to_start.Clocks.{Clocks}
use Rattle.clock.specs.declared.when_to_start.WhenToStart.{WhenToStart}
use Rattle.clock.specs.declared.when_to_start.WhenToStart.TheVariants.{Now, Later, Never}
use Rattle.clock.specs.WhenToStart.{when_to_start}
use Rattle.clock.proofs.laws.Starts.{never_missing}
use Rattle.tween.specs.declared.start_time.StartTime.{StartTime}
use Rattle.tween.specs.declared.start_time.StartTime.TheVariants.{Immediate, Delayed, ClockTime}
use Rattle.tween.specs.StartTime.{StartTimeUpdate}
use Rattle.tween.specs.StartTime.{delay_left, after_delay, at_clock_time, start_time_update, ClockThere}
use Rattle.clock.specs.declared.clock_time.ClockTime as time

-- an update neither gives it up nor names another clock
pub record Goes (count : ℕ) (u : StartTimeUpdate) : Type 0 where
  pub starts : u.will_never_start ≡ false
  pub there : ClockThere count u.start_time

delay_there : (count left : ℕ) → ClockThere count (after_delay left)
unfolding after_delay
delay_there count left = go (eqb left 0)
  where
    go : (b : Bool) → ClockThere count (cond b Immediate (Delayed left))
    go true = tt
    go false = tt

at_clock : (count : ℕ) (t : time.ClockTime) (when : WhenToStart) → (when ≡ Never → ⊥) → t.clock < count → Goes count (at_clock_time t when)
unfolding at_clock_time
at_clock count t Now h k = record { starts = refl; there = tt }
at_clock count t Later h k = record { starts = refl; there = k }
at_clock count t Never h k = absurd (h refl)

pub start_time_goes : (start : StartTime) (dt : Float) (clocks : Clocks) → ClockThere clocks.count start → Goes clocks.count (start_time_update start dt clocks)
unfolding start_time_update
start_time_goes Immediate dt clocks h = record { starts = refl; there = tt }
start_time_goes (Delayed remaining) dt clocks h = record { starts = refl; there = delay_there clocks.count (delay_left remaining dt) }
start_time_goes (ClockTime t) dt clocks h = at_clock clocks.count t (when_to_start clocks t) (λ e. not-le_of_lt h (never_missing clocks t e)) h
