-- kira's clocks, and `when_to_start` of its info.rs.
use Rattle.std.specs.Prelude.{◌≡◌, false, cond, ◌&&◌, ℕ, ◌≤◌, ◌<◌, ltb, length, get_or, Float}
use Rattle.std.specs.Float.{nan}
use Rattle.laws.specs.Float.{whole}
use Rattle.laws.specs.Loop.{changed}
use Rattle.clock.specs.declared.clock_speed.ClockSpeed.TheVariants.{SecondsPerTick, TicksPerSecond}
use Rattle.clock.specs.declared.clock_time.ClockTime.{ClockTime}
use Rattle.clock.specs.declared.clock.ClockState.TheVariants.{NotStarted}
use Rattle.clock.specs.declared.clock.Clock.{Clock}
use Rattle.clock.specs.declared.when_to_start.WhenToStart.{WhenToStart}
use Rattle.clock.specs.declared.when_to_start.WhenToStart.TheVariants.{Now, Later, Never}
use Rattle.clock.specs.declared.when_to_start.Clocks.{Clocks}
use Rattle.clock.specs.ClockTime.{at_or_after}
use Rattle.clock.specs.Clock.{new_clock, time_of, updated, IsStep, ClockWithin, last_tick}

-- what stands past the end of an array of clocks
abbrev pub absent_clock : Clock
absent_clock = record { ticking = false; speed = SecondsPerTick nan; state = NotStarted }

-- each of the first `count` clocks moves
unfoldable pub clocks_updated : Clocks → Float → Clocks
unfolding changed updated
clocks_updated cs dt = record { clocks = changed (λ i c. updated c dt) cs.count cs.clocks; count = cs.count }

-- what stands in an array where no clock does
abbrev pub unused_clock : Clock
unused_clock = new_clock (TicksPerSecond (whole 0)) false

-- there are eight places, and clocks in the first `count` alone
pub record ClocksLaid (cs : Clocks) : Type 0 where
  pub few : cs.count ≤ 8
  pub long : length cs.clocks ≡ 8
  pub rest : (i : ℕ) → cs.count ≤ i → i < 8 → get_or cs.clocks i absent_clock ≡ unused_clock

-- clocks of allowed speeds that have counted n ticks at most
pub record ClocksWithin (n : ℕ) (cs : Clocks) : Type 0 where
  pub few : cs.count ≤ 8
  pub laid : ClocksLaid cs
  pub each : (i : ℕ) → i < cs.count → ClockWithin n (get_or cs.clocks i absent_clock)

-- what their update asks
pub record CanMoveAll (cs : Clocks) (dt : Float) : Type 0 where
  pub clocks : ClocksWithin last_tick cs
  pub step : IsStep dt

unfoldable pub when_to_start : Clocks → ClockTime → WhenToStart
unfolding time_of at_or_after
when_to_start cs time =
    let clock = get_or cs.clocks time.clock absent_clock in
    cond (ltb time.clock cs.count) (cond (clock.ticking && at_or_after (time_of clock time.clock) time) Now Later) Never
