-- kira's clock.rs: a clock's state, and what its update asks.
use Rattle.std.specs.Prelude.{Bool, true, cond, ℕ, zero, suc, ◌-◌, ◌^◌, ◌≤◌, ◌+◌, ◌*◌, ◌<◌, T, Float, ◌≡◌}
use Rattle.std.specs.Float.{binary64, Format}
use Rattle.std.specs.Float.Ieee.{add, sub, mul, le, lt, fits, to_unsigned, low}
use Rattle.laws.specs.Float.{whole}
use Rattle.clock.specs.declared.clock_speed.ClockSpeed.{ClockSpeed}
use Rattle.clock.specs.declared.clock_time.ClockTime.{ClockTime}
use Rattle.clock.specs.declared.clock.ClockState.{ClockState}
use Rattle.clock.specs.declared.clock.ClockState.TheVariants.{NotStarted, Started}
use Rattle.clock.specs.declared.clock.Clock.{Clock}
use Rattle.clock.specs.ClockSpeed.{as_ticks_per_second, allowed_speed}
use Rattle.laws.specs.FloatOrder.{Number, plus, minus}

abbrev pub new_clock : ClockSpeed → Bool → Clock
new_clock speed ticking = record { ticking = ticking; speed = speed; state = NotStarted }

-- before the first update a clock stands at tick 0, fraction 0
unfoldable pub ticks_of : ClockState → ℕ
ticks_of NotStarted = 0
ticks_of (Started ticks fraction) = ticks

unfoldable pub fraction_of : ClockState → Float
fraction_of NotStarted = whole 0
fraction_of (Started ticks fraction) = fraction

unfoldable pub time_of : Clock → ℕ → ClockTime
unfolding ticks_of fraction_of
time_of c clock = record { clock = clock; ticks = ticks_of c.state; fraction = fraction_of c.state }

-- while timer >= 1.0 { timer -= 1.0; ticks += 1 }, for so many turns at most
unfoldable pub taken_within : ℕ → ℕ → Float → ClockState
taken_within zero ticks timer = Started ticks timer
taken_within (suc turns) ticks timer =
    let again = taken_within turns (suc ticks) (sub binary64 timer (whole 1)) in
    cond (le (whole 1) timer) again (Started ticks timer)

-- as many turns as the timer has ones are enough
unfoldable pub taken : ℕ → Float → ClockState
unfolding taken_within
taken ticks timer = taken_within (to_unsigned 64 timer) ticks timer

-- A clock that doesn't tick stays. One that ticks is started by its first update; its fraction grows by speed times dt, and ones are taken off.
unfoldable pub updated : Clock → Float → Clock
unfolding as_ticks_per_second ticks_of fraction_of taken
updated c dt =
    let step = mul binary64 (as_ticks_per_second c.speed) dt in
    cond c.ticking (record { ticking = true; speed = c.speed; state = taken (ticks_of c.state) (add binary64 (fraction_of c.state) step) }) c

-- ---- what an update asks

-- 0 or more, and less than 1
pub record IsFraction (x : Float) : Type 0 where
  pub held : T (fits binary64 x)
  pub least : T (le (whole 0) x)
  pub below : T (lt x (whole 1))

-- an update's seconds: 0 to 1
pub record IsStep (dt : Float) : Type 0 where
  pub held : T (fits binary64 dt)
  pub least : T (le (whole 0) dt)
  pub most : T (le dt (whole 1))

-- a clock of an allowed speed that has counted n ticks at most
pub record ClockWithin (n : ℕ) (c : Clock) : Type 0 where
  pub held : T (fits binary64 (as_ticks_per_second c.speed))
  pub allowed : T (allowed_speed c.speed)
  pub fraction : IsFraction (fraction_of c.state)
  pub few : ticks_of c.state ≤ n

-- an update counts 1001 ticks at most, which a u64 must hold
abbrev pub last_tick : ℕ
last_tick = 2 ^ 64 - 1002

pub record CanMove (c : Clock) (dt : Float) : Type 0 where
  pub clock : ClockWithin last_tick c
  pub step : IsStep dt

-- how many of the format's smallest values are one
abbrev pub unit : Format → ℕ
unit f = 2 ^ low f

-- how many of the f64's smallest values a timer is, 2 ^ 1074 for one
abbrev pub span : Float → ℕ
span x = plus binary64 x

abbrev pub one_span : ℕ
one_span = unit binary64

-- a timer: a number that is 0 or more, and below 2 ^ 53
pub record Timer (x : Float) : Type 0 where
  pub number : Number binary64 x
  pub least : minus binary64 x ≡ 0
  pub small : span x < 2 ^ 53 * one_span

-- what the loop asks: ticks plus timer are below 2 ^ 64
pub record CanTake (ticks : ℕ) (timer : Float) : Type 0 where
  pub is_timer : Timer timer
  pub room : ticks * one_span + span timer < 2 ^ 64 * one_span
