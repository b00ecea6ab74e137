-- parameter.rs, for decibels and fixed targets.
use Rattle.std.specs.Prelude.{Bool, true, false, cond, eqb, Float}
use Rattle.std.specs.Float.{binary64}
use Rattle.std.specs.Float.Ieee.{add, le}
use Rattle.laws.specs.Float.{pos_zero}
use Rattle.rounding.specs.Duration.{secs_from_millis}
use Rattle.decibels.specs.declared.decibels.Decibels.{Decibels}
use Rattle.clock.specs.declared.when_to_start.Clocks.{Clocks}
use Rattle.clock.specs.declared.when_to_start.WhenToStart.{WhenToStart}
use Rattle.clock.specs.declared.when_to_start.WhenToStart.TheVariants.{Now, Later, Never}
use Rattle.clock.specs.WhenToStart.{when_to_start}
use Rattle.tween.specs.declared.start_time.StartTime.{StartTime}
use Rattle.tween.specs.declared.start_time.StartTime.TheVariants.{Immediate, Delayed, ClockTime}
use Rattle.tween.specs.declared.tween.Tween.{Tween}
use Rattle.tween.specs.StartTime.{delay_left}
use Rattle.tween.specs.Tween.{tween_value}
use Rattle.tween.specs.Tweenable.{interpolated}
use Rattle.parameter.specs.declared.parameter.ParameterState.{ParameterState}
use Rattle.parameter.specs.declared.parameter.ParameterState.TheVariants.{Idle, Tweening}
use Rattle.parameter.specs.declared.parameter.Parameter.{Parameter}

-- a parameter after an update, and whether its tween ended with that
pub record ParameterUpdate : Type 0 where
  pub parameter : Parameter
  pub just_finished_tween : Bool

-- a tween, and whether its motion has started
pub record TweenStart : Type 0 where
  pub tween : Tween
  pub started : Bool

unfoldable pub parameter_new : Decibels → Parameter
parameter_new value = record { state = Idle value; raw_value = value; previous_raw_value = value; stagnant = true }

unfoldable pub interpolated_value : Parameter → Float → Decibels
interpolated_value p amount = interpolated p.previous_raw_value p.raw_value amount

unfoldable pub parameter_set : Parameter → Decibels → Tween → Parameter
parameter_set p target tween =
    record {
      state = Tweening p.raw_value target pos_zero tween;
      raw_value = p.raw_value;
      previous_raw_value = p.previous_raw_value;
      stagnant = false;
    }

-- `update_tween`: a tween that has started moves; another waits. A delay is used up by the chunks before the one that moves first.
unfoldable pub is_now : WhenToStart → Bool
is_now Now = true
is_now Later = false
is_now Never = false

unfoldable pub started_at : StartTime → Tween → Float → Clocks → TweenStart
started_at Immediate tween dt clocks = record { tween = tween; started = true }
started_at (Delayed remaining) tween dt clocks =
    cond (eqb remaining 0) (record { tween = tween; started = true })
    (record { tween = record { start_time = Delayed (delay_left remaining dt); duration = tween.duration; easing = tween.easing }; started = false })
started_at (ClockTime t) tween dt clocks = record { tween = tween; started = is_now (when_to_start clocks t) }

unfoldable pub tween_start : Tween → Float → Clocks → TweenStart
tween_start tween dt clocks = started_at tween.start_time tween dt clocks

unfoldable pub with_state : Parameter → ParameterState → Bool → Parameter
with_state p state stagnant = record { state = state; raw_value = p.raw_value; previous_raw_value = p.previous_raw_value; stagnant = stagnant }

unfoldable pub tween_move : Parameter → Decibels → Decibels → Float → Tween → ParameterUpdate
tween_move p start target time tween =
    cond (le (secs_from_millis tween.duration) time)
    (record { parameter = with_state p (Idle target) true; just_finished_tween = true })
    (record { parameter = with_state p (Tweening start target time tween) p.stagnant; just_finished_tween = false })

unfoldable pub tween_update_in : ParameterState → Parameter → Float → Clocks → ParameterUpdate
tween_update_in (Idle value) p dt clocks = record { parameter = p; just_finished_tween = false }
tween_update_in (Tweening start target time tween) p dt clocks =
    let begun = tween_start tween dt clocks in
    cond begun.started
    (tween_move p start target (add binary64 time dt) begun.tween)
    (record { parameter = with_state p (Tweening start target time begun.tween) p.stagnant; just_finished_tween = false })

unfoldable pub tween_update : Parameter → Float → Clocks → ParameterUpdate
tween_update p dt clocks = tween_update_in p.state p dt clocks

-- `calculate_new_raw_value`: where a tween has no duration it has none, and the value stays
unfoldable pub value_in : ParameterState → Decibels → Decibels
value_in (Idle value) now = value
value_in (Tweening start target time tween) now = cond (eqb tween.duration 0) now (interpolated start target (tween_value tween time))

unfoldable pub new_raw_value : Parameter → Decibels
new_raw_value p = value_in p.state p.raw_value

-- `update`: the value becomes the previous one, the tween moves, and where the value may change it is worked out anew
unfoldable pub with_previous : Parameter → Parameter
with_previous p = record { state = p.state; raw_value = p.raw_value; previous_raw_value = p.raw_value; stagnant = p.stagnant }

unfoldable pub with_new_value : ParameterUpdate → ParameterUpdate
with_new_value u =
    let p = u.parameter in
    record {
      parameter = record { state = p.state; raw_value = new_raw_value p; previous_raw_value = p.previous_raw_value; stagnant = p.stagnant };
      just_finished_tween = u.just_finished_tween;
    }

unfoldable pub parameter_update : Parameter → Float → Clocks → ParameterUpdate
parameter_update p dt clocks =
    cond p.stagnant (record { parameter = with_previous p; just_finished_tween = false }) (with_new_value (tween_update (with_previous p) dt clocks))
