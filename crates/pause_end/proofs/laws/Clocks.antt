-- Clocks that answer a start time alike move what starts with it alike. Assumes nothing.
use mathlib.Core.Path.{◌≡◌, refl, ap, subst, ◌∙◌}
use mathlib.Core.Bool.{Bool, false, cond}
use lib.Ieee.{Float}
use Rattle.clock.specs.declared.when_to_start.Clocks.{Clocks}
use Rattle.clock.specs.WhenToStart.{when_to_start}
use Rattle.tween.specs.declared.start_time.StartTime.{StartTime}
use Rattle.tween.specs.declared.start_time.StartTime.TheVariants.{Immediate, Delayed, ClockTime}
use Rattle.tween.specs.declared.tween.Tween.{Tween}
use Rattle.tween.specs.StartTime.{StartTimeUpdate, at_clock_time, start_time_update}
use Rattle.parameter.specs.declared.parameter.ParameterState.{ParameterState}
use Rattle.parameter.specs.declared.parameter.ParameterState.TheVariants.{Idle, Tweening}
use Rattle.parameter.specs.declared.parameter.Parameter.{Parameter}
use Rattle.parameter.specs.Parameter.{ParameterUpdate, started_at, tween_start, tween_update_in, tween_update, with_previous, with_new_value, parameter_update}
use Rattle.playback.specs.declared.playback_state_manager.PlaybackState.{PlaybackState}
use Rattle.playback.specs.declared.playback_state_manager.PlaybackState.TheVariants.{Playing, Pausing, Paused, WaitingToResume, Resuming, Stopping, Stopped}
use Rattle.playback.specs.PlaybackStateManager.{PlaybackUpdate, waiting_update, state_update}

-- ---- clocks that answer a start time alike

abbrev pub SameFor : StartTime → Clocks → Clocks → Type 0
SameFor Immediate a b = Unit {0}
SameFor (Delayed remaining) a b = Unit {0}
SameFor (ClockTime t) a b = when_to_start a t ≡ when_to_start b t

-- ---- which start time clocks are asked for

abbrev pub start_in : ParameterState → StartTime
start_in (Idle value) = Immediate
start_in (Tweening start target time tween) = tween.start_time

abbrev pub start_of : Parameter → StartTime
start_of p = start_in p.state

abbrev pub awaited : PlaybackState → StartTime
awaited Playing = Immediate
awaited Pausing = Immediate
awaited Paused = Immediate
awaited (WaitingToResume start tween) = start
awaited Resuming = Immediate
awaited Stopping = Immediate
awaited Stopped = Immediate

module _ (dt : Float) (a b : Clocks) where
  -- ---- a parameter

  started_same : (x : StartTime) (tween : Tween) → SameFor x a b → started_at x tween dt a ≡ started_at x tween dt b
  unfolding started_at
  started_same Immediate tween e = refl
  started_same (Delayed remaining) tween e = refl
  started_same (ClockTime t) tween e = rw e refl

  tween_same : (x : ParameterState) (p : Parameter) → SameFor (start_in x) a b → tween_update_in x p dt a ≡ tween_update_in x p dt b
  unfolding tween_update_in tween_start
  tween_same (Idle value) p e = refl
  tween_same (Tweening start target time tween) p e = rw (started_same tween.start_time tween e) refl

  parameter_same : (p : Parameter) → SameFor (start_of p) a b → parameter_update p dt a ≡ parameter_update p dt b
  unfolding parameter_update tween_update with_previous
  parameter_same p e =
      ap {B = ParameterUpdate} (λ (u : ParameterUpdate). cond p.stagnant (record { parameter = with_previous p; just_finished_tween = false }) (with_new_value u))
      (tween_same p.state (with_previous p) e)

  pub parameter_by : (p : Parameter) (x : StartTime) {u : ParameterUpdate} → x ≡ start_of p → SameFor x a b → u ≡ parameter_update p dt a → u ≡ parameter_update p dt b
  parameter_by p x e s f = f ∙ parameter_same p (subst (λ (y : StartTime). SameFor y a b) e s)

  -- ---- a playback state

  start_same : (x : StartTime) → SameFor x a b → start_time_update x dt a ≡ start_time_update x dt b
  unfolding start_time_update
  start_same Immediate e = refl
  start_same (Delayed remaining) e = refl
  start_same (ClockTime t) e = ap (at_clock_time t) e

  state_same : (x : PlaybackState) (fade : Parameter) (finished : Bool) → SameFor (awaited x) a b → state_update x fade finished dt a ≡ state_update x fade finished dt b
  unfolding state_update
  state_same Playing fade finished e = refl
  state_same Pausing fade finished e = refl
  state_same Paused fade finished e = refl
  state_same (WaitingToResume start tween) fade finished e = ap (λ (u : StartTimeUpdate). waiting_update u tween fade) (start_same start e)
  state_same Resuming fade finished e = refl
  state_same Stopping fade finished e = refl
  state_same Stopped fade finished e = refl

  pub state_by : (x : PlaybackState) (fade : Parameter) (finished : Bool) (y : StartTime) {u : PlaybackUpdate} → y ≡ awaited x → SameFor y a b → u ≡ state_update x fade finished dt a → u ≡ state_update x fade finished dt b
  state_by x fade finished y e s f = f ∙ state_same x fade finished (subst (λ (z : StartTime). SameFor z a b) e s)
