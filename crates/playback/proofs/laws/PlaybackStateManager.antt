-- What a playback state manager keeps to: where the clocks that are named are there it is never stopped, its fade stays in range, and one that is paused at
-- once is paused from its first update on. Assumes nothing.
use mathlib.Core.Path.{◌≡◌, refl, sym, ap, ◌∙◌, subst}
use mathlib.Core.Bool.{Bool, true, false, cond}
use Prim.Native.Nat.{ℕ}
use lib.Dec.{T}
use lib.Ieee.{Float, neg, of_int}
use Rattle.laws.proofs.laws.Choice.{cond-false}
use Rattle.laws.specs.Float.{pos_zero}
use Rattle.laws.proofs.laws.Unsigned.{unsigned}
use Rattle.laws.proofs.laws.DecibelRange.{target→value, silent→target, minus_sixty, minus_sixty_silent, pos_zero_target}
use Rattle.clock.specs.declared.when_to_start.Clocks.{Clocks}
use Rattle.tween.specs.declared.start_time.StartTime.{StartTime}
use Rattle.tween.specs.declared.start_time.StartTime.TheVariants.{Immediate}
use Rattle.tween.specs.StartTime.{StartTimeUpdate}
use Rattle.tween.specs.declared.tween.Tween.{Tween}
use Rattle.tween.specs.StartTime.{is_immediate, start_time_update, ClockThere}
use Rattle.tween.proofs.laws.StartTime.{Goes, start_time_goes}
use Rattle.parameter.specs.declared.parameter.Parameter.{Parameter}
use Rattle.playback.specs.declared.playback_state_manager.PlaybackState.{PlaybackState}
use Rattle.playback.specs.declared.playback_state_manager.PlaybackState.TheVariants.{Playing, Pausing, Paused, WaitingToResume, Resuming, Stopping, Stopped}
use Rattle.playback.specs.declared.playback_state_manager.PlaybackStateManager.{PlaybackStateManager}
use Rattle.playback.specs.PlaybackStateManager.{PlaybackUpdate}
use Rattle.parameter.specs.Parameter.{parameter_set, parameter_update}
use Rattle.parameter.specs.Range.{ParameterIn, value_range, Short}
use Rattle.parameter.proofs.laws.Parameter.{new_in, set_in, update_in, set_at_once, value_kept}
use Rattle.playback.specs.PlaybackStateManager.{is_stopped, silent, identity, playback_new, playback_pause, resumed, resumed_at, playback_resume, unchanged, changed_to, after_fade, waited_until, waiting_update, state_update, playback_update}
use Rattle.playback.specs.Runs.{StateRuns, Runs}

pub runs_not_stopped : (count : ℕ) (state : PlaybackState) → StateRuns count state → is_stopped state ≡ false
unfolding is_stopped
runs_not_stopped count Playing h = refl
runs_not_stopped count Pausing h = refl
runs_not_stopped count Paused h = refl
runs_not_stopped count (WaitingToResume start tween) h = refl
runs_not_stopped count Resuming h = refl
runs_not_stopped count Stopping h = refl
runs_not_stopped count Stopped h = absurd h

either_runs : (count : ℕ) (b : Bool) (x y : PlaybackUpdate) → Runs count x.manager → Runs count y.manager → Runs count (cond b x y).manager
either_runs count true x y h k = h
either_runs count false x y h k = k

module _ (count : ℕ) where
  pub new_runs : Runs count playback_new
  unfolding playback_new of_int
  new_runs = record { state = tt; fade = new_in value_range identity (target→value pos_zero pos_zero_target) }

  pub pause_runs : (m : PlaybackStateManager) (tween : Tween) → Short tween → Runs count m → Runs count (playback_pause m tween)
  unfolding playback_pause of_int neg
  pause_runs m tween s h =
      let fade : ParameterIn value_range (parameter_set m.volume_fade silent tween) = set_in value_range m.volume_fade silent tween h.fade (silent→target minus_sixty minus_sixty_silent) s in
      let runs : Runs count (record { state = Pausing; volume_fade = parameter_set m.volume_fade silent tween }) = record { state = tt; fade = fade } in
      subst (Runs count) (sym (cond-false (is_stopped m.state) m (record { state = Pausing; volume_fade = parameter_set m.volume_fade silent tween }) (runs_not_stopped count m.state h.state))) runs

  resumed_runs : (fade : Parameter) (tween : Tween) → Short tween → ParameterIn value_range fade → Runs count (resumed fade tween)
  unfolding resumed of_int
  resumed_runs fade tween s h = record { state = tt; fade = set_in value_range fade identity tween h pos_zero_target s }

  resumed_at_runs : (start : StartTime) (fade : Parameter) (tween : Tween) → ClockThere count start → Short tween → ParameterIn value_range fade → Runs count (resumed_at start fade tween)
  unfolding resumed_at
  resumed_at_runs start fade tween c s h = go (is_immediate start)
    where
      waits : PlaybackStateManager
      waits = record { state = WaitingToResume start tween; volume_fade = fade }

      go : (b : Bool) → Runs count (cond b (resumed fade tween) waits)
      go true = resumed_runs fade tween s h
      go false = record { state = (c, s); fade = h }

  pub resume_runs : (m : PlaybackStateManager) (start : StartTime) (tween : Tween) → ClockThere count start → Short tween → Runs count m → Runs count (playback_resume m start tween)
  unfolding playback_resume
  resume_runs m start tween c s h =
      subst (Runs count) (sym (cond-false (is_stopped m.state) m (resumed_at start m.volume_fade tween) (runs_not_stopped count m.state h.state)))
      (resumed_at_runs start m.volume_fade tween c s h.fade)

  waiting_runs : (u : StartTimeUpdate) (tween : Tween) (fade : Parameter) → Goes count u → Short tween → ParameterIn value_range fade → Runs count (waiting_update u tween fade).manager
  unfolding waiting_update waited_until
  waiting_runs u tween fade g s h =
      subst (λ (x : PlaybackUpdate). Runs count x.manager) (sym (cond-false u.will_never_start (changed_to Stopped fade) (waited_until u.start_time tween fade) g.starts))
      (either_runs count (is_immediate u.start_time) (record { manager = resumed fade tween; changed_playback_state = true }) (unchanged (WaitingToResume u.start_time tween) fade)
      (resumed_runs fade tween s h) (record { state = (g.there, s); fade = h }))

state_runs : (clocks : Clocks) (state : PlaybackState) (fade : Parameter) (finished : Bool) (dt : Float) → StateRuns clocks.count state → ParameterIn value_range fade
    → Runs clocks.count (state_update state fade finished dt clocks).manager
unfolding state_update after_fade
state_runs clocks Playing fade finished dt h k = record { state = tt; fade = k }
state_runs clocks Pausing fade finished dt h k = either_runs clocks.count finished (changed_to Paused fade) (unchanged Pausing fade) (record { state = tt; fade = k }) (record { state = tt; fade = k })
state_runs clocks Paused fade finished dt h k = record { state = tt; fade = k }
state_runs clocks (WaitingToResume start tween) fade finished dt h k =
    waiting_runs clocks.count (start_time_update start dt clocks) tween fade (start_time_goes start dt clocks h.0) h.1 k
state_runs clocks Resuming fade finished dt h k = either_runs clocks.count finished (changed_to Playing fade) (unchanged Resuming fade) (record { state = tt; fade = k }) (record { state = tt; fade = k })
state_runs clocks Stopping fade finished dt h k = absurd h
state_runs clocks Stopped fade finished dt h k = absurd h

pub update_runs : (m : PlaybackStateManager) (dt : Float) (clocks : Clocks) → T (unsigned dt) → Runs clocks.count m → Runs clocks.count (playback_update m dt clocks).manager
unfolding playback_update
update_runs m dt clocks w h =
    let faded = parameter_update m.volume_fade dt clocks in
    state_runs clocks m.state faded.parameter faded.just_finished_tween dt h.state (update_in value_range value_kept m.volume_fade dt clocks w h.fade)

-- ---- paused at once

pub paused_at_once : (m : PlaybackStateManager) (tween : Tween) (dt : Float) (clocks : Clocks) → is_stopped m.state ≡ false → tween.start_time ≡ Immediate → tween.duration ≡ 0 → T (unsigned dt)
    → (playback_update (playback_pause m tween) dt clocks).manager.state ≡ Paused
unfolding playback_pause playback_update state_update after_fade
paused_at_once m tween dt clocks h s d w =
    let fade = parameter_set m.volume_fade silent tween in
    let faded = parameter_update fade dt clocks in
    ap (λ (x : PlaybackStateManager). (playback_update x dt clocks).manager.state) (cond-false (is_stopped m.state) m (record { state = Pausing; volume_fade = fade }) h)
    ∙ ap (λ (b : Bool). (after_fade b Pausing Paused faded.parameter).manager.state) (set_at_once m.volume_fade silent tween dt clocks s d w)

pub paused_stays : (m : PlaybackStateManager) (dt : Float) (clocks : Clocks) → m.state ≡ Paused → (playback_update m dt clocks).manager.state ≡ Paused
unfolding playback_update state_update
paused_stays m dt clocks e =
    let faded = parameter_update m.volume_fade dt clocks in
    ap (λ (s : PlaybackState). (state_update s faded.parameter faded.just_finished_tween dt clocks).manager.state) e
