-- After an update every motion of a parameter that was reached has settled, so that one which waits on leaves its value alone. Assumes nothing.
use mathlib.Core.Path.{◌≡◌, refl, sym, ◌∙◌, subst}
use mathlib.Core.Bool.{Bool, true, false, cond, true≢false, false≢true}
use mathlib.Core.Logic.{inl, inr}
use mathlib.Core.List.{List}
use Prim.Native.Nat.{ℕ, suc, ◌<◌, ◌≤◌}
use native.Mathlib.Nat.{le_trans, le_of_eq}
use native.Mathlib.Omega.{arith}
use lib.Dec.{eqb}
use lib.ListN.{length, get_or, set, length-set}
use lib.Seq.{get_or-set_same, get_or-set_other}
use lib.Ieee.{Float}
use Rattle.limits.specs.Limits.{track_places}
use Rattle.laws.proofs.laws.Choice.{cond-true}
use Rattle.laws.proofs.laws.FloatRound.{below_or_not}
use Rattle.laws.proofs.laws.Loop.{upto_holds, changed_below}
use Rattle.decibels.specs.declared.decibels.Decibels.{Decibels}
use Rattle.clock.specs.declared.when_to_start.Clocks.{Clocks}
use Rattle.clock.specs.WhenToStart.{clocks_updated}
use Rattle.tween.specs.StartTime.{StartTimeUpdate}
use Rattle.tween.specs.declared.tween.Tween.{Tween}
use Rattle.tween.specs.StartTime.{is_immediate, start_time_update}
use Rattle.tween.specs.Tween.{tween_value}
use Rattle.tween.specs.Tweenable.{interpolated}
use Rattle.parameter.specs.declared.parameter.ParameterState.{ParameterState}
use Rattle.parameter.specs.declared.parameter.ParameterState.TheVariants.{Idle, Tweening}
use Rattle.parameter.specs.declared.parameter.Parameter.{Parameter}
use Rattle.parameter.specs.Parameter.{with_previous, with_new_value, tween_update, value_in, new_raw_value, parameter_update}
use Rattle.playback.specs.declared.playback_state_manager.PlaybackState.{PlaybackState}
use Rattle.playback.specs.declared.playback_state_manager.PlaybackState.TheVariants.{Playing, Pausing, Paused, WaitingToResume, Resuming, Stopping, Stopped}
use Rattle.playback.specs.declared.playback_state_manager.PlaybackStateManager.{PlaybackStateManager}
use Rattle.playback.specs.PlaybackStateManager.{PlaybackUpdate}
use Rattle.playback.specs.PlaybackStateManager.{unchanged, changed_to, after_fade, resumed, waited_until, waiting_update, state_update, playback_update}
use Rattle.scene.specs.declared.scene.Scene.{Scene}
use Rattle.scene.specs.declared.scene.TrackLine.{TrackLine}
use Rattle.accepted.specs.Lines.{absent_track_line}
use Rattle.accepted.specs.SceneOk.{SceneOk}
use Rattle.mixer.specs.declared.sub.Track.{Track}
use Rattle.mixer.specs.declared.mixer.Mixer.{Mixer}
use Rattle.mixer.specs.Mixer.{absent_track, absent_parameter, state_of, parameter_of, live_above, track_step, tracks_update, updated_where, route_update, routes_update, sends_update, mixer_update}
use Rattle.mixer.specs.Sub.{track_moved, track_still, track_update}
use Rattle.mixer.specs.MixerOk.{MixerOk}
use Rattle.steady_mixer.specs.Steady.{is_pausing}
pub use Rattle.steady_mixer.specs.Settled.{Settled, SettledTrack, SettledMixer}
use Rattle.steady_mixer.specs.Settled.{route_reached}

-- ---- a parameter

chosen_again : {A : Type 0} (b : Bool) (x y : A) → cond b (cond b x y) y ≡ cond b x y
chosen_again true x y = refl
chosen_again false x y = refl

value_again : (state : ParameterState) (now : Decibels) → value_in state (value_in state now) ≡ value_in state now
unfolding value_in
value_again (Idle value) now = refl
value_again (Tweening start target time tween) now = chosen_again (eqb tween.duration 0) now (interpolated start target (tween_value tween time))

pub update_settled : (p : Parameter) (dt : Float) (clocks : Clocks) → Settled (parameter_update p dt clocks).parameter
unfolding parameter_update with_previous with_new_value new_raw_value
update_settled p dt clocks = go p.stagnant refl
  where
    go : (b : Bool) → p.stagnant ≡ b → Settled (cond b (record { parameter = with_previous p; just_finished_tween = false }) (with_new_value (tween_update (with_previous p) dt clocks))).parameter
    go true e h = absurd (true≢false (sym e ∙ h))
    go false e h = value_again (tween_update (with_previous p) dt clocks).parameter.state (tween_update (with_previous p) dt clocks).parameter.raw_value

-- ---- a fade

-- what an update answers while its track is pausing
abbrev FadeSettled : PlaybackUpdate → Type 0
FadeSettled u = is_pausing u.manager.state ≡ true → Settled u.manager.volume_fade

either_settled : (b : Bool) (x y : PlaybackUpdate) → FadeSettled x → FadeSettled y → FadeSettled (cond b x y)
either_settled true x y h k = h
either_settled false x y h k = k

module _ (dt : Float) (clocks : Clocks) where
  wait_settled : (u : StartTimeUpdate) (tween : Tween) (fade : Parameter) → FadeSettled (waiting_update u tween fade)
  unfolding waiting_update waited_until resumed is_pausing
  wait_settled u tween fade =
      either_settled u.will_never_start (changed_to Stopped fade) (waited_until u.start_time tween fade) (λ e. absurd (false≢true e))
      (either_settled (is_immediate u.start_time) (record { manager = resumed fade tween; changed_playback_state = true }) (unchanged (WaitingToResume u.start_time tween) fade) (λ e. absurd (false≢true e)) (λ e. absurd (false≢true e)))

  state_settled : (state : PlaybackState) (fade : Parameter) (finished : Bool) → Settled fade → FadeSettled (state_update state fade finished dt clocks)
  unfolding state_update after_fade is_pausing
  state_settled Playing fade finished h = λ e. absurd (false≢true e)
  state_settled Pausing fade finished h = either_settled finished (changed_to Paused fade) (unchanged Pausing fade) (λ e. absurd (false≢true e)) (λ e. h)
  state_settled Paused fade finished h = λ e. absurd (false≢true e)
  state_settled (WaitingToResume start tween) fade finished h = wait_settled (start_time_update start dt clocks) tween fade
  state_settled Resuming fade finished h = either_settled finished (changed_to Playing fade) (unchanged Resuming fade) (λ e. absurd (false≢true e)) (λ e. absurd (false≢true e))
  state_settled Stopping fade finished h = either_settled finished (changed_to Stopped fade) (unchanged Stopping fade) (λ e. absurd (false≢true e)) (λ e. absurd (false≢true e))
  state_settled Stopped fade finished h = λ e. absurd (false≢true e)

  playback_settled : (m : PlaybackStateManager) → FadeSettled (playback_update m dt clocks)
  unfolding playback_update
  playback_settled m =
      let faded = parameter_update m.volume_fade dt clocks in
      state_settled m.state faded.parameter faded.just_finished_tween (update_settled m.volume_fade dt clocks)

-- ---- a track

track_settled : (t : Track) (reached : Bool) (dt : Float) (clocks : Clocks) → SettledTrack (track_update t reached dt clocks)
unfolding track_update track_moved track_still
track_settled t true dt clocks = record { volume = λ r. update_settled t.volume dt clocks; fade = λ r. playback_settled dt clocks t.playback }
track_settled t false dt clocks = record { volume = λ r. absurd (false≢true r); fade = λ r. absurd (false≢true r) }

-- ---- the mixer

-- the first i tracks
record FirstSettled (i : ℕ) (tracks : List Track) : Type 0 where
  long : length tracks ≡ track_places
  each : (t : ℕ) → t < i → SettledTrack (state_of tracks t)

tracks_settled : (lines : List TrackLine) (n : ℕ) (dt : Float) (clocks : Clocks) (tracks : List Track) → n ≤ track_places → length tracks ≡ track_places → FirstSettled n (tracks_update lines n dt clocks tracks)
unfolding tracks_update
tracks_settled lines n dt clocks tracks few long = upto_holds FirstSettled (track_step lines dt clocks) n tracks (record { long = long; each = λ t b. absurd (omega arith) }) next
  where
    next : (i : ℕ) → i < n → (x : List Track) → FirstSettled i x → FirstSettled (suc i) (track_step lines dt clocks i x)
    next i b x h = unfold track_step in (
        let new = track_update (state_of x i) (live_above x (get_or lines i absent_track_line).parent) dt clocks in
        record {
          long = length-set x i new ∙ h.long;
          each = λ t l. elim (below_or_not t i) [
            | inl p ↦ subst SettledTrack (sym (get_or-set_other x i t new absent_track (λ e. omega arith))) (h.each t p)
            | inr p ↦ (let same : t ≡ i = omega arith in subst (λ (k : ℕ). SettledTrack (state_of (set x i new) k)) (sym same) (subst SettledTrack (sym (get_or-set_same x i new absent_track (omega (arith, h.long)))) (track_settled (state_of x i) (live_above x (get_or lines i absent_track_line).parent) dt clocks)))
          ];
        })

pub update_settles : (s : Scene) (c : ℕ) (dt : Float) (m : Mixer) → SceneOk s → MixerOk s c m → SettledMixer s (mixer_update s dt m)
unfolding mixer_update sends_update routes_update route_update updated_where
update_settles s c dt m ok h =
    let clocks = clocks_updated m.clocks dt in
    let tracks = tracks_update s.tracks s.track_count dt clocks m.tracks in
    record {
      main = update_settled m.main_volume dt clocks;
      sends = λ i b. subst Settled (sym (changed_below (λ i p. (parameter_update p dt clocks).parameter) s.send_count m.sends i absent_parameter b (le_trans b (le_trans ok.send_count (le_of_eq (sym h.send_places)))))) (update_settled (parameter_of m.sends i) dt clocks);
      tracks = (tracks_settled s.tracks s.track_count dt clocks m.tracks ok.track_count h.track_places).each;
      routes = λ r b e. subst Settled (sym (changed_below (route_update s.routes dt clocks tracks) s.route_count m.routes r absent_parameter b (le_trans b (le_trans ok.route_count (le_of_eq (sym h.route_places)))))) (
          subst Settled (sym (cond-true (route_reached s tracks r) (parameter_update (parameter_of m.routes r) dt clocks).parameter (parameter_of m.routes r) e)) (update_settled (parameter_of m.routes r) dt clocks));
    }
