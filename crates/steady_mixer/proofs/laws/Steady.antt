-- When a mixer stands still: an update changes nothing of it but its clocks, and how long it still waits. Assumes nothing.
use mathlib.Core.Path.{◌≡◌, refl, sym, ap, ap₂, ◌∙◌}
use mathlib.Core.Bool.{Bool, true, false, not, cond, ◌&&◌, beq, false≢true}
use mathlib.Core.List.{List}
use Prim.Native.Nat.{ℕ, ◌+◌, ◌-◌, suc, ◌≤◌, ◌<◌}
use native.Mathlib.Omega.{arith}
use lib.Dec.{eqb, ltb, eqb→eq}
use lib.ListN.{length, get_or, set}
use lib.Ieee.{binary32, binary64, add, to_bits, Float, of_bits}
use borrow.Author.Tests.{not-true, ne_eqb, ltb-true}
use lib.Ieee.Bits.{of_bits-to_bits}
use Rattle.rounding.specs.Duration.{nanos_from_secs}
use Rattle.decibels.specs.declared.decibels.Decibels.{Decibels}
use Rattle.clock.specs.declared.clock_time.ClockTime as time
use Rattle.clock.specs.declared.when_to_start.Clocks.{Clocks}
use Rattle.clock.specs.declared.when_to_start.WhenToStart.{WhenToStart}
use Rattle.clock.specs.declared.when_to_start.WhenToStart.TheVariants.{Later}
use Rattle.clock.specs.WhenToStart.{clocks_updated, when_to_start}
use Rattle.tween.specs.declared.start_time.StartTime.{StartTime}
use Rattle.tween.specs.declared.start_time.StartTime.TheVariants.{Immediate, Delayed, ClockTime}
use Rattle.tween.specs.StartTime.{StartTimeUpdate}
use Rattle.tween.specs.declared.tween.Tween.{Tween}
use Rattle.tween.specs.StartTime.{is_immediate, delay_left, after_delay, at_clock_time, start_time_update}
use Rattle.tween.specs.Tween.{tween_value}
use Rattle.parameter.specs.declared.parameter.ParameterState.{ParameterState}
use Rattle.parameter.specs.declared.parameter.ParameterState.TheVariants.{Idle, Tweening}
use Rattle.parameter.specs.declared.parameter.Parameter.{Parameter}
use Rattle.parameter.specs.Range.{ParameterIn, value_range}
use Rattle.playback.specs.declared.playback_state_manager.PlaybackState.{PlaybackState}
use Rattle.playback.specs.declared.playback_state_manager.PlaybackState.TheVariants.{Playing, Pausing, Paused, WaitingToResume, Resuming, Stopping, Stopped}
use Rattle.playback.specs.PlaybackStateManager.{is_advancing, unchanged, after_fade, waited_until, waiting_update, state_update, playback_update}
use Rattle.scene_tables.specs.Bytes.{every}
use Rattle.scene.specs.declared.scene.Scene.{Scene}
use Rattle.scene.specs.declared.scene.TrackLine.{TrackLine}
use Rattle.mixer.specs.Mixer.{mixer_of, absent_track, state_of, parameter_of, live_above, absent_parameter, track_step, tracks_update, updated_where, route_update, routes_update, sends_update, mixer_update}
use Rattle.mixer.specs.declared.sub.Track.{Track}
use Rattle.mixer.specs.declared.mixer.Mixer.{Mixer}
use Rattle.laws.proofs.laws.Choice.{true-T, and_left, and_right, cond-false}
use Rattle.laws.specs.Loop.{changed}
use Rattle.laws.proofs.laws.Loop.{upto_holds, changed_cong, changed_zero, changed_turn_any, changed_here}
use Rattle.laws.specs.DecibelRange.{ValueRange}
use Rattle.laws.proofs.laws.DecibelRange.{value→read, read_number}
use Rattle.parameter.specs.Parameter.{ParameterUpdate}
use Rattle.parameter.specs.Parameter.{is_now, started_at, tween_start, with_state, tween_move, tween_update_in, tween_update, value_in, new_raw_value, with_previous, with_new_value, parameter_update}
use Rattle.playback.specs.declared.playback_state_manager.PlaybackStateManager.{PlaybackStateManager}
use Rattle.scene_tables.proofs.laws.Every.{every_at}
use Rattle.accepted.specs.SceneOk.{SceneOk}
use Rattle.mixer.specs.Sub.{track_moved, track_still, track_update}
use Rattle.mixer.specs.MixerOk.{MixerOk}
use Rattle.accepted.specs.Lines.{absent_track_line, absent_route_line}
use Rattle.steady_mixer.specs.Steady.{Ahead, ahead, comes_later, same_level, motion_later, parameter_steady, state_steady, is_pausing, fade_ahead, reached_steady, steady_where, route_steady}
use Rattle.steady_mixer.specs.MixerSteady.{steady_track, steady_route, steady_send, mixer_steady}
use Rattle.steady_mixer.proofs.laws.MixerSteady.{after_run}
use Rattle.steady_mixer.proofs.laws.Waited.{waited_start, waited_tween, waited_motion, waited_where, waited_parameter, waited_state, waited_track, route_reached, waited_tracks, waited_sends, waited_routes, waited, waited_reached, waited_live, waited_advances}
use Rattle.steady_mixer.proofs.laws.Settled.{Settled, SettledTrack, SettledMixer}

unfoldable pub with_clocks : Clocks → Mixer → Mixer
with_clocks clocks m = after_run clocks m.played m

-- a track's values are numbers
abbrev TrackIn : Track → Type 0
TrackIn t = ParameterIn value_range t.volume × ParameterIn value_range t.playback.volume_fade

-- ---- flags

pub same_flag : (a b : Bool) → beq a b ≡ true → a ≡ b
same_flag true true e = refl
same_flag true false e = sym e
same_flag false true e = e
same_flag false false e = refl

-- ---- a value

same_float : (x y : Float) → ValueRange x → ValueRange y → eqb (to_bits binary32 x) (to_bits binary32 y) ≡ true → x ≡ y
same_float x y h k e =
    sym (of_bits-to_bits binary32 x (read_number x (value→read x h)).held)
    ∙ ap (of_bits binary32) (eqb→eq (to_bits binary32 x) (to_bits binary32 y) (true-T _ e))
    ∙ of_bits-to_bits binary32 y (read_number y (value→read y k)).held

same_value : (a b : Decibels) → ValueRange a.0 → ValueRange b.0 → same_level a b ≡ true → a ≡ b
unfolding same_level
same_value a b h k e = ap (λ (x : Float). record { 0 = x }) (same_float a.0 b.0 h k e)

abbrev answer : Parameter → ParameterUpdate
answer p = record { parameter = p; just_finished_tween = false }

-- clocks that have not come further than to these ticks
abbrev pub EndsAfter : List ℕ → Clocks → Type 0
EndsAfter ends clocks = (t : time.ClockTime) → t.clock < length ends → get_or ends t.clock 0 < t.ticks → when_to_start clocks t ≡ Later

-- ---- an update of dt seconds, d nanoseconds, within the block

module _ (nanos : ℕ) (ends : List ℕ) (dt : Float) (clocks : Clocks) (d : ℕ) (is : nanos_from_secs dt ≡ d) (few : d ≤ nanos) (early : EndsAfter ends clocks) where
  -- ---- a start time that comes later

  clock_later : (a : Bool) (t : time.ClockTime) → comes_later (ahead a nanos ends) (ClockTime t) ≡ true → when_to_start clocks t ≡ Later
  unfolding comes_later
  clock_later a t e = go (ltb t.clock (length ends)) refl e
    where
      go : (b : Bool) → ltb t.clock (length ends) ≡ b → cond b (ltb (get_or ends t.clock 0) t.ticks) false ≡ true → when_to_start clocks t ≡ Later
      go true p q = early t (ltb-true t.clock (length ends) p) (ltb-true (get_or ends t.clock 0) t.ticks q)
      go false p q = absurd (false≢true q)

  tween_later : (a : Bool) (start : StartTime) (tween : Tween) → tween.start_time ≡ start → comes_later (ahead a nanos ends) start ≡ true → started_at start tween dt clocks ≡ record { tween = waited_tween d tween; started = false }
  unfolding comes_later started_at waited_start delay_left
  tween_later a Immediate tween e h = absurd (false≢true h)
  tween_later a (Delayed remaining) tween e h =
      let more : nanos < remaining = ltb-true nanos remaining h in
      cond-false (eqb remaining 0) (record { tween = tween; started = true }) (record { tween = record { start_time = Delayed (delay_left remaining dt); duration = tween.duration; easing = tween.easing }; started = false }) (ne_eqb remaining 0 (λ z. omega arith))
      ∙ ap (λ (x : StartTime). record { tween = record { start_time = x; duration = tween.duration; easing = tween.easing }; started = false }) (ap (λ (n : ℕ). Delayed (remaining - n)) is ∙ sym (ap (waited_start d) e))
  tween_later a (ClockTime t) tween e h =
      ap (λ (x : WhenToStart). record { tween = tween; started = is_now x }) (clock_later a t h)
      ∙ unfold is_now in ap (λ (x : StartTime). record { tween = record { start_time = x; duration = tween.duration; easing = tween.easing }; started = false }) (e ∙ sym (ap (waited_start d) e))

  -- a resume that comes later
  start_later : (a : Bool) (start : StartTime) → comes_later (ahead a nanos ends) start ≡ true → start_time_update start dt clocks ≡ record { start_time = waited_start d start; will_never_start = false }
  unfolding comes_later start_time_update waited_start delay_left after_delay
  start_later a Immediate h = absurd (false≢true h)
  start_later a (Delayed remaining) h =
      let more : nanos < remaining = ltb-true nanos remaining h in
      ap (λ (x : StartTime). record { start_time = x; will_never_start = false })
      (ap (λ (n : ℕ). cond (eqb (remaining - n) 0) Immediate (Delayed (remaining - n))) is ∙ cond-false (eqb (remaining - d) 0) Immediate (Delayed (remaining - d)) (ne_eqb (remaining - d) 0 (λ z. omega arith)))
  start_later a (ClockTime t) h = ap (at_clock_time t) (clock_later a t h) ∙ unfold at_clock_time in refl

  still_waits : (a : Bool) (start : StartTime) → comes_later (ahead a nanos ends) start ≡ true → is_immediate (waited_start d start) ≡ false
  unfolding comes_later is_immediate waited_start
  still_waits a Immediate h = absurd (false≢true h)
  still_waits a (Delayed remaining) h = refl
  still_waits a (ClockTime t) h = refl

  -- ---- a parameter

  abbrev by : ParameterState → Decibels → Decibels → Bool → Parameter
  by state raw previous stagnant = record { state = state; raw_value = raw; previous_raw_value = previous; stagnant = stagnant }

  stagnant_stays : (state : ParameterState) (raw previous : Decibels) → previous ≡ raw → parameter_update (by state raw previous true) dt clocks ≡ answer (waited_parameter d (by state raw previous true))
  unfolding parameter_update with_previous waited_where
  stagnant_stays state raw previous e = ap (λ (v : Decibels). answer (by state raw v true)) (sym e)

  motion_waits : (a : Bool) (state : ParameterState) (raw previous : Decibels) → previous ≡ raw → motion_later (ahead a nanos ends) state ≡ true → value_in state raw ≡ raw → parameter_update (by state raw previous false) dt clocks ≡ answer (waited_parameter d (by state raw previous false))
  unfolding motion_later value_in waited_motion waited_where parameter_update with_previous tween_update tween_update_in with_new_value with_state new_raw_value tween_start tween_value
  motion_waits a (Idle value) raw previous e h v = absurd (false≢true h)
  motion_waits a (Tweening start target time tween) raw previous e h v =
      let p = by (Tweening start target time tween) raw raw false in
      ap (λ begun. with_new_value (cond begun.started (tween_move p start target (add binary64 time dt) begun.tween) (answer (with_state p (Tweening start target time begun.tween) false)))) (tween_later a tween.start_time tween refl h)
      ∙ ap₂ (λ (x y : Decibels). answer (by (Tweening start target time (waited_tween d tween)) x y false)) v (sym e)

  still_parameter : (a : Bool) (p : Parameter) → ParameterIn value_range p → (a ≡ true → Settled p) → parameter_steady (ahead a nanos ends) p ≡ true → parameter_update p dt clocks ≡ answer (waited_parameter d p)
  unfolding parameter_steady new_raw_value
  still_parameter a p h settled e =
      let same = same_level p.previous_raw_value p.raw_value in
      let rest = cond p.stagnant true (a && motion_later (ahead a nanos ends) p.state) in
      go p.stagnant refl (same_value p.previous_raw_value p.raw_value h.previous h.value (and_left same rest e)) (and_right same rest e)
    where
      go : (b : Bool) → p.stagnant ≡ b → p.previous_raw_value ≡ p.raw_value → cond b true (a && motion_later (ahead a nanos ends) p.state) ≡ true
          → parameter_update (by p.state p.raw_value p.previous_raw_value b) dt clocks ≡ answer (waited_parameter d (by p.state p.raw_value p.previous_raw_value b))
      go true q same w = stagnant_stays p.state p.raw_value p.previous_raw_value same
      go false q same w =
          motion_waits a p.state p.raw_value p.previous_raw_value same (and_right a (motion_later (ahead a nanos ends) p.state) w)
          (settled (and_left a (motion_later (ahead a nanos ends) p.state) w) q)

  -- ---- a track

  still_state : (a : Bool) (state : PlaybackState) (fade : Parameter) → state_steady (ahead a nanos ends) state ≡ true → state_update state fade false dt clocks ≡ unchanged (waited_state d state) fade
  unfolding state_steady state_update after_fade waited_state waiting_update waited_until
  still_state a Playing fade e = refl
  still_state a Pausing fade e = refl
  still_state a Paused fade e = refl
  still_state a (WaitingToResume start tween) fade e =
      let later = and_right a (comes_later (ahead a nanos ends) start) e in
      ap (λ (u : StartTimeUpdate). waiting_update u tween fade) (start_later a start later)
      ∙ cond-false (is_immediate (waited_start d start)) _ (unchanged (WaitingToResume (waited_start d start) tween) fade) (still_waits a start later)
  still_state a Resuming fade e = refl
  still_state a Stopping fade e = refl
  still_state a Stopped fade e = refl

  still_playback : (a : Bool) (m : PlaybackStateManager) → ParameterIn value_range m.volume_fade → (a ≡ true → is_pausing m.state ≡ true → Settled m.volume_fade) → state_steady (ahead a nanos ends) m.state ≡ true → parameter_steady (fade_ahead (ahead a nanos ends) m.state) m.volume_fade ≡ true
      → (playback_update m dt clocks).manager ≡ record { state = waited_state d m.state; volume_fade = waited_parameter d m.volume_fade }
  unfolding playback_update
  still_playback a m h settled e k =
      let b = a && is_pausing m.state in
      ap (λ (u : ParameterUpdate). (state_update m.state u.parameter u.just_finished_tween dt clocks).manager)
      (still_parameter b m.volume_fade h (λ q. settled (and_left a (is_pausing m.state) q) (and_right a (is_pausing m.state) q)) k)
      ∙ ap (λ u. u.manager) (still_state a m.state (waited_parameter d m.volume_fade) e)

  module _ (a : Bool) where
    abbrev h : Ahead
    h = ahead a nanos ends

    abbrev track_of : Parameter → PlaybackState → Parameter → Bool → Bool → Track
    track_of volume state fade reached live = record { volume = volume; playback = record { state = state; volume_fade = fade }; reached = reached; live = live }

    -- a track that is reached, or not
    abbrev reached_by : Track → Bool → Track
    reached_by t b =
        record {
          volume = waited_where b d t.volume;
          playback = record { state = cond b (waited_state d t.playback.state) t.playback.state; volume_fade = waited_where b d t.playback.volume_fade };
          reached = b;
          live = t.live;
        }

    still_moved : (t : Track) → TrackIn t → (a ≡ true → SettledTrack t) → reached_steady h t ≡ true → t.reached ≡ true → track_moved t dt clocks ≡ waited_track d t
    unfolding reached_steady track_moved waited_track
    still_moved t within settled e r =
        let state = t.playback.state in
        let flag = beq t.live (is_advancing state) in
        let volume = parameter_steady h t.volume in
        let fade = parameter_steady (fade_ahead h state) t.playback.volume_fade in
        let e₁ = and_right (state_steady h state) (flag && (volume && fade)) e in
        let e₂ = and_right flag (volume && fade) e₁ in
        let still = still_playback a t.playback within.1 (λ q. (settled q).fade r) (and_left (state_steady h state) (flag && (volume && fade)) e) (and_right volume fade e₂) in
        let live : t.live ≡ is_advancing state = same_flag t.live (is_advancing state) (and_left flag (volume && fade) e₁) in
        ap (λ (m : PlaybackStateManager). record { volume = (parameter_update t.volume dt clocks).parameter; playback = m; reached = true; live = is_advancing m.state }) still
        ∙ ap (λ (u : ParameterUpdate). record { volume = u.parameter; playback = record { state = waited_state d state; volume_fade = waited_parameter d t.playback.volume_fade }; reached = true; live = is_advancing (waited_state d state) }) (still_parameter a t.volume within.0 (λ q. (settled q).volume r) (and_left volume fade e₂))
        ∙ ap (λ (b : Bool). record { volume = waited_parameter d t.volume; playback = record { state = waited_state d state; volume_fade = waited_parameter d t.playback.volume_fade }; reached = true; live = b }) (waited_advances d state ∙ sym live)
        ∙ ap (reached_by t) (sym r)

    still_unreached : (t : Track) → t.reached ≡ false → t.live ≡ false → track_still t ≡ waited_track d t
    unfolding track_still waited_track waited_where
    still_unreached t r l =
        ap (λ (b : Bool). record { volume = t.volume; playback = t.playback; reached = false; live = b }) (sym l)
        ∙ not_waited t.volume.stagnant t.playback.volume_fade.stagnant
        ∙ ap (reached_by t) (sym r)
      where
        not_waited : (p q : Bool) → track_of t.volume t.playback.state t.playback.volume_fade false t.live
            ≡ track_of (by (cond p t.volume.state t.volume.state) t.volume.raw_value t.volume.previous_raw_value t.volume.stagnant) t.playback.state
            (by (cond q t.playback.volume_fade.state t.playback.volume_fade.state) t.playback.volume_fade.raw_value t.playback.volume_fade.previous_raw_value t.playback.volume_fade.stagnant) false t.live
        not_waited true true = refl
        not_waited true false = refl
        not_waited false true = refl
        not_waited false false = refl

    still_track : (t : Track) (reached : Bool) → TrackIn t → (a ≡ true → SettledTrack t) → steady_where h t reached ≡ true → track_update t reached dt clocks ≡ waited_track d t
    unfolding steady_where track_update
    still_track t true within settled e =
        let flag = beq t.reached true in
        still_moved t within settled (and_right flag (reached_steady h t) e) (same_flag t.reached true (and_left flag (reached_steady h t) e))
    still_track t false within settled e =
        let flag = beq t.reached false in
        still_unreached t (same_flag t.reached false (and_left flag (not t.live) e)) (not-true t.live (and_right flag (not t.live) e))

    -- ---- the arrays

    live_waited : (n : ℕ) (tracks : List Track) (line : ℕ) → live_above (waited_tracks d n tracks) line ≡ live_above tracks line
    unfolding live_above
    live_waited n tracks line = ap (λ (b : Bool). cond (eqb line 0) true b) (waited_live d n tracks (line - 1))

    none_waited : (tracks : List Track) → tracks ≡ waited_tracks d 0 tracks
    unfolding waited_tracks
    none_waited tracks = sym (changed_zero (λ t x. waited_track d x) tracks)

    row_waited : (tracks : List Track) (t : ℕ) → state_of (waited_tracks d t tracks) t ≡ state_of tracks t
    unfolding waited_tracks
    row_waited tracks t = changed_here (λ t x. waited_track d x) t tracks absent_track

    turn_waited : (tracks : List Track) (t : ℕ) → set (waited_tracks d t tracks) t (waited_track d (state_of (waited_tracks d t tracks) t)) ≡ waited_tracks d (suc t) tracks
    unfolding waited_tracks
    turn_waited tracks t =
        let one : t + 1 ≡ suc t = omega arith in
        changed_turn_any (λ t x. waited_track d x) t tracks absent_track refl ∙ ap (λ (k : ℕ). changed (λ t x. waited_track d x) k tracks) one

    step_waited : (lines : List TrackLine) (n : ℕ) (tracks : List Track) (t : ℕ) → t < n → TrackIn (state_of tracks t) → (a ≡ true → SettledTrack (state_of tracks t)) → every n (steady_track h lines tracks) ≡ true → (x : List Track) → x ≡ waited_tracks d t tracks → track_step lines dt clocks t x ≡ waited_tracks d (suc t) tracks
    unfolding track_step steady_track
    step_waited lines n tracks t b within settled e x same =
        let line = (get_or lines t absent_track_line).parent in
        ap (λ (l : List Track). set l t (track_update (state_of l t) (live_above l line) dt clocks)) same
        ∙ ap₂ (λ (y : Track) (live : Bool). set (waited_tracks d t tracks) t (track_update y live dt clocks)) (row_waited tracks t) (live_waited t tracks line)
        ∙ ap (set (waited_tracks d t tracks) t) (still_track (state_of tracks t) (live_above tracks line) within settled (every_at n (steady_track h lines tracks) t b e) ∙ ap (waited_track d) (sym (row_waited tracks t)))
        ∙ turn_waited tracks t

    still_tracks : (lines : List TrackLine) (n : ℕ) (tracks : List Track) → ((t : ℕ) → t < n → TrackIn (state_of tracks t)) → (a ≡ true → (t : ℕ) → t < n → SettledTrack (state_of tracks t)) → every n (steady_track h lines tracks) ≡ true → tracks_update lines n dt clocks tracks ≡ waited_tracks d n tracks
    unfolding tracks_update
    still_tracks lines n tracks within settled e =
        upto_holds (λ i x. x ≡ waited_tracks d i tracks) (track_step lines dt clocks) n tracks (none_waited tracks)
        (λ t b x same. step_waited lines n tracks t b (within t b) (λ q. settled q t b) e x same)

    still_sends : (n : ℕ) (sends : List Parameter) → ((i : ℕ) → i < n → ParameterIn value_range (parameter_of sends i)) → (a ≡ true → (i : ℕ) → i < n → Settled (parameter_of sends i)) → every n (steady_send h sends) ≡ true → sends_update n dt clocks sends ≡ waited_sends d n sends
    unfolding sends_update steady_send waited_sends
    still_sends n sends within settled e =
        changed_cong (λ i p. (parameter_update p dt clocks).parameter) (λ i p. waited_parameter d p) n sends absent_parameter
        (λ i b c. ap (λ (u : ParameterUpdate). u.parameter) (still_parameter a (parameter_of sends i) (within i b) (λ q. settled q i b) (every_at n (steady_send h sends) i b e)))

    kept_where : (p : Parameter) → p ≡ waited_where false d p
    unfolding waited_where
    kept_where p = go p.stagnant
      where
        go : (b : Bool) → p ≡ by (cond b p.state p.state) p.raw_value p.previous_raw_value p.stagnant
        go true = refl
        go false = refl

    still_where : (p : Parameter) (moves : Bool) → ParameterIn value_range p → (a ≡ true → moves ≡ true → Settled p) → route_steady h p moves ≡ true → updated_where p moves dt clocks ≡ waited_where moves d p
    unfolding route_steady updated_where
    still_where p true within settled e = ap (λ (u : ParameterUpdate). u.parameter) (still_parameter a p within (λ q. settled q refl) e)
    still_where p false within settled e = kept_where p

    still_routes : (s : Scene) (tracks others : List Track) (routes : List Parameter) → ((k : ℕ) → (state_of others k).reached ≡ (state_of tracks k).reached) → ((r : ℕ) → r < s.route_count → ParameterIn value_range (parameter_of routes r)) → (a ≡ true → (r : ℕ) → r < s.route_count → route_reached s tracks r ≡ true → Settled (parameter_of routes r)) → every s.route_count (steady_route h s.routes tracks routes) ≡ true
        → routes_update s.routes s.route_count dt clocks others routes ≡ waited_routes d s tracks routes
    unfolding routes_update route_update steady_route waited_routes
    still_routes s tracks others routes same within settled e =
        changed_cong (route_update s.routes dt clocks others) (λ r p. waited_where (route_reached s tracks r) d p) s.route_count routes absent_parameter
        (λ r b c. ap (λ (x : Bool). updated_where (parameter_of routes r) x dt clocks) (same ((get_or s.routes r absent_route_line).track - 1))
        ∙ still_where (parameter_of routes r) (route_reached s tracks r) (within r b) (λ q. settled q r b) (every_at s.route_count (steady_route h s.routes tracks routes) r b e))

-- ---- the mixer

parts_same : {main main' : Parameter} {tracks tracks' : List Track} {sends sends' routes routes' : List Parameter} (clocks : Clocks) (played : List ℕ) → main ≡ main' → tracks ≡ tracks' → sends ≡ sends' → routes ≡ routes' → mixer_of clocks main tracks sends routes played ≡ mixer_of clocks main' tracks' sends' routes' played
parts_same clocks played p q r t = rw (p, q, r, t) refl

-- a mixer with the clocks that have moved already
unfoldable pub mixer_moved : Scene → Float → Clocks → Mixer → Mixer
mixer_moved s dt clocks m =
    let tracks = tracks_update s.tracks s.track_count dt clocks m.tracks in
    mixer_of clocks (parameter_update m.main_volume dt clocks).parameter tracks (sends_update s.send_count dt clocks m.sends)
    (routes_update s.routes s.route_count dt clocks tracks m.routes) m.played

pub still_moves : (h : Ahead) (s : Scene) (m : Mixer) (c : ℕ) (dt : Float) (clocks : Clocks) → SceneOk s → MixerOk s c m → (h.waits ≡ true → SettledMixer s m) → mixer_steady h s m ≡ true → nanos_from_secs dt ≤ h.nanos → EndsAfter h.ends clocks
    → mixer_moved s dt clocks m ≡ with_clocks clocks (waited (nanos_from_secs dt) s m)
unfolding mixer_steady mixer_moved with_clocks after_run waited
still_moves h s m c dt clocks ok within settled e few early =
    let d = nanos_from_secs dt in
    let n = h.nanos in
    let ends = h.ends in
    let a = h.waits in
    let main = parameter_steady h m.main_volume in
    let sends = every s.send_count (steady_send h m.sends) in
    let tracks = every s.track_count (steady_track h s.tracks m.tracks) in
    let routes = every s.route_count (steady_route h s.routes m.tracks m.routes) in
    let e₁ = and_right main (sends && (tracks && routes)) e in
    let e₂ = and_right sends (tracks && routes) e₁ in
    let moved : tracks_update s.tracks s.track_count dt clocks m.tracks ≡ waited_tracks d s.track_count m.tracks = still_tracks n ends dt clocks d refl few early a s.tracks s.track_count m.tracks (λ t b. ((within.tracks t b).volume, (within.tracks t b).playback.fade)) (λ q t b. (settled q).tracks t b) (and_left tracks routes e₂) in
    parts_same clocks m.played
    (ap (λ (u : ParameterUpdate). u.parameter) (still_parameter n ends dt clocks d refl few early a m.main_volume within.main (λ q. (settled q).main) (and_left main (sends && (tracks && routes)) e)))
    moved
    (still_sends n ends dt clocks d refl few early a s.send_count m.sends within.sends (λ q i b. (settled q).sends i b) (and_left sends (tracks && routes) e₁))
    (still_routes n ends dt clocks d refl few early a s m.tracks (tracks_update s.tracks s.track_count dt clocks m.tracks) m.routes
    (λ k. ap (λ (l : List Track). (state_of l k).reached) moved ∙ waited_reached d s.track_count m.tracks k) within.routes (λ q r b. (settled q).routes r b) (and_right tracks routes e₂))

pub still_update : (h : Ahead) (s : Scene) (m : Mixer) (c : ℕ) (dt : Float) → SceneOk s → MixerOk s c m → (h.waits ≡ true → SettledMixer s m) → mixer_steady h s m ≡ true → nanos_from_secs dt ≤ h.nanos → EndsAfter h.ends (clocks_updated m.clocks dt)
    → mixer_update s dt m ≡ with_clocks (clocks_updated m.clocks dt) (waited (nanos_from_secs dt) s m)
still_update h s m c dt ok within settled e few early = update_moves s dt m ∙ still_moves h s m c dt (clocks_updated m.clocks dt) ok within settled e few early
  where
    update_moves : (s : Scene) (dt : Float) (m : Mixer) → mixer_update s dt m ≡ mixer_moved s dt (clocks_updated m.clocks dt) m
    update_moves s dt m = unfold mixer_update mixer_moved in refl
