-- A mixer that stands still for a block still does once a part of the block has passed; and where nothing may wait, waiting changes nothing. Assumes nothing.
use mathlib.Core.Path.{◌≡◌, refl, sym, ap, ap₂, ◌∙◌}
use mathlib.Core.Bool.{Bool, true, false, not, cond, ◌&&◌, beq, false≢true}
use mathlib.Core.Logic.{inl, inr}
use mathlib.Core.List.{List}
use Prim.Native.Nat.{ℕ, ◌-◌, ◌≤◌, ◌<◌}
use native.Mathlib.Nat.{le_trans, le_of_eq}
use native.Mathlib.Omega.{arith}
use borrow.Author.Tests.{lt-ltb, le-ltb}
use lib.Dec.{eqb, ltb}
use lib.ListN.{get_or}
use Rattle.laws.proofs.laws.Choice.{and_left, and_right}
use Rattle.laws.proofs.laws.FloatRound.{below_or_not}
use Rattle.laws.proofs.laws.Loop.{changed_below}
use Rattle.tween.specs.declared.start_time.StartTime.{StartTime}
use Rattle.tween.specs.declared.start_time.StartTime.TheVariants.{Immediate, Delayed, ClockTime}
use Rattle.parameter.specs.declared.parameter.ParameterState.{ParameterState}
use Rattle.parameter.specs.declared.parameter.ParameterState.TheVariants.{Idle, Tweening}
use Rattle.parameter.specs.declared.parameter.Parameter.{Parameter}
use Rattle.playback.specs.declared.playback_state_manager.PlaybackState.{PlaybackState}
use Rattle.playback.specs.declared.playback_state_manager.PlaybackState.TheVariants.{Playing, Pausing, Paused, WaitingToResume, Resuming, Stopping, Stopped}
use Rattle.playback.specs.PlaybackStateManager.{is_advancing}
use Rattle.scene_tables.specs.Bytes.{every}
use Rattle.scene_tables.proofs.laws.Every.{every_at, every_same}
use Rattle.scene.specs.declared.scene.Scene.{Scene}
use Rattle.accepted.specs.Lines.{absent_track_line, absent_route_line}
use Rattle.accepted.specs.SceneOk.{SceneOk}
use Rattle.mixer.specs.declared.sub.Track.{Track}
use Rattle.mixer.specs.declared.mixer.Mixer.{Mixer}
use Rattle.mixer.specs.Mixer.{absent_track, absent_parameter, state_of, parameter_of, live_above}
use Rattle.mixer.specs.MixerOk.{MixerOk}
use Rattle.steady_mixer.specs.Steady.{Ahead, ahead, comes_later, same_level, motion_later, parameter_steady, state_steady, is_pausing, reached_steady, steady_where, route_steady}
use Rattle.steady_mixer.specs.MixerSteady.{steady_track, steady_route, steady_send, mixer_steady}
use Rattle.steady_mixer.proofs.laws.Steady.{same_flag}
use Rattle.steady_mixer.proofs.laws.Waited.{waited_start, waited_motion, waited_where, waited_parameter, waited_state, waited_track, route_reached, waited_tracks, waited_sends, waited_routes, waited, waited_reached, waited_live, waited_advances, changed_still, track_same, parts_kept}

-- ---- the rest of a block, once d nanoseconds have passed

abbrev pub less : ℕ → Ahead → Ahead
less d h = ahead h.waits (h.nanos - d) h.ends

less_later : (d n r : ℕ) → d ≤ n → ltb (n - d) (r - d) ≡ ltb n r
less_later d n r few = elim (below_or_not n r) [
  | inl p ↦ lt-ltb (n - d) (r - d) (omega (arith, few, p)) ∙ sym (lt-ltb n r p)
  | inr p ↦ le-ltb (n - d) (r - d) (omega (arith, few, p)) ∙ sym (le-ltb n r p)
]

module _ (h : Ahead) (d : ℕ) (few : d ≤ h.nanos) where
  start_lasts : (start : StartTime) → comes_later (less d h) (waited_start d start) ≡ comes_later h start
  unfolding comes_later waited_start
  start_lasts Immediate = refl
  start_lasts (Delayed remaining) = less_later d h.nanos remaining few
  start_lasts (ClockTime time) = refl

  -- whichever of the two may wait: a fade's does so only in a pause
  later_lasts : (a : Bool) (start : StartTime) → comes_later (ahead a (h.nanos - d) h.ends) (waited_start d start) ≡ comes_later (ahead a h.nanos h.ends) start
  unfolding comes_later waited_start
  later_lasts a Immediate = refl
  later_lasts a (Delayed remaining) = less_later d h.nanos remaining few
  later_lasts a (ClockTime time) = refl

  motion_lasts : (a : Bool) (state : ParameterState) → motion_later (ahead a (h.nanos - d) h.ends) (waited_motion d state) ≡ motion_later (ahead a h.nanos h.ends) state
  unfolding motion_later waited_motion
  motion_lasts a (Idle value) = refl
  motion_lasts a (Tweening start target time tween) = later_lasts a tween.start_time

  parameter_lasts : (a : Bool) (p : Parameter) → parameter_steady (ahead a (h.nanos - d) h.ends) (waited_parameter d p) ≡ parameter_steady (ahead a h.nanos h.ends) p
  unfolding parameter_steady waited_where
  parameter_lasts a p = ap (λ (x : Bool). same_level p.previous_raw_value p.raw_value && x) (go p.stagnant)
    where
      go : (b : Bool) → cond b true (a && motion_later (ahead a (h.nanos - d) h.ends) (cond b p.state (waited_motion d p.state))) ≡ cond b true (a && motion_later (ahead a h.nanos h.ends) p.state)
      go true = refl
      go false = ap (λ (x : Bool). a && x) (motion_lasts a p.state)

  state_lasts : (state : PlaybackState) → state_steady (less d h) (waited_state d state) ≡ state_steady h state
  unfolding state_steady waited_state
  state_lasts Playing = refl
  state_lasts Pausing = refl
  state_lasts Paused = refl
  state_lasts (WaitingToResume start tween) = ap (λ (x : Bool). h.waits && x) (start_lasts start)
  state_lasts Resuming = refl
  state_lasts Stopping = refl
  state_lasts Stopped = refl

  pausing_lasts : (state : PlaybackState) → is_pausing (waited_state d state) ≡ is_pausing state
  unfolding is_pausing waited_state
  pausing_lasts Playing = refl
  pausing_lasts Pausing = refl
  pausing_lasts Paused = refl
  pausing_lasts (WaitingToResume start tween) = refl
  pausing_lasts Resuming = refl
  pausing_lasts Stopping = refl
  pausing_lasts Stopped = refl

  four : {x x' y y' z z' w w' : Bool} → x ≡ x' → y ≡ y' → z ≡ z' → w ≡ w' → (x && (y && (z && w))) ≡ (x' && (y' && (z' && w')))
  four p q r t = rw (p, q, r, t) refl

  -- a track by its parts, reached or not
  abbrev track_of : Parameter → PlaybackState → Parameter → Bool → Bool → Track
  track_of volume state fade reached live = record { volume = volume; playback = record { state = state; volume_fade = fade }; reached = reached; live = live }

  reached_lasts : (volume : Parameter) (state : PlaybackState) (fade : Parameter) (live : Bool) → reached_steady (less d h) (waited_track d (track_of volume state fade true live)) ≡ reached_steady h (track_of volume state fade true live)
  unfolding reached_steady waited_track
  reached_lasts volume state fade live =
      four (state_lasts state) (ap (beq live) (waited_advances d state)) (parameter_lasts h.waits volume)
      (ap (λ (x : Bool). parameter_steady (ahead (h.waits && x) (h.nanos - d) h.ends) (waited_parameter d fade)) (pausing_lasts state) ∙ parameter_lasts (h.waits && is_pausing state) fade)

  track_lasts : (t : Track) (reached : Bool) → steady_where (less d h) (waited_track d t) reached ≡ steady_where h t reached
  unfolding steady_where
  track_lasts t reached = go t.reached reached
    where
      at : Bool → Track
      at b = track_of t.volume t.playback.state t.playback.volume_fade b t.live

      go : (b c : Bool) → (beq (waited_track d (at b)).reached c && cond c (reached_steady (less d h) (waited_track d (at b))) (not (waited_track d (at b)).live)) ≡ (beq b c && cond c (reached_steady h (at b)) (not t.live))
      go true true = unfold waited_track in reached_lasts t.volume t.playback.state t.playback.volume_fade t.live
      go true false = unfold waited_track in refl
      go false true = unfold waited_track in refl
      go false false = unfold waited_track in refl

  route_lasts : (p : Parameter) (reached : Bool) → route_steady (less d h) (waited_where reached d p) reached ≡ route_steady h p reached
  unfolding route_steady
  route_lasts p true = parameter_lasts h.waits p
  route_lasts p false = refl

  module _ (s : Scene) (ok : SceneOk s) (c : ℕ) (m : Mixer) (within : MixerOk s c m) where
    abbrev n : ℕ
    n = s.track_count

    live_lasts : (line : ℕ) → live_above (waited_tracks d n m.tracks) line ≡ live_above m.tracks line
    unfolding live_above
    live_lasts line = ap (λ (b : Bool). cond (eqb line 0) true b) (waited_live d n m.tracks (line - 1))

    track_row : (t : ℕ) → t < n → state_of (waited_tracks d n m.tracks) t ≡ waited_track d (state_of m.tracks t)
    unfolding waited_tracks
    track_row t b = changed_below (λ t x. waited_track d x) n m.tracks t absent_track b (le_trans b (le_trans ok.track_count (le_of_eq (sym within.track_places))))

    send_row : (i : ℕ) → i < s.send_count → parameter_of (waited_sends d s.send_count m.sends) i ≡ waited_parameter d (parameter_of m.sends i)
    unfolding waited_sends
    send_row i b = changed_below (λ i p. waited_parameter d p) s.send_count m.sends i absent_parameter b (le_trans b (le_trans ok.send_count (le_of_eq (sym within.send_places))))

    route_row : (r : ℕ) → r < s.route_count → parameter_of (waited_routes d s m.tracks m.routes) r ≡ waited_where (route_reached s m.tracks r) d (parameter_of m.routes r)
    unfolding waited_routes
    route_row r b = changed_below (λ r p. waited_where (route_reached s m.tracks r) d p) s.route_count m.routes r absent_parameter b (le_trans b (le_trans ok.route_count (le_of_eq (sym within.route_places))))

    pub steady_lasts : mixer_steady (less d h) s (waited d s m) ≡ mixer_steady h s m
    unfolding mixer_steady waited steady_send steady_track steady_route
    steady_lasts =
        four (parameter_lasts h.waits m.main_volume)
        (every_same s.send_count (steady_send (less d h) (waited_sends d s.send_count m.sends)) (steady_send h m.sends) (λ i b. ap (parameter_steady (less d h)) (send_row i b) ∙ parameter_lasts h.waits (parameter_of m.sends i)))
        (every_same n (steady_track (less d h) s.tracks (waited_tracks d n m.tracks)) (steady_track h s.tracks m.tracks) (λ t b. ap₂ (steady_where (less d h)) (track_row t b) (live_lasts (get_or s.tracks t absent_track_line).parent) ∙ track_lasts (state_of m.tracks t) (live_above m.tracks (get_or s.tracks t absent_track_line).parent)))
        (every_same s.route_count (steady_route (less d h) s.routes (waited_tracks d n m.tracks) (waited_routes d s m.tracks m.routes)) (steady_route h s.routes m.tracks m.routes) (λ r b. ap₂ (route_steady (less d h)) (route_row r b) (waited_reached d n m.tracks ((get_or s.routes r absent_route_line).track - 1)) ∙ route_lasts (parameter_of m.routes r) (route_reached s m.tracks r)))

-- ---- where nothing may wait

module _ (nanos : ℕ) (ends : List ℕ) (d : ℕ) where
  abbrev none : Ahead
  none = ahead false nanos ends

  abbrev by : ParameterState → Parameter → Bool → Parameter
  by state p stagnant = record { state = state; raw_value = p.raw_value; previous_raw_value = p.previous_raw_value; stagnant = stagnant }

  parameter_rests : (moves : Bool) (p : Parameter) → (moves ≡ true → parameter_steady none p ≡ true) → waited_where moves d p ≡ p
  unfolding parameter_steady waited_where
  parameter_rests moves p e = go p.stagnant moves (λ q. and_right (same_level p.previous_raw_value p.raw_value) _ (e q))
    where
      go : (b c : Bool) → (c ≡ true → cond b true false ≡ true) → by (cond b p.state (cond c (waited_motion d p.state) p.state)) p b ≡ by p.state p b
      go true c q = refl
      go false true q = absurd (false≢true (q refl))
      go false false q = refl

  state_rests : (state : PlaybackState) → state_steady none state ≡ true → waited_state d state ≡ state
  unfolding state_steady waited_state
  state_rests Playing e = refl
  state_rests Pausing e = refl
  state_rests Paused e = refl
  state_rests (WaitingToResume start tween) e = absurd (false≢true e)
  state_rests Resuming e = refl
  state_rests Stopping e = refl
  state_rests Stopped e = refl

  either_rests : (b : Bool) (state : PlaybackState) → (b ≡ true → state_steady none state ≡ true) → cond b (waited_state d state) state ≡ state
  either_rests true state e = state_rests state (e refl)
  either_rests false state e = refl

  reached_rests : (t : Track) → (t.reached ≡ true → reached_steady none t ≡ true) → waited_track d t ≡ t
  unfolding reached_steady
  reached_rests t e =
      let state = t.playback.state in
      let flag = beq t.live (is_advancing state) in
      let volume = parameter_steady none t.volume in
      let fade = parameter_steady none t.playback.volume_fade in
      track_same d t
      (parameter_rests t.reached t.volume (λ r. and_left volume fade (and_right flag (volume && fade) (and_right (state_steady none state) (flag && (volume && fade)) (e r)))))
      (either_rests t.reached state (λ r. and_left (state_steady none state) (flag && (volume && fade)) (e r)))
      (parameter_rests t.reached t.playback.volume_fade (λ r. and_right volume fade (and_right flag (volume && fade) (and_right (state_steady none state) (flag && (volume && fade)) (e r)))))

  track_rests : (t : Track) (reached : Bool) → steady_where none t reached ≡ true → waited_track d t ≡ t
  unfolding steady_where
  track_rests t reached e = reached_rests t (λ r. go reached e (sym r ∙ same_flag t.reached reached (and_left (beq t.reached reached) _ e)))
    where
      go : (b : Bool) → (beq t.reached b && cond b (reached_steady none t) (not t.live)) ≡ true → true ≡ b → reached_steady none t ≡ true
      go true q same = and_right (beq t.reached true) (reached_steady none t) q
      go false q same = absurd (false≢true (sym same))

  route_rests : (p : Parameter) (reached : Bool) → route_steady none p reached ≡ true → waited_where reached d p ≡ p
  unfolding route_steady
  route_rests p true e = parameter_rests true p (λ q. e)
  route_rests p false e = parameter_rests false p (λ q. absurd (false≢true q))

  pub waited_rests : (s : Scene) (m : Mixer) → mixer_steady none s m ≡ true → waited d s m ≡ m
  unfolding mixer_steady steady_send steady_track steady_route waited_tracks waited_sends waited_routes
  waited_rests s m e =
      let main = parameter_steady none m.main_volume in
      let sends = every s.send_count (steady_send none m.sends) in
      let tracks = every s.track_count (steady_track none s.tracks m.tracks) in
      let routes = every s.route_count (steady_route none s.routes m.tracks m.routes) in
      let e₁ = and_right main (sends && (tracks && routes)) e in
      let e₂ = and_right sends (tracks && routes) e₁ in
      parts_kept d s m (parameter_rests true m.main_volume (λ q. and_left main (sends && (tracks && routes)) e))
      (changed_still (λ t x. waited_track d x) s.track_count m.tracks absent_track (λ t b. track_rests (state_of m.tracks t) (live_above m.tracks (get_or s.tracks t absent_track_line).parent) (every_at s.track_count (steady_track none s.tracks m.tracks) t b (and_left tracks routes e₂))))
      (changed_still (λ i p. waited_parameter d p) s.send_count m.sends absent_parameter (λ i b. parameter_rests true (parameter_of m.sends i) (λ q. every_at s.send_count (steady_send none m.sends) i b (and_left sends (tracks && routes) e₁))))
      (changed_still (λ r p. waited_where (route_reached s m.tracks r) d p) s.route_count m.routes absent_parameter (λ r b. route_rests (parameter_of m.routes r) (route_reached s m.tracks r) (every_at s.route_count (steady_route none s.routes m.tracks m.routes) r b (and_right tracks routes e₂))))
