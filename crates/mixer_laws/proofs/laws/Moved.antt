-- A chunk: clocks count on, values move within their ranges, and sounds play no further than they are long. Assumes nothing.
use mathlib.Core.Path.{◌≡◌, refl, sym, subst}
use mathlib.Core.Bool.{Bool, true, false, cond}
use mathlib.Core.List.{List}
use Prim.Native.Nat.{ℕ, suc, ◌+◌, ◌-◌, ◌*◌, ◌^◌, ◌≤◌, ◌<◌}
use native.Mathlib.Nat.{le_refl}
use native.Mathlib.Omega.{arith}
use lib.Dec.{T, ltb}
use lib.ListN.{get_or}
use lib.Ieee.{Float}
use borrow.Author.Tests.{ltb-false}
use Rattle.limits.specs.Limits.{send_lines, route_lines}
use Rattle.laws.proofs.laws.Loop.{upto_holds}
use Rattle.laws.proofs.laws.Unsigned.{unsigned}
use Rattle.clock.specs.declared.when_to_start.Clocks.{Clocks}
use Rattle.clock.specs.Clock.{IsStep}
use Rattle.clock.specs.WhenToStart.{clocks_updated, ClocksWithin, CanMoveAll}
use Rattle.clock.proofs.laws.ClocksMove.{clocks_within, clocks_can_move}
use Rattle.parameter.specs.declared.parameter.Parameter.{Parameter}
use Rattle.parameter.specs.Parameter.{parameter_update}
use Rattle.parameter.specs.Range.{ParameterIn, value_range}
use Rattle.parameter.proofs.laws.Parameter.{update_in, value_kept}
use Rattle.playback.proofs.laws.PlaybackStateManager.{update_runs}
use Rattle.scene.specs.declared.scene.Scene.{Scene}
use Rattle.scene.specs.declared.scene.TrackLine.{TrackLine}
use Rattle.scene.specs.declared.scene.RouteLine.{RouteLine}
use Rattle.scene.specs.declared.scene.SoundLine.{SoundLine}
use Rattle.accepted.specs.Lines.{sound_line, absent_track_line, absent_route_line}
use Rattle.accepted.specs.SceneOk.{SceneOk}
use Rattle.mixer.specs.declared.sub.Track.{Track}
use Rattle.mixer.specs.declared.mixer.Mixer.{Mixer}
use Rattle.mixer.specs.Sub.{track_moved, track_still, track_update}
use Rattle.mixer.specs.Mixer.{state_of, parameter_of, live_above, track_step, tracks_update, updated_where, route_update, routes_update, sends_update, mixer_update}
use Rattle.mixer.specs.Sounds.{played_more, played_after, played_on, sounds_played}
use Rattle.mixer.specs.MixerOk.{TrackOk, MixerOk}
use Rattle.mixer_laws.proofs.laws.Arrays.{set_array, changed_array}
use Rattle.mixer_laws.proofs.laws.States.{TracksOk, ParametersOk, tracks_of, sends_of, routes_of, played_of, mixer_ok}

-- ---- the states

module _ (dt : Float) (clocks : Clocks) (positive : T (unsigned dt)) where
  track_update_ok : (t : Track) (reached : Bool) → TrackOk clocks.count t → TrackOk clocks.count (track_update t reached dt clocks)
  unfolding track_update track_moved track_still
  track_update_ok t true h = record { volume = update_in value_range value_kept t.volume dt clocks positive h.volume; playback = update_runs t.playback dt clocks positive h.playback }
  track_update_ok t false h = record { volume = h.volume; playback = h.playback }

  updated_where_in : (p : Parameter) (moves : Bool) → ParameterIn value_range p → ParameterIn value_range (updated_where p moves dt clocks)
  unfolding updated_where
  updated_where_in p true h = update_in value_range value_kept p dt clocks positive h
  updated_where_in p false h = h

  tracks_update_ok : (lines : List TrackLine) (n : ℕ) (l : List Track) → TracksOk clocks.count n l → TracksOk clocks.count n (tracks_update lines n dt clocks l)
  unfolding tracks_update track_step
  tracks_update_ok lines n l h = upto_holds (λ i x. TracksOk clocks.count n x) (track_step lines dt clocks) n l h step
    where
      step : (i : ℕ) → i < n → (x : List Track) → TracksOk clocks.count n x → TracksOk clocks.count n (track_step lines dt clocks i x)
      step i b x k =
          let above = live_above x (get_or lines i absent_track_line).parent in
          set_array x i (track_update (state_of x i) above dt clocks) k (λ c. track_update_ok (state_of x i) above (k.each i c))

  sends_update_ok : (n size : ℕ) (l : List Parameter) → n ≤ size → ParametersOk n size l → ParametersOk n size (sends_update n dt clocks l)
  unfolding sends_update
  sends_update_ok n size l room h = changed_array l (λ i p. (parameter_update p dt clocks).parameter) room h.places (λ i b. update_in value_range value_kept (parameter_of l i) dt clocks positive (h.each i b))

  routes_update_ok : (lines : List RouteLine) (n size : ℕ) (tracks : List Track) (l : List Parameter) → n ≤ size → ParametersOk n size l → ParametersOk n size (routes_update lines n dt clocks tracks l)
  unfolding routes_update route_update
  routes_update_ok lines n size tracks l room h =
      changed_array l (route_update lines dt clocks tracks) room h.places (λ r b. updated_where_in (parameter_of l r) (state_of tracks ((get_or lines r absent_route_line).track - 1)).reached (h.each r b))

-- ---- the mixer

next_chunk : (c : ℕ) → c * 1001 + 1001 ≡ suc c * 1001
next_chunk c = omega arith

pub update_ok : (s : Scene) (c : ℕ) (dt : Float) (m : Mixer) → SceneOk s → MixerOk s c m → IsStep dt → T (unsigned dt) → MixerOk s (suc c) (mixer_update s dt m)
unfolding mixer_update clocks_updated
update_ok s c dt m ok h step positive =
    let clocks = clocks_updated m.clocks dt in
    let tracks = tracks_update s.tracks s.track_count dt clocks m.tracks in
    let before : TracksOk clocks.count s.track_count m.tracks = subst (λ (n : ℕ). TracksOk n s.track_count m.tracks) (sym h.clock_count) (tracks_of s c m h) in
    mixer_ok s (suc c) (mixer_update s dt m) h.clock_count (subst (λ (n : ℕ). ClocksWithin n clocks) (next_chunk c) (clocks_within (c * 1001) m.clocks dt h.clocks step))
    (update_in value_range value_kept m.main_volume dt clocks positive h.main)
    (subst (λ (n : ℕ). TracksOk n s.track_count tracks) h.clock_count (tracks_update_ok dt clocks positive s.tracks s.track_count m.tracks before))
    (sends_update_ok dt clocks positive s.send_count send_lines m.sends ok.send_count (sends_of s c m h))
    (routes_update_ok dt clocks positive s.routes s.route_count route_lines tracks m.routes ok.route_count (routes_of s c m h)) (played_of s c m h)

pub can_move : (s : Scene) (c : ℕ) (dt : Float) (m : Mixer) → MixerOk s c m → c ≤ 2 ^ 20 → IsStep dt → CanMoveAll m.clocks dt
can_move s c dt m h few step = clocks_can_move c m.clocks dt few h.clocks step

-- ---- sounds

played_more_lem : (line : SoundLine) (n done : ℕ) → done ≤ line.count → played_more line n done ≤ line.count
unfolding played_more
played_more_lem line n done h = go line.count (ltb (line.count - done) n) refl h
  where
    go : (count : ℕ) (b : Bool) → ltb (count - done) n ≡ b → done ≤ count → cond b count (done + n) ≤ count
    go count true e k = le_refl count
    go count false e k = let more = ltb-false (count - done) n e in omega arith

played_after_lem : (tracks : List Track) (line : SoundLine) (n done : ℕ) → done ≤ line.count → played_after tracks line n done ≤ line.count
unfolding played_after
played_after_lem tracks line n done h = go (live_above tracks line.track)
  where
    go : (b : Bool) → cond b (played_more line n done) done ≤ line.count
    go true = played_more_lem line n done h
    go false = h

pub played_ok : (s : Scene) (c n : ℕ) (m : Mixer) → SceneOk s → MixerOk s c m → MixerOk s c (sounds_played s n m)
unfolding sounds_played played_on
played_ok s c n m ok h =
    mixer_ok s c (sounds_played s n m) h.clock_count h.clocks h.main (tracks_of s c m h) (sends_of s c m h) (routes_of s c m h)
    (changed_array m.played (λ k done. played_after m.tracks (sound_line s k) n done) ok.sound_count h.sound_places
    (λ k b. played_after_lem m.tracks (sound_line s k) n (get_or m.played k 0) (h.played k b)))
