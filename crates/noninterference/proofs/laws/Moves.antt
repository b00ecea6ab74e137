-- A chunk moves a mixer and the mixer of what is left alike: what stands above a kept line is kept. Assumes nothing.
use mathlib.Core.Path.{◌≡◌, refl, sym, ap, ap₂, ◌∙◌, subst}
use mathlib.Core.Bool.{Bool, true, not, cond}
use mathlib.Core.List.{List}
use Prim.Native.Nat.{ℕ, zero, suc, ◌+◌, ◌-◌, ◌≤◌, ◌<◌}
use native.Mathlib.Omega.{arith}
use lib.Dec.{T, eqb, ltb, eqb-suc-zero}
use lib.ListN.{get_or}
use lib.Ieee.{Float}
use Rattle.recordings.specs.Recordings.{Recordings}
use Rattle.limits.specs.Limits.{route_lines, sound_lines, track_places}
use Rattle.laws.proofs.laws.Choice.{cond-false}
use Rattle.laws.specs.Loop.{upto, changed}
use Rattle.laws.specs.Kept.{rank}
use Rattle.laws.proofs.laws.Kept.{upto_kept}
use Rattle.clock.specs.declared.when_to_start.Clocks.{Clocks}
use Rattle.clock.specs.WhenToStart.{clocks_updated}
use Rattle.parameter.specs.declared.parameter.Parameter.{Parameter}
use Rattle.parameter.specs.Parameter.{parameter_update}
use Rattle.scene.specs.declared.scene.Scene.{Scene}
use Rattle.scene.specs.declared.scene.TrackLine.{TrackLine}
use Rattle.scene.specs.declared.scene.RouteLine.{RouteLine}
use Rattle.accepted.specs.Lines.{track_line, route_line, sound_line}
use Rattle.accepted.specs.SceneOk.{SceneOk}
use Rattle.mixer.specs.declared.sub.Track.{Track}
use Rattle.mixer.specs.declared.mixer.Mixer.{Mixer}
use Rattle.mixer.specs.Sub.{track_update}
use Rattle.mixer.specs.Mixer.{absent_parameter, state_of, parameter_of, live_above, track_step, tracks_update, updated_where, route_update, routes_update, sends_update, mixer_update, absent_track}
use Rattle.mixer.specs.Sounds.{played_more, played_after, played_on, sounds_played}
use Rattle.noninterference.specs.Removed.{new_line}
use Rattle.noninterference.proofs.laws.Lines.{kept_line, open_kept}
use Rattle.noninterference.proofs.laws.SceneLeft.{kept_route_line, kept_sound_line, SceneLeft}
use Rattle.noninterference.proofs.laws.Arrays.{ArrayLeft, line_of, set_kept, set_removed, changed_left}
use Rattle.noninterference.proofs.laws.State.{MixerLeft}

live-suc : (l : List Track) (p : ℕ) → live_above l (suc p) ≡ (state_of l p).live
unfolding live_above
live-suc l p = cond-false (eqb (suc p) 0) true (state_of l (suc p - 1)).live (eqb-suc-zero p) ∙ ap (λ (k : ℕ). (state_of l k).live) (line_of p)

module _ (keep : ℕ → Bool) (n : ℕ) {l l' : List Track} (r : ArrayLeft Track keep n track_places absent_track l l') where
  -- a kept track, named by its line
  pub state_left : (line : ℕ) → 1 ≤ line → line ≤ n → T (kept_line keep line) → state_of l' (new_line keep line - 1) ≡ state_of l (line - 1)
  unfolding new_line kept_line
  state_left zero a b t = absurd (omega arith)
  state_left (suc p) a b t = ap (state_of l') (line_of (rank keep p)) ∙ r.same p b t ∙ sym (ap (state_of l) (line_of p))

  pub live_left : (line : ℕ) → line ≤ n → T (kept_line keep line) → live_above l' (new_line keep line) ≡ live_above l line
  unfolding new_line kept_line
  live_left zero b t = unfold live_above in refl
  live_left (suc p) b t = live-suc l' (rank keep p) ∙ ap (λ (x : Track). x.live) (r.same p b t) ∙ sym (live-suc l p)

-- a chunk's move, by clocks that have moved
moved : Scene → Float → Clocks → Mixer → Mixer
moved s dt clocks m =
    let tracks = tracks_update s.tracks s.track_count dt clocks m.tracks in
    record {
      clocks = clocks;
      main_volume = (parameter_update m.main_volume dt clocks).parameter;
      tracks = tracks;
      sends = sends_update s.send_count dt clocks m.sends;
      routes = routes_update s.routes s.route_count dt clocks tracks m.routes;
      played = m.played;
    }

module _ {keep chosen quiet : ℕ → Bool} {s : Scene} {samples : Recordings} {e : Scene} {samples' : Recordings} (ok : SceneOk s) (w : SceneLeft keep chosen quiet s samples e samples') where
  abbrev TracksLeft : List Track → List Track → Type 0
  TracksLeft l l' = ArrayLeft Track keep s.track_count track_places absent_track l l'

  abbrev RoutesLeft : List Parameter → List Parameter → Type 0
  RoutesLeft l l' = ArrayLeft Parameter (kept_route_line keep s) s.route_count route_lines absent_parameter l l'

  -- ---- tracks

  module _ (dt : Float) (clocks : Clocks) where
    parent_kept : (t : ℕ) → t < s.track_count → T (keep t) → T (kept_line keep (track_line s t).parent)
    parent_kept t b k = open_kept keep chosen (track_line s t).parent (subst T (w.tree t b) k)

    parent_there : (t : ℕ) → t < s.track_count → (track_line s t).parent ≤ s.track_count
    parent_there t b = omega (arith, ok.parents t b)

    step_kept : (t : ℕ) → t < s.track_count → T (keep t) → (l l' : List Track) → TracksLeft l l' → TracksLeft (track_step s.tracks dt clocks t l) (track_step e.tracks dt clocks (rank keep t) l')
    unfolding track_step
    step_kept t b k l l' r =
        set_kept keep s.track_count track_places absent_track ok.track_count t b k
        (ap₂ (λ (x : Track) (a : Bool). track_update x a dt clocks) (r.same t b k)
        (ap (λ (x : TrackLine). live_above l' x.parent) (w.tracks t b k) ∙ live_left keep s.track_count r (track_line s t).parent (parent_there t b) (parent_kept t b k)))
        r

    step_removed : (t : ℕ) → T (not (keep t)) → (l l' : List Track) → TracksLeft l l' → TracksLeft (track_step s.tracks dt clocks t l) l'
    unfolding track_step
    step_removed t k l l' r =
        set_removed keep s.track_count track_places absent_track ok.track_count t k (track_update (state_of l t) (live_above l (track_line s t).parent) dt clocks) r

    tracks_left : {l l' : List Track} → TracksLeft l l' → TracksLeft (tracks_update s.tracks s.track_count dt clocks l) (tracks_update e.tracks e.track_count dt clocks l')
    unfolding tracks_update
    tracks_left {l} {l'} r =
        let f = track_step s.tracks dt clocks in
        let g = track_step e.tracks dt clocks in
        subst (λ (n : ℕ). TracksLeft (upto f s.track_count l) (upto g n l')) (sym w.track_count)
        (upto_kept (λ t. TracksLeft) keep f g s.track_count l l' (λ t b k x y. step_kept t b k x y) (λ t b k x y. step_removed t k x y) r)

    -- ---- routes

    route_moves : {l l' : List Track} → TracksLeft l l' → (r : ℕ) → r < s.route_count → T (kept_route_line keep s r) → (p p' : Parameter) → p' ≡ p
        → route_update e.routes dt clocks l' (rank (kept_route_line keep s) r) p' ≡ route_update s.routes dt clocks l r p
    unfolding route_update
    route_moves {l} {l'} h r b k p p' q =
        let line = (route_line s r).track in
        let there = (ok.routes r b).track in
        ap₂ (λ (x : Parameter) (a : Bool). updated_where x a dt clocks) q
        (ap (λ (x : RouteLine). (state_of l' (x.track - 1)).reached) (w.routes r b k)
        ∙ ap (λ (x : Track). x.reached) (state_left keep s.track_count h line there.0 there.1 k))

  -- ---- the mixer

  module _ {m m' : Mixer} (h : MixerLeft keep chosen s m m') where
    moved_left : (dt : Float) (clocks : Clocks) → MixerLeft keep chosen s (moved s dt clocks m) (moved e dt clocks m')
    unfolding moved sends_update routes_update
    moved_left dt clocks =
        let l = tracks_update s.tracks s.track_count dt clocks m.tracks in
        let l' = tracks_update e.tracks e.track_count dt clocks m'.tracks in
        let tracks = tracks_left dt clocks h.tracks in
        record {
          clocks = refl;
          main = ap (λ (p : Parameter). (parameter_update p dt clocks).parameter) h.main;
          sends = ap₂ (λ (n : ℕ) (p : List Parameter). sends_update n dt clocks p) w.send_count h.sends;
          tracks = tracks;
          routes = subst
              (λ (n : ℕ). RoutesLeft (changed (route_update s.routes dt clocks l) s.route_count m.routes) (changed (route_update e.routes dt clocks l') n m'.routes))
              (sym w.route_count)
              (changed_left (kept_route_line keep s) s.route_count route_lines absent_parameter ok.route_count m.routes m'.routes (route_update s.routes dt clocks l)
              (route_update e.routes dt clocks l') h.routes.places h.routes.places'
              (λ r b k. route_moves dt clocks tracks r b k (parameter_of m.routes r) (parameter_of m'.routes (rank (kept_route_line keep s) r)) (h.routes.same r b k)));
          played = h.played;
        }

    pub update_left : (dt : Float) → MixerLeft keep chosen s (mixer_update s dt m) (mixer_update e dt m')
    unfolding mixer_update moved
    update_left dt =
        let clocks = clocks_updated m.clocks dt in
        subst (λ (x : Clocks). MixerLeft keep chosen s (moved s dt clocks m) (moved e dt (clocks_updated x dt) m')) (sym h.clocks) (moved_left dt clocks)

    -- ---- sounds

    sound_plays : (n k : ℕ) → k < s.sound_count → T (kept_sound_line keep chosen s k) → (done done' : ℕ) → done' ≡ done
        → played_after m'.tracks (sound_line e (rank (kept_sound_line keep chosen s) k)) n done' ≡ played_after m.tracks (sound_line s k) n done
    unfolding played_after played_more
    sound_plays n k b t done done' q =
        let row = sound_line e (rank (kept_sound_line keep chosen s) k) in
        ap (λ (x : ℕ). played_after m'.tracks row n x) q
        ∙ ap₂ (λ (a : Bool) (c : ℕ). cond a (cond (ltb (c - done) n) c (done + n)) done)
        (ap (live_above m'.tracks) (w.sound_tracks k b t)
        ∙ live_left keep s.track_count h.tracks (sound_line s k).track (ok.sounds k b) (open_kept keep chosen (sound_line s k).track t))
        (w.sound_counts k b t)

    pub played_left : (n : ℕ) → MixerLeft keep chosen s (sounds_played s n m) (sounds_played e n m')
    unfolding sounds_played played_on
    played_left n =
        let f : ℕ → ℕ → ℕ = λ k done. played_after m.tracks (sound_line s k) n done in
        let g : ℕ → ℕ → ℕ = λ k done. played_after m'.tracks (sound_line e k) n done in
        record {
          clocks = h.clocks;
          main = h.main;
          sends = h.sends;
          tracks = h.tracks;
          routes = h.routes;
          played = subst
              (λ (c : ℕ). ArrayLeft ℕ (kept_sound_line keep chosen s) s.sound_count sound_lines 0 (changed f s.sound_count m.played) (changed g c m'.played))
              (sym w.sound_count)
              (changed_left (kept_sound_line keep chosen s) s.sound_count sound_lines 0 ok.sound_count m.played m'.played f g h.played.places h.played.places'
              (λ k b t. sound_plays n k b t (get_or m.played k 0) (get_or m'.played (rank (kept_sound_line keep chosen s) k) 0) (h.played.same k b t)));
        }
