-- A chunk of a block and the next one's mixer: what was not reached stands still. Assumes nothing.
use Rattle.std.proofs.Common.{◌≡◌, ℕ, zero, suc, ◌-◌, ◌<◌, ◌≤◌, List, [], ◌∷◌, ◌⊎◌, inl, inr, Bool, true, false, get_or, set, refl, sym, ap, ◌∙◌, subst, arith}
use mathlib.Core.Bool.{true≢false}
use lib.Ieee.{Float}
use Rattle.laws.specs.Loop.{changed}
use Rattle.laws.proofs.laws.Choice.{cond-false}
use Rattle.laws.proofs.laws.FloatRound.{below_or_not}
use Rattle.laws.proofs.laws.Loop.{upto_holds}
use Rattle.laws.proofs.laws.Sets.{set_line}
use Rattle.clock.specs.declared.when_to_start.Clocks.{Clocks}
use Rattle.clock.specs.WhenToStart.{clocks_updated}
use Rattle.scene.specs.declared.scene.Scene.{Scene}
use Rattle.scene.specs.declared.scene.TrackLine.{TrackLine}
use Rattle.scene.specs.declared.scene.RouteLine.{RouteLine}
use Rattle.accepted.specs.Lines.{absent_track_line, absent_route_line}
use Rattle.chunk.specs.declared.chunk.Chunk.{Chunk}
use Rattle.parameter.specs.declared.parameter.Parameter.{Parameter}
use Rattle.parameter.specs.Parameter.{parameter_update}
use Rattle.mixer.specs.declared.sub.Track.{Track}
use Rattle.mixer.specs.declared.mixer.Mixer.{Mixer}
use Rattle.mixer.specs.Sub.{track_moved, track_still, track_update}
use Rattle.mixer.specs.Mixer.{absent_track, absent_parameter, state_of, parameter_of, live_above, track_step, tracks_update, updated_where, route_update, routes_update, mixer_update}
use Rattle.mixer.specs.Sounds.{sounds_played}
use Rattle.mixer_chunk.specs.ChunkOf.{chunk_of, chunk_played}
use Rattle.mixer_chunk.specs.Follows.{Kept, Follows}

-- ---- a track

-- what a store at a place leaves there, past the list's end too
stored : {A : Type 0} (l : List A) (i : ℕ) (x d : A) → (get_or (set l i x) i d ≡ x) ⊎ ((get_or (set l i x) i d ≡ d) × (get_or l i d ≡ d))
stored [] i x d = inr (refl, refl)
stored (y ∷ l) zero x d = inl refl
stored (y ∷ l) (suc i) x d = stored l i x d

-- a track that stands still if it was not reached
abbrev StillFrom : Track → Track → Type 0
StillFrom old new = new.reached ≡ false → new ≡ track_still old

module _ (dt : Float) (clocks : Clocks) where
  update_still : (t : Track) (reached : Bool) → StillFrom t (track_update t reached dt clocks)
  unfolding track_update track_moved
  update_still t true e = absurd (true≢false e)
  update_still t false e = refl

  module _ (lines : List TrackLine) (t : ℕ) (l : List Track) where
    -- before turn i
    record Turns (i : ℕ) (x : List Track) : Type 0 where
      before : i ≤ t → state_of x t ≡ state_of l t
      after : t < i → StillFrom (state_of l t) (state_of x t)

    turned : (x : List Track) → state_of x t ≡ state_of l t → StillFrom (state_of l t) (state_of (track_step lines dt clocks t x) t)
    unfolding track_step track_still
    turned x e =
        let above = live_above x (get_or lines t absent_track_line).parent in
        let y = track_update (state_of x t) above dt clocks in
        let P : Track → Type 0 = StillFrom (state_of l t) in
        elim (stored x t y absent_track) [
          | inl p ↦ subst P (sym p) (subst (λ (z : Track). StillFrom z y) e (update_still (state_of x t) above))
          | inr p ↦ (λ h. p.0 ∙ ap track_still (sym p.1 ∙ e))
        ]

    turn : (i : ℕ) → (x : List Track) → Turns i x → Turns (suc i) (track_step lines dt clocks i x)
    unfolding track_step
    turn i x r =
        let y = track_update (state_of x i) (live_above x (get_or lines i absent_track_line).parent) dt clocks in
        record {
          before = λ h. set_line (λ (z : Track). z ≡ state_of l t) x i t y absent_track (r.before (omega arith)) (λ e. absurd (omega arith));
          after = λ h. elim (below_or_not t i) [
            | inl b ↦ set_line (StillFrom (state_of l t)) x i t y absent_track (r.after b) (λ e. absurd (omega arith))
            | inr b ↦ (let same : t ≡ i = omega arith in subst (λ (k : ℕ). StillFrom (state_of l t) (state_of (track_step lines dt clocks k x) t)) same (turned x (r.before b)))
          ];
        }

    tracks_still : (n : ℕ) → t < n → StillFrom (state_of l t) (state_of (tracks_update lines n dt clocks l) t)
    unfolding tracks_update
    tracks_still n b = (upto_holds Turns (track_step lines dt clocks) n l (record { before = λ h. refl; after = λ h. absurd (omega arith) }) (λ i h x r. turn i x r)).after b

-- ---- a route

-- a line that its change leaves
changed_stays : {A : Type 0} (f : ℕ → A → A) (n : ℕ) (l : List A) (r : ℕ) (d : A) → f r (get_or l r d) ≡ get_or l r d → get_or (changed f n l) r d ≡ get_or l r d
unfolding changed
changed_stays f zero l r d h = refl
changed_stays f (suc n) [] r d h = refl
changed_stays f (suc n) (x ∷ l) zero d h = h
changed_stays f (suc n) (x ∷ l) (suc r) d h = changed_stays (λ j. f (suc j)) n l r d h

routes_still : (lines : List RouteLine) (n : ℕ) (dt : Float) (clocks : Clocks) (tracks : List Track) (routes : List Parameter) (r : ℕ) → (state_of tracks ((get_or lines r absent_route_line).track - 1)).reached ≡ false
    → parameter_of (routes_update lines n dt clocks tracks routes) r ≡ parameter_of routes r
unfolding routes_update route_update updated_where
routes_still lines n dt clocks tracks routes r e =
    changed_stays (route_update lines dt clocks tracks) n routes r absent_parameter
    (cond-false (state_of tracks ((get_or lines r absent_route_line).track - 1)).reached (parameter_update (parameter_of routes r) dt clocks).parameter (parameter_of routes r) e)

-- ---- the mixer

update_follows : (s : Scene) (dt : Float) (m : Mixer) (c : Chunk) → Kept s m c → Follows s c (mixer_update s dt m)
unfolding mixer_update
update_follows s dt m c kept =
    let clocks = clocks_updated m.clocks dt in
    record {
      before = m;
      kept = kept;
      tracks = λ t b. tracks_still dt clocks s.tracks t m.tracks s.track_count b;
      routes = λ r b. routes_still s.routes s.route_count dt clocks (tracks_update s.tracks s.track_count dt clocks m.tracks) m.routes r;
    }

pub moved_follows : (s : Scene) (dt : Float) (m : Mixer) (c : Chunk) {next : Mixer} → Kept s m c → next ≡ mixer_update s dt m → Follows s c next
moved_follows s dt m c kept e = subst (Follows s c) (sym e) (update_follows s dt m c kept)

-- once its sounds have played it, a chunk is kept
pub mixed_kept : (s : Scene) (n frames : ℕ) (m : Mixer) (c : Chunk) {next : Mixer} → c ≡ chunk_of s n m → next ≡ sounds_played s frames m → Kept s next c
unfolding chunk_played chunk_of sounds_played
mixed_kept s n frames m c e q k = rw (e, q) refl
