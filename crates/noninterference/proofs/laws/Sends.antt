-- The tracks kept add the same to a send track. A chosen track's own routes add zeros, and the tracks inside it add nothing: they are quiet, or
-- are not asked. Assumes nothing.
use mathlib.Core.Path.{◌≡◌, refl, sym, ap, ◌∙◌, subst}
use mathlib.Core.Logic.{inl, inr}
use mathlib.Core.Bool.{Bool, true, false, cond, not, ◌&&◌, true≢false}
use Prim.Native.Nat.{ℕ, zero, suc, ◌≤◌, ◌<◌}
use native.Mathlib.Omega.{arith}
use lib.Dec.{T, eqb, eqb→eq}
use lib.Ieee.Fits.{and_l}
use Rattle.recordings.specs.Recordings.{Recordings}
use Rattle.laws.specs.Loop.{upto}
use Rattle.laws.proofs.laws.Loop.{upto_holds}
use Rattle.laws.specs.Kept.{rank}
use Rattle.laws.proofs.laws.Kept.{kept_or_removed, upto_kept}
use Rattle.frame.specs.declared.frame.Frame.{Frame}
use Rattle.chunk.specs.declared.chunk.Chunk.{Chunk}
use Rattle.chunk.specs.declared.chunk.ChunkTrack.{ChunkTrack}
use Rattle.chunk.specs.declared.chunk.ChunkRoute.{ChunkRoute}
use Rattle.frame.specs.Frame.{added, scaled}
use Rattle.track.specs.Sub.{over_sub_tracks, track_frame, with_routes, with_track_sends}
use Rattle.noninterference.specs.Removed.{new_line}
use Rattle.noninterference.proofs.laws.Lines.{kept_line, kept_line-suc, open_suc, same_test, apart}
use Rattle.noninterference.proofs.laws.Chunk.{kept_route, Muted, Without}
use Rattle.track.proofs.laws.Running.{scaled_fits, picked_if}
use Rattle.noninterference.proofs.laws.Frames.{Alike, alike_scaled, Same, same_added, at_equal, turn_kept, turn_removed}
use Rattle.noninterference.proofs.laws.Parts.{sends_with, send_parts, sends_hold}
use Rattle.noninterference.proofs.laws.Below.{below_still, below_same, below_none}
use Rattle.noninterference.proofs.laws.Tracks.{track_alike}
use Rattle.chunk.specs.Chunk.{route_row, track_row}

-- ---- routes

-- a route's turn in the loop of a line
turn : ℕ → ℕ → Frame → ChunkRoute → Frame → Frame
turn line s frame r x = cond (eqb r.track line && eqb r.send s) (added x (scaled frame r.amplitude)) x

-- a line that no route names
routes_still : (c : Chunk) (line s : ℕ) (frame a : Frame) → ((r : ℕ) → r < c.route_count → (route_row c r).track ≡ line → ⊥) → with_routes c line s frame a ≡ a
unfolding with_routes turn
routes_still c line s frame a h =
    upto_holds (λ r x. x ≡ a) (λ r. turn line s frame (route_row c r)) c.route_count a refl
    (λ r l x e.
    let b = eqb (route_row c r).track line in
    let d = eqb (route_row c r).send s in
    picked_if (λ (y : Frame). y ≡ a) (b && d) (added x (scaled frame (route_row c r).amplitude)) x (λ t. absurd (h r l (eqb→eq (route_row c r).track line (and_l b d t)))) e)

module _ {keep chosen quiet : ℕ → Bool} {c : Chunk} {samples : Recordings} {c' : Chunk} {samples' : Recordings} (w : Without keep chosen quiet c samples c' samples') where
  turn_same : (line s : ℕ) {frame frame' : Frame} → T (kept_line keep line) → Alike frame frame' → (r : ℕ) → r < c.route_count → T (kept_route keep c r) → (x y : Frame) → Same x y
      → Same (turn line s frame (route_row c r) x) (turn (new_line keep line) s frame' (route_row c' (rank (kept_route keep c) r)) y)
  unfolding turn
  turn_same line s {frame} {frame'} t a r l k x y e =
      let row = route_row c r in
      subst (λ (z : ChunkRoute). Same (turn line s frame row x) (turn (new_line keep line) s frame' z y)) (sym (w.kept_routes r l k))
      (turn_kept Same (eqb row.track line && eqb row.send s) (eqb (new_line keep row.track) (new_line keep line) && eqb row.send s)
      (ap (λ (b : Bool). b && eqb row.send s) (same_test keep row.track line k t)) e
      (λ z. same_added e (scaled_fits frame row.amplitude) (alike_scaled row.amplitude (w.route_amplitude r l) a)))

  turn_still : (line s : ℕ) (frame : Frame) → T (kept_line keep line) → (r : ℕ) → T (not (kept_route keep c r)) → (x y : Frame) → Same x y → Same (turn line s frame (route_row c r) x) y
  unfolding turn
  turn_still line s frame t r k x y e =
      turn_removed Same (eqb (route_row c r).track line && eqb (route_row c r).send s) (added x (scaled frame (route_row c r).amplitude))
      (ap (λ (b : Bool). b && eqb (route_row c r).send s) (apart (kept_line keep) (route_row c r).track line k t)) e

  routes_same : (line s : ℕ) {frame frame' x y : Frame} → T (kept_line keep line) → Alike frame frame' → Same x y → Same (with_routes c line s frame x) (with_routes c' (new_line keep line) s frame' y)
  unfolding with_routes turn
  routes_same line s {frame} {frame'} {x} {y} t a e =
      subst (λ (n : ℕ). Same (upto (λ r. turn line s frame (route_row c r)) c.route_count x) (upto (λ r. turn (new_line keep line) s frame' (route_row c' r)) n y)) (sym w.route_count)
      (upto_kept (λ r. Same) (kept_route keep c) (λ r. turn line s frame (route_row c r)) (λ r. turn (new_line keep line) s frame' (route_row c' r)) c.route_count x y
      (λ r l k p q h. turn_same line s t a r l k p q h)
      (λ r l k p q h. turn_still line s frame t r k p q h)
      e)

-- ---- tracks

module _ {keep chosen quiet : ℕ → Bool} {c : Chunk} {samples : Recordings} {c' : Chunk} {samples' : Recordings} (w : Without keep chosen quiet c samples c' samples') (s i : ℕ) (inside : i < c.frames) where
  -- a quiet track adds nothing
  quiet_still : (d j : ℕ) → j < c.track_count → T (quiet j) → (a : Frame) → with_track_sends d c samples (suc j) s i a ≡ a
  quiet_still zero j l q a = unfold with_track_sends in refl
  quiet_still (suc d) j l q a =
      send_parts d c samples j s i a
      ∙ sends_hold (λ (y : Frame). y ≡ a) d c samples (suc j) s i (track_row c j) a
      (routes_still c (suc j) s (track_frame (suc d) c samples (suc j) i) (over_sub_tracks c (suc j) (λ below x. with_track_sends d c samples below s i x) a) (w.quiet_routes j l q)
      ∙ below_still c (suc j) (λ below x. with_track_sends d c samples below s i x) a (λ k m e. quiet_still d k m (w.quiet_below j l q k m e) a))
      refl

  -- what the tracks below track j add, with d levels of tracks
  abbrev BelowSame : ℕ → ℕ → Frame → Frame → Type 0
  BelowSame d j x y =
      Same (over_sub_tracks c (suc j) (λ below a. with_track_sends d c samples below s i a) x) (over_sub_tracks c' (new_line keep (suc j)) (λ below a. with_track_sends d c' samples' below s i a) y)

  -- inside a muted track: nothing on either side
  below_muted : (d j : ℕ) → T (keep j) → T (chosen j) → Muted quiet c j → (x y : Frame) → Same x y → BelowSame d j x y
  below_muted d j k t m x y r =
      at_equal Same
      (below_still c (suc j) (λ below a. with_track_sends d c samples below s i a) x (λ n l e. quiet_still d n l (m.below n l e) x))
      (below_none w j k t (λ below a. with_track_sends d c' samples' below s i a) y)
      r

  not_both : (b : Bool) → T b → b ≡ false → ⊥
  not_both true t e = absurd (true≢false e)
  not_both false t e = t

  kept_parts : (d j : ℕ) → j < c.track_count → T (keep j) → (y : Frame)
      → with_track_sends (suc d) c' samples' (suc (rank keep j)) s i y ≡ sends_with d c' samples' (new_line keep (suc j)) s i (track_row c j) y
  unfolding new_line sends_with
  kept_parts d j l k y =
      send_parts d c' samples' (rank keep j) s i y ∙ ap (λ (r : ChunkTrack). sends_with d c' samples' (suc (rank keep j)) s i r y) (w.kept_tracks j l k)

  track_turn : (d : ℕ) → suc d ≤ 4 → (j : ℕ) → j < c.track_count → T (keep j) → (x y : Frame) → Same x y → (T (track_row c j).advancing → BelowSame d j x y)
      → Same (sends_with d c samples (suc j) s i (track_row c j) x) (sends_with d c' samples' (new_line keep (suc j)) s i (track_row c j) y)
  unfolding new_line sends_with
  track_turn d h j l k x y r b =
      turn_kept Same (track_row c j).advancing (track_row c j).advancing refl r
      (λ t. routes_same w (suc j) s (kept_line-suc keep j k) (track_alike w i inside (suc d) h j l k) (b t))

  pub sends_same : (d : ℕ) → d ≤ 4 → (j : ℕ) → j < c.track_count → T (keep j) → (x y : Frame) → Same x y
      → Same (with_track_sends d c samples (suc j) s i x) (with_track_sends d c' samples' (suc (rank keep j)) s i y)
  sends_same zero h j l k x y r = unfold with_track_sends in r
  sends_same (suc d) h j l k x y r =
      at_equal Same (send_parts d c samples j s i x) (kept_parts d j l k y)
      (track_turn d h j l k x y r
      (λ t.
      elim (kept_or_removed (chosen j)) [
        | inl q ↦ elim (w.chosen_silent j l q) [ inl e ↦ absurd (not_both (track_row c j).advancing t e) | inr m ↦ below_muted d j k q m x y r ]
        | inr q ↦ below_same w (suc j) (open_suc keep chosen j k q) (λ below a. with_track_sends d c samples below s i a) (λ below a. with_track_sends d c' samples' below s i a)
            (sends_same d (omega arith)) x y r
      ]))
