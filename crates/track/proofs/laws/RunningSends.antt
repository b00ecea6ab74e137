-- The inputs of the send tracks are running sums: they are cleared first, and what a track adds fits f32. Assumes nothing.
use mathlib.Core.Path.{◌≡◌, sym, ap, ◌∙◌, subst}
use mathlib.Core.Bool.{cond, ◌&&◌}
use mathlib.Core.List.{List}
use Prim.Native.Nat.{ℕ, zero, suc, ◌-◌, ◌≤◌}
use native.Mathlib.Nat.{le_trans}
use native.Mathlib.Omega.{arith}
use lib.Dec.{eqb}
use lib.ListN.{length}
use lib.Ieee.{Float}
use Rattle.recordings.specs.Recordings.{Recordings}
use Rattle.limits.specs.Limits.{send_lines, chunk_frames_most}
use Rattle.laws.proofs.laws.Loop.{upto_holds, downto_holds}
use Rattle.frame.specs.declared.frame.Frame.{Frame}
use Rattle.frame.specs.Frame.{added, scaled}
use Rattle.frame.specs.Layout.{frame_at}
use Rattle.frame.specs.Running.{Both, Running}
use Rattle.chunk.specs.declared.chunk.Chunk.{Chunk}
use Rattle.chunk.specs.Chunk.{track_row, route_row}
use Rattle.send_track.specs.Send.{send_places, send_layout, on_sends, cleared_sends, SendsRunning}
use Rattle.track.specs.Sub.{over_sub_tracks, track_frame, with_routes, with_track_sends}
use Rattle.track.proofs.laws.Running.{running_zero, running_added, scaled_fits, picked_if}
use Rattle.send_track.proofs.laws.Send.{on_sends_at, cleared_at}

module _ (c : Chunk) (samples : Recordings) where
  routes_running : (line s : ℕ) (frame a : Frame) → Both Running a → Both Running (with_routes c line s frame a)
  unfolding with_routes
  routes_running line s frame a run =
      upto_holds (λ r x. Both Running x) (λ r x. cond (eqb (route_row c r).track line && eqb (route_row c r).send s) (added x (scaled frame (route_row c r).amplitude)) x) c.route_count a run
      (λ r h x q. picked_if (Both Running) (eqb (route_row c r).track line && eqb (route_row c r).send s) (added x (scaled frame (route_row c r).amplitude)) x
      (λ t. running_added q (scaled_fits frame (route_row c r).amplitude)) q)

  over_running : (line : ℕ) (step : ℕ → Frame → Frame) (a : Frame) → ((j : ℕ) (x : Frame) → Both Running x → Both Running (step (suc j) x)) → Both Running a → Both Running (over_sub_tracks c line step a)
  unfolding over_sub_tracks
  over_running line step a h run =
      downto_holds (λ j x. Both Running x) (λ j x. cond (eqb (track_row c j).parent line) (step (suc j) x) x) c.track_count a run
      (λ j l x q. picked_if (Both Running) (eqb (track_row c j).parent line) (step (suc j) x) x (λ t. h j x q) q)

  track_running : (d line s i : ℕ) (a : Frame) → Both Running a → Both Running (with_track_sends d c samples line s i a)
  unfolding with_track_sends
  track_running zero line s i a run = run
  track_running (suc d) line s i a run =
      let step : ℕ → Frame → Frame = λ below x. with_track_sends d c samples below s i x in
      let frame : Frame = track_frame (suc d) c samples line i in
      picked_if (Both Running) (track_row c (line - 1)).advancing (with_routes c line s frame (over_sub_tracks c line step a)) a
      (λ t. routes_running line s frame (over_sub_tracks c line step a) (over_running line step a (λ j x q. track_running d (suc j) s i x q) run))
      run

  module _ (l : List Float) {last : List Float} (short : c.frames ≤ chunk_frames_most) (few : c.send_count ≤ send_lines) (whole : length l ≡ send_places) where
    pub sends_cleared : last ≡ cleared_sends c.frames c.send_count l → SendsRunning c last
    sends_cleared e s i h p =
        subst (Both Running)
        (sym (ap (λ (r : List Float). frame_at (send_layout s c.frames) r i) e ∙ cleared_at c.frames short c.send_count s i l h few p (omega (arith, whole))))
        running_zero

    pub sends_running : (d line : ℕ) → SendsRunning c l → last ≡ on_sends c.frames (with_track_sends d c samples line) l → SendsRunning c last
    sends_running d line run e s i h p =
        subst (Both Running)
        (sym (ap (λ (r : List Float). frame_at (send_layout s c.frames) r i) e ∙ on_sends_at c.frames short (with_track_sends d c samples line) s i l (le_trans h few) p (omega (arith, whole))))
        (track_running d line (suc s) i (frame_at (send_layout s c.frames) l i) (run s i h p))
