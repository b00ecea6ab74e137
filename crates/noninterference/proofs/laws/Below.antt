-- The loop over the tracks right below a line: below a line that is kept and not chosen all are kept, below a chosen track none is. Assumes nothing.
use mathlib.Core.Path.{◌≡◌, refl, sym, ap, ◌∙◌, subst}
use mathlib.Core.Bool.{Bool, cond, not}
use Prim.Native.Nat.{ℕ, suc, ◌<◌}
use lib.Dec.{T, eqb, eqb→eq}
use Rattle.recordings.specs.Recordings.{Recordings}
use Rattle.laws.proofs.laws.Choice.{cond-false}
use Rattle.laws.specs.Loop.{downto}
use Rattle.laws.proofs.laws.Loop.{downto_holds}
use Rattle.laws.specs.Kept.{rank}
use Rattle.laws.proofs.laws.Kept.{downto_kept}
use Rattle.frame.specs.declared.frame.Frame.{Frame}
use Rattle.chunk.specs.declared.chunk.Chunk.{Chunk}
use Rattle.chunk.specs.declared.chunk.ChunkTrack.{ChunkTrack}
use Rattle.track.specs.Sub.{over_sub_tracks}
use Rattle.noninterference.specs.Removed.{new_line}
use Rattle.noninterference.proofs.laws.Lines.{kept_line, open_line, kept_line-suc, same_test, apart, apart_back, chosen_shut, open_kept}
use Rattle.noninterference.proofs.laws.Chunk.{Without}
use Rattle.track.proofs.laws.Running.{picked_if}
use Rattle.noninterference.proofs.laws.Frames.{Same, turn_kept, turn_removed, none_picked}
use Rattle.chunk.specs.Chunk.{track_row}

-- a track's turn in the loop of a line
turn : Chunk → ℕ → (ℕ → Frame → Frame) → ℕ → Frame → Frame
turn c line step j x = cond (eqb (track_row c j).parent line) (step (suc j) x) x

-- a loop whose turns below the line change nothing
pub below_still : (c : Chunk) (line : ℕ) (step : ℕ → Frame → Frame) (a : Frame) → ((j : ℕ) → j < c.track_count → (track_row c j).parent ≡ line → step (suc j) a ≡ a) → over_sub_tracks c line step a ≡ a
unfolding over_sub_tracks turn
below_still c line step a h =
    downto_holds (λ j x. x ≡ a) (turn c line step) c.track_count a refl
    (λ j l x e. picked_if (λ (y : Frame). y ≡ a) (eqb (track_row c j).parent line) (step (suc j) x) x (λ t. ap (step (suc j)) e ∙ h j l (eqb→eq (track_row c j).parent line t)) e)

module _ {keep chosen quiet : ℕ → Bool} {c : Chunk} {samples : Recordings} {c' : Chunk} {samples' : Recordings} (w : Without keep chosen quiet c samples c' samples') where
  stands : (j : ℕ) → j < c.track_count → T (keep j) → T (open_line keep chosen (track_row c j).parent)
  stands j l t = subst T (w.tree j l) t

  gone : (j : ℕ) → j < c.track_count → T (not (keep j)) → T (not (open_line keep chosen (track_row c j).parent))
  gone j l t = subst (λ (b : Bool). T (not b)) (w.tree j l) t

  -- the test of a track that is kept
  test : (line : ℕ) → T (kept_line keep line) → (j : ℕ) → j < c.track_count → T (keep j)
      → eqb (track_row c' (rank keep j)).parent (new_line keep line) ≡ eqb (track_row c j).parent line
  test line t j l s =
      ap (λ (r : ChunkTrack). eqb r.parent (new_line keep line)) (w.kept_tracks j l s)
      ∙ same_test keep (track_row c j).parent line (open_kept keep chosen (track_row c j).parent (stands j l s)) t

  pub below_same : (line : ℕ) → T (open_line keep chosen line) → (step step' : ℕ → Frame → Frame)
      → ((j : ℕ) → j < c.track_count → T (keep j) → (x y : Frame) → Same x y → Same (step (suc j) x) (step' (suc (rank keep j)) y))
      → (x y : Frame) → Same x y → Same (over_sub_tracks c line step x) (over_sub_tracks c' (new_line keep line) step' y)
  unfolding over_sub_tracks turn
  below_same line t step step' kept x y r =
      subst (λ (n : ℕ). Same (downto (turn c line step) c.track_count x) (downto (turn c' (new_line keep line) step') n y)) (sym w.track_count)
      (downto_kept (λ j. Same) keep (turn c line step) (turn c' (new_line keep line) step') c.track_count x y
      (λ j l s a b e.
      turn_kept Same (eqb (track_row c j).parent line) (eqb (track_row c' (rank keep j)).parent (new_line keep line)) (test line (open_kept keep chosen line t) j l s) e (λ z. kept j l s a b e))
      (λ j l s a b e. turn_removed Same (eqb (track_row c j).parent line) (step (suc j) a) (apart (open_line keep chosen) (track_row c j).parent line (gone j l s) t) e)
      r)

  pub below_none : (p : ℕ) → T (keep p) → T (chosen p) → (step : ℕ → Frame → Frame) (x : Frame) → over_sub_tracks c' (new_line keep (suc p)) step x ≡ x
  unfolding over_sub_tracks turn
  below_none p s t step x =
      ap (λ (n : ℕ). downto (turn c' (new_line keep (suc p)) step) n x) w.track_count
      ∙ none_picked keep (turn c' (new_line keep (suc p)) step) c.track_count x
      (λ j l q. cond-false (eqb (track_row c' (rank keep j)).parent (new_line keep (suc p))) (step (suc (rank keep j)) x) x
      (test (suc p) (kept_line-suc keep p s) j l q ∙ apart_back (open_line keep chosen) (track_row c j).parent (suc p) (stands j l q) (chosen_shut keep chosen p t)))
