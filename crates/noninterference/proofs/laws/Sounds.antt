-- Sounds: on a line that is kept and not chosen the same are heard, on a chosen line none is left. Assumes nothing.
use mathlib.Core.Path.{◌≡◌, refl, sym, ap, ap₂, ◌∙◌}
use mathlib.Core.Bool.{Bool, cond}
use Prim.Native.Nat.{ℕ, suc, ◌<◌}
use lib.Dec.{T, eqb}
use Rattle.recordings.specs.Recordings.{Recordings}
use Rattle.laws.proofs.laws.Choice.{cond-false}
use Rattle.laws.specs.Loop.{downto}
use Rattle.laws.specs.Kept.{rank}
use Rattle.laws.proofs.laws.Kept.{downto_kept}
use Rattle.frame.specs.declared.frame.Frame.{Frame}
use Rattle.chunk.specs.declared.chunk.Chunk.{Chunk}
use Rattle.frame.specs.Frame.{added}
use Rattle.track_sounds.specs.Sound.{added_sound, with_sounds}
use Rattle.noninterference.specs.Removed.{new_line}
use Rattle.noninterference.proofs.laws.Lines.{kept_line, open_line, kept_line-suc, same_test, apart, apart_back, chosen_shut, open_kept}
use Rattle.noninterference.proofs.laws.Chunk.{kept_sound, Without}
use Rattle.noninterference.proofs.laws.Frames.{turn_kept, turn_removed, none_picked}
use Rattle.chunk.specs.Chunk.{sound_row}

-- a sound's turn in the loop of a line
turn : Chunk → Recordings → ℕ → ℕ → ℕ → Frame → Frame
turn c samples line i k a = cond (eqb (sound_row c k).track line) (added_sound samples (sound_row c k) i a) a

module _ {keep chosen quiet : ℕ → Bool} {c : Chunk} {samples : Recordings} {c' : Chunk} {samples' : Recordings} (w : Without keep chosen quiet c samples c' samples') (i : ℕ) where
  -- the test of a sound that is kept
  test : (line : ℕ) → T (kept_line keep line) → (k : ℕ) → k < c.sound_count → T (kept_sound keep chosen c k)
      → eqb (sound_row c' (rank (kept_sound keep chosen c) k)).track (new_line keep line) ≡ eqb (sound_row c k).track line
  test line t k l s =
      ap (λ (n : ℕ). eqb n (new_line keep line)) (w.kept_sounds k l s) ∙ same_test keep (sound_row c k).track line (open_kept keep chosen (sound_row c k).track s) t

  pub sounds_same : i < c.frames → (line : ℕ) → T (open_line keep chosen line) → (x : Frame) → with_sounds c samples line i x ≡ with_sounds c' samples' (new_line keep line) i x
  unfolding with_sounds turn added_sound
  sounds_same h line t x =
      downto_kept (λ k. ◌≡◌) (kept_sound keep chosen c) (turn c samples line i) (turn c' samples' (new_line keep line) i) c.sound_count x x
      (λ k l s a b e.
      turn_kept ◌≡◌ (eqb (sound_row c k).track line) (eqb (sound_row c' (rank (kept_sound keep chosen c) k)).track (new_line keep line)) (test line (open_kept keep chosen line t) k l s) e
      (λ z. ap₂ added e (sym (w.kept_frames k l s i h))))
      (λ k l s a b e. turn_removed ◌≡◌ (eqb (sound_row c k).track line) (added_sound samples (sound_row c k) i a) (apart (open_line keep chosen) (sound_row c k).track line s t) e)
      refl
      ∙ ap (λ (n : ℕ). downto (turn c' samples' (new_line keep line) i) n x) (sym w.sound_count)

  pub sounds_none : (p : ℕ) → T (keep p) → T (chosen p) → (x : Frame) → with_sounds c' samples' (new_line keep (suc p)) i x ≡ x
  unfolding with_sounds turn
  sounds_none p s t x =
      ap (λ (n : ℕ). downto (turn c' samples' (new_line keep (suc p)) i) n x) w.sound_count
      ∙ none_picked (kept_sound keep chosen c) (turn c' samples' (new_line keep (suc p)) i) c.sound_count x
      (λ k l q.
      let row = sound_row c' (rank (kept_sound keep chosen c) k) in
      cond-false (eqb row.track (new_line keep (suc p))) (added_sound samples' row i x) x
      (test (suc p) (kept_line-suc keep p s) k l q ∙ apart_back (open_line keep chosen) (sound_row c k).track (suc p) q (chosen_shut keep chosen p t)))
