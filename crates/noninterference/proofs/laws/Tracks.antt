-- A track that is kept has the same frames, or zeros where it is chosen. Assumes nothing.
use mathlib.Core.Path.{◌≡◌, refl, sym, ap, ap₂, ◌∙◌, subst}
use mathlib.Core.Logic.{inl, inr}
use mathlib.Core.Bool.{Bool, false, not, cond}
use Prim.Native.Nat.{ℕ, zero, suc, ◌≤◌, ◌<◌}
use native.Mathlib.Omega.{arith}
use lib.Dec.{T}
use lib.Ieee.{Float, binary32}
use lib.Ieee.Bits.{is_true, is_false}
use lib.Ieee.Scale.{finite}
use Rattle.recordings.specs.Recordings.{Recordings}
use Rattle.laws.proofs.laws.Choice.{cond-true, cond-false}
use Rattle.laws.specs.Kept.{rank}
use Rattle.laws.proofs.laws.Kept.{kept_or_removed}
use Rattle.laws.proofs.laws.Float.{Zero}
use Rattle.laws.proofs.laws.FloatZero.{mul_zero_left, mul_zero_right}
use Rattle.spatial.specs.declared.placing.Placing.{Placing}
use Rattle.spatial.specs.declared.placing.Placing.TheVariants.{Plain}
use Rattle.frame.specs.declared.frame.Frame.{Frame}
use Rattle.chunk.specs.declared.chunk.Chunk.{Chunk}
use Rattle.chunk.specs.declared.chunk.ChunkTrack.{ChunkTrack}
use Rattle.frame.specs.Frame.{zero_frame, added, scaled}
use Rattle.chunk.specs.Chunk.{amount_at, level_amplitude, track_amplitude, track_row, sound_row}
use Rattle.chunk.proofs.laws.Chunk.{amount_is}
use Rattle.track_sounds.specs.Sound.{sound_frame, with_sounds}
use Rattle.track.specs.Sub.{over_sub_tracks, placed, track_frame, sum_over, track_sum}
use Rattle.noninterference.specs.Removed.{new_line}
use Rattle.noninterference.proofs.laws.Lines.{open_line, open_suc}
use Rattle.noninterference.proofs.laws.Chunk.{Without}
use Rattle.frame.specs.Running.{Both}
use Rattle.track.proofs.laws.Running.{both_zero, zeros, track_fits}
use Rattle.noninterference.proofs.laws.Frames.{Finite, both_scaled, Alike, same_start, same_added, at_equal}
use Rattle.noninterference.proofs.laws.Parts.{track_with, track_parts, placed_plain, track_holds}
use Rattle.noninterference.proofs.laws.Bounds.{Size, level_within, placed_finite}
use Rattle.noninterference.proofs.laws.Sounds.{sounds_same, sounds_none}
use Rattle.noninterference.proofs.laws.Below.{below_same, below_none}

-- ---- a silent track: whatever finite frame it has before its volume, its frame is zeros

silent_amplitude : (track : ChunkTrack) (amount : Float) → Zero (level_amplitude track.volume amount).0 → T (finite (level_amplitude track.fade amount).0) → Zero (track_amplitude track amount).0
unfolding track_amplitude
silent_amplitude track amount z h = mul_zero_left binary32 (level_amplitude track.fade amount).0 z h

stopped_frame : (track : ChunkTrack) (n i : ℕ) (frame : Frame) → track.advancing ≡ false → Both Zero (track_with track n i frame)
unfolding track_with
stopped_frame track n i frame e = subst (Both Zero) (sym (cond-false track.advancing (scaled frame (track_amplitude track (amount_at i n))) zero_frame e)) zeros

muted_frame : (track : ChunkTrack) (n i : ℕ) (frame : Frame) → Zero (track_amplitude track (amount_at i n)).0 → Both Finite frame → Both Zero (track_with track n i frame)
muted_frame track n i frame z h =
    track_holds (Both Zero) track n i frame (both_scaled Zero (track_amplitude track (amount_at i n)) (λ x f. mul_zero_right binary32 x f z) h) zeros

module _ {keep chosen quiet : ℕ → Bool} {c : Chunk} {samples : Recordings} {c' : Chunk} {samples' : Recordings} (w : Without keep chosen quiet c samples c' samples') (i : ℕ) (inside : i < c.frames) where
  silent_frame : (p : ℕ) → p < c.track_count → T (chosen p) → (frame : Frame) → Both Finite frame → Both Zero (track_with (track_row c p) c.frames i frame)
  silent_frame p l t frame h =
      elim (w.chosen_silent p l t) [
        | inl e ↦ stopped_frame (track_row c p) c.frames i frame e
        | inr m ↦ muted_frame (track_row c p) c.frames i frame
            (silent_amplitude (track_row c p) (amount_at i c.frames) (m.silent i inside)
            (level_within (track_row c p).fade (amount_at i c.frames) (w.in_range.fades p l) (amount_is i c.frames inside w.in_range.short)).is_finite)
            h
      ]

  -- ---- the sums inside a track

  heard : (k : ℕ) → k < c.sound_count → Both (Size 1) (sound_frame samples (sound_row c k) i)
  heard k l = record { left = (w.sound_values k l i inside).0; right = (w.sound_values k l i inside).1 }

  sum_none : (d p : ℕ) → T (keep p) → T (chosen p) → track_sum d c' samples' (new_line keep (suc p)) i ≡ zero_frame
  unfolding sum_over
  sum_none d p s t =
      ap (with_sounds c' samples' (new_line keep (suc p)) i) (below_none w p s t (λ below x. added x (track_frame d c' samples' below i)) zero_frame)
      ∙ sounds_none w i p s t zero_frame

  -- what track j has with d levels of tracks
  abbrev TrackAlike : ℕ → ℕ → Type 0
  TrackAlike d j = Alike (track_frame d c samples (suc j) i) (track_frame d c' samples' (suc (rank keep j)) i)

  pub below_sum : (d : ℕ) → ((j : ℕ) → j < c.track_count → T (keep j) → TrackAlike d j) → (line : ℕ) → T (open_line keep chosen line)
      → over_sub_tracks c line (λ below x. added x (track_frame d c samples below i)) zero_frame ≡ over_sub_tracks c' (new_line keep line) (λ below x. added x (track_frame d c' samples' below i)) zero_frame
  below_sum d h line t =
      (below_same w line t (λ below x. added x (track_frame d c samples below i)) (λ below x. added x (track_frame d c' samples' below i))
      (λ j l s x y r. same_added r (track_fits d c samples (suc j) i) (h j l s)) zero_frame zero_frame same_start).same

  sum_same : (d : ℕ) → ((j : ℕ) → j < c.track_count → T (keep j) → TrackAlike d j) → (line : ℕ) → T (open_line keep chosen line) → track_sum d c samples line i ≡ track_sum d c' samples' (new_line keep line) i
  unfolding sum_over
  sum_same d h line t =
      sounds_same w i inside line t (over_sub_tracks c line (λ below x. added x (track_frame d c samples below i)) zero_frame) ∙ ap (with_sounds c' samples' (new_line keep line) i) (below_sum d h line t)

  -- ---- a track

  -- the placing that is left of track j
  abbrev placing_left : ℕ → Placing
  placing_left j = cond (chosen j) Plain (track_row c j).placing

  kept_parts : (d j : ℕ) → j < c.track_count → T (keep j)
      → track_frame (suc d) c' samples' (suc (rank keep j)) i ≡ track_with (track_row c j) c.frames i (placed (placing_left j) (track_sum d c' samples' (new_line keep (suc j)) i))
  unfolding new_line track_with track_amplitude
  kept_parts d j l t =
      track_parts d c' samples' (rank keep j) i
      ∙ ap (λ (r : ChunkTrack). track_with r c'.frames i (placed r.placing (track_sum d c' samples' (suc (rank keep j)) i))) (w.kept_tracks j l t)
      ∙ ap (λ (n : ℕ). track_with (track_row c j) n i (placed (placing_left j) (track_sum d c' samples' (suc (rank keep j)) i))) w.same_frames

  -- a chosen track has no placing left, and no sum
  chosen_none : (d j : ℕ) → T (keep j) → T (chosen j) → placed (placing_left j) (track_sum d c' samples' (new_line keep (suc j)) i) ≡ zero_frame
  chosen_none d j s t = ap₂ placed (cond-true (chosen j) Plain (track_row c j).placing (is_true (chosen j) t)) (sum_none d j s t) ∙ placed_plain zero_frame

  -- any other track that is kept has its own
  placing_stays : (j : ℕ) → T (not (chosen j)) → (track_row c j).placing ≡ placing_left j
  placing_stays j t = sym (cond-false (chosen j) Plain (track_row c j).placing (is_false (chosen j) t))

  pub track_alike : (d : ℕ) → d ≤ 4 → (j : ℕ) → j < c.track_count → T (keep j) → TrackAlike d j
  track_alike zero h j l s = unfold track_frame in inl refl
  track_alike (suc d) h j l s =
      at_equal Alike (track_parts d c samples j i) (kept_parts d j l s)
      (elim (kept_or_removed (chosen j)) [
        | inl t ↦ inr (
          silent_frame j l t (placed (track_row c j).placing (track_sum d c samples (suc j) i)) (placed_finite c samples w.in_range i inside heard d h j l),
          silent_frame j l t (placed (placing_left j) (track_sum d c' samples' (new_line keep (suc j)) i)) (subst (Both Finite) (sym (chosen_none d j s t)) (both_zero Finite tt)),
        )
        | inr t ↦ inl (ap (track_with (track_row c j) c.frames i)
            (ap₂ placed (placing_stays j t) (sum_same d (track_alike d (omega arith)) (suc j) (open_suc keep chosen j s t))))
      ])
