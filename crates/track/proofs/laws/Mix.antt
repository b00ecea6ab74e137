-- What the mix of a chunk comes to, part by part: the tracks, the send tracks from their inputs, the main track's sounds and the main volume. Assumes
-- nothing.
use mathlib.Core.Path.{◌≡◌, refl, ap, ◌∙◌}
use mathlib.Core.List.{List}
use Prim.Native.Nat.{ℕ, suc, ◌*◌, ◌≤◌, ◌<◌}
use native.Mathlib.Nat.{le_refl, le_trans}
use native.Mathlib.Omega.{arith}
use lib.ListN.{length}
use lib.Ieee.{Float}
use Rattle.recordings.specs.Recordings.{Recordings}
use Rattle.limits.specs.Limits.{send_lines, chunk_frames_most, track_depth}
use Rattle.laws.proofs.laws.Loop.{downto_cong}
use Rattle.frame.specs.declared.frame.Frame.{Frame}
use Rattle.chunk.specs.declared.chunk.Chunk.{Chunk}
use Rattle.frame.specs.Frame.{cleared, zero_frame, added, scaled}
use Rattle.frame.specs.Layout.{scratch, frame_at, with_frames}
use Rattle.chunk.specs.Chunk.{amount_at, level_amplitude, send_row}
use Rattle.track_sounds.specs.Sound.{with_sounds}
use Rattle.send_track.specs.Send.{send_frame, level_scaled, added_send, send_places, send_layout, on_sends, cleared_sends}
use Rattle.track.specs.Sub.{with_sub_sends}
use Rattle.track.specs.Mix.{send_input, tracks_frame, mixed_frame, tracks_set, with_send_tracks, mixed_set}
use Rattle.frame.proofs.laws.Places.{scratch_apart}
use Rattle.frame.proofs.laws.Layout.{Step, first_cong, first_twice}
use Rattle.send_track.proofs.laws.Send.{SendStep, on_sends_at, cleared_length, cleared_at}
use Rattle.track.proofs.laws.Sub.{sub_sum}

pub tracks_mixed : (c : Chunk) (samples : Recordings) (l : List Float) {last : List Float} → 2 * c.frames ≤ length l → last ≡ with_frames (scratch 0 c.frames) (sub_sum track_depth c samples 0) (with_frames (scratch 0 c.frames) cleared l) → last ≡ with_frames (scratch 0 c.frames) (tracks_set c samples) l
unfolding tracks_set tracks_frame
tracks_mixed c samples l w e =
    let n = c.frames in
    e ∙ first_twice (scratch 0 n) (scratch_apart 0 n) cleared (sub_sum track_depth c samples 0) n l (le_refl n) (omega (arith, w))
    ∙ first_cong (scratch 0 n) (λ i a. sub_sum track_depth c samples 0 i zero_frame) (tracks_set c samples) n l (λ k p a. refl)

-- the send tracks' inputs are made in a room whose used parts are cleared first
module _ (c : Chunk) (samples : Recordings) (room : List Float) {inputs : List Float} (short : c.frames ≤ chunk_frames_most) (few : c.send_count ≤ send_lines) (whole : length room ≡ send_places) (is : inputs ≡ on_sends c.frames (with_sub_sends track_depth c samples 0) (cleared_sends c.frames c.send_count room)) where
  pub input_at : (s i : ℕ) → s < c.send_count → i < c.frames → frame_at (send_layout s c.frames) inputs i ≡ send_input c samples (suc s) i
  unfolding send_input
  input_at s i h p =
      let n = c.frames in
      let u : SendStep = with_sub_sends track_depth c samples 0 in
      ap (λ (r : List Float). frame_at (send_layout s n) r i) is
      ∙ on_sends_at n short u s i (cleared_sends n c.send_count room) (le_trans h few) p (omega (arith, whole, cleared_length n c.send_count room))
      ∙ ap (u (suc s) i) (cleared_at n short c.send_count s i room h few p (omega (arith, whole)))

  pub chunk_mixed : (l : List Float) {a b d e : List Float} → 2 * c.frames ≤ length l → a ≡ with_frames (scratch 0 c.frames) (tracks_set c samples) l → b ≡ with_frames (scratch 0 c.frames) (with_send_tracks c inputs) a → d ≡ with_frames (scratch 0 c.frames) (with_sounds c samples 0) b → e ≡ with_frames (scratch 0 c.frames) (level_scaled c.main c.frames) d → e ≡ with_frames (scratch 0 c.frames) (mixed_set c samples) l
  unfolding tracks_set with_send_tracks added_send level_scaled mixed_set mixed_frame
  chunk_mixed l long at bt dt et =
      let n = c.frames in
      let L = scratch 0 n in
      let t : Step = tracks_set c samples in
      let u : Step = with_send_tracks c inputs in
      let v : Step = with_sounds c samples 0 in
      let w : Step = level_scaled c.main n in
      et
      ∙ ap (with_frames L w) (dt ∙ ap (with_frames L v) (bt ∙ ap (with_frames L u) at ∙ first_twice L (scratch_apart 0 n) t u n l (le_refl n) (omega (arith, long))) ∙ first_twice L (scratch_apart 0 n) (λ i x. u i (t i x)) v n l (le_refl n) (omega (arith, long)))
      ∙ first_twice L (scratch_apart 0 n) (λ i x. v i (u i (t i x))) w n l (le_refl n) (omega (arith, long))
      ∙ first_cong L (λ i x. w i (v i (u i (t i x)))) (mixed_set c samples) n l
      (λ k p x. ap (λ (f : Frame). scaled (with_sounds c samples 0 k f) (level_amplitude c.main (amount_at k n)))
      (downto_cong (λ s y. added_send (send_row c s) n (frame_at (send_layout s n) inputs) k y) (λ s y. added y (send_frame (send_row c s) n k (send_input c samples (suc s) k))) c.send_count (tracks_frame c samples k)
      (λ s h y. ap (λ (f : Frame). added y (send_frame (send_row c s) n k f)) (input_at s k h p))))
