-- The mix of a chunk does not depend on what lies inside silent tracks. Assumes nothing.
use mathlib.Core.Path.{◌≡◌, sym, ap, ap₂, ◌∙◌}
use mathlib.Core.Bool.{Bool}
use Prim.Native.Nat.{ℕ, suc, ◌<◌}
use lib.Dec.{lit≤}
use Rattle.recordings.specs.Recordings.{Recordings}
use Rattle.limits.specs.Limits.{track_depth}
use Rattle.laws.specs.Loop.{downto}
use Rattle.laws.proofs.laws.Loop.{downto_cong}
use Rattle.frame.specs.declared.frame.Frame.{Frame}
use Rattle.chunk.specs.declared.chunk.Level.{Level}
use Rattle.chunk.specs.declared.chunk.Chunk.{Chunk}
use Rattle.frame.specs.Frame.{zero_frame, added, scaled}
use Rattle.chunk.specs.Chunk.{amount_at, level_amplitude, send_row}
use Rattle.track_sounds.specs.Sound.{with_sounds}
use Rattle.track.specs.Sub.{with_track_sends, with_sub_sends}
use Rattle.send_track.specs.Send.{send_frame}
use Rattle.track.specs.Mix.{send_input, tracks_frame, mixed_frame}
use Rattle.noninterference.specs.Removed.{new_line}
use Rattle.noninterference.proofs.laws.Lines.{open_zero}
use Rattle.noninterference.proofs.laws.Chunk.{Without}
use Rattle.noninterference.proofs.laws.Frames.{same_start}
use Rattle.noninterference.proofs.laws.Sounds.{sounds_same}
use Rattle.noninterference.proofs.laws.Below.{below_same}
use Rattle.noninterference.proofs.laws.Tracks.{below_sum, track_alike}
use Rattle.noninterference.proofs.laws.Sends.{sends_same}

-- a send track's part of the mix
sent : Chunk → Recordings → ℕ → ℕ → Frame → Frame
sent c samples i s x = added x (send_frame (send_row c s) c.frames i (send_input c samples (suc s) i))

module _ {keep chosen quiet : ℕ → Bool} {c : Chunk} {samples : Recordings} {c' : Chunk} {samples' : Recordings} (w : Without keep chosen quiet c samples c' samples') (i : ℕ) (inside : i < c.frames) where
  pub tracks_same : tracks_frame c samples i ≡ tracks_frame c' samples' i
  unfolding tracks_frame new_line
  tracks_same = below_sum w i inside track_depth (track_alike w i inside track_depth (lit≤ tt)) 0 (open_zero keep chosen)

  pub input_same : (s : ℕ) → send_input c samples s i ≡ send_input c' samples' s i
  unfolding send_input with_sub_sends new_line
  input_same s =
      (below_same w 0 (open_zero keep chosen) (λ line x. with_track_sends track_depth c samples line s i x) (λ line x. with_track_sends track_depth c' samples' line s i x)
      (sends_same w s i inside track_depth (lit≤ tt)) zero_frame zero_frame same_start).same

  sent_same : (s : ℕ) → s < c.send_count → (x : Frame) → sent c samples i s x ≡ sent c' samples' i s x
  unfolding sent
  sent_same s l x =
      ap (λ (a : Frame). added x (send_frame (send_row c s) c.frames i a)) (input_same (suc s))
      ∙ ap₂ (λ (r : Level) (n : ℕ). added x (send_frame r n i (send_input c' samples' (suc s) i))) (sym (w.same_sends s l)) (sym w.same_frames)

  sends_joined : downto (sent c samples i) c.send_count (tracks_frame c samples i) ≡ downto (sent c' samples' i) c'.send_count (tracks_frame c' samples' i)
  sends_joined =
      downto_cong (sent c samples i) (sent c' samples' i) c.send_count (tracks_frame c samples i) sent_same
      ∙ ap₂ (downto (sent c' samples' i)) (sym w.send_count) tracks_same

  pub mixed_same : mixed_frame c samples i ≡ mixed_frame c' samples' i
  unfolding mixed_frame sent new_line
  mixed_same =
      ap₂ scaled
      (sounds_same w i inside 0 (open_zero keep chosen) (downto (sent c samples i) c.send_count (tracks_frame c samples i)) ∙ ap (with_sounds c' samples' 0 i) sends_joined)
      (ap₂ (λ (l : Level) (n : ℕ). level_amplitude l (amount_at i n)) (sym w.same_main) (sym w.same_frames))
