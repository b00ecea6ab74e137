-- What is rendered does not depend on what lies inside silent tracks: a scene and what is left of it have one render. Assumes nothing.
use mathlib.Core.Path.{◌≡◌, sym, ap, ◌∙◌}
use mathlib.Core.Bool.{Bool}
use mathlib.Core.List.{List}
use Prim.Native.Nat.{ℕ, ◌<◌}
use lib.Ieee.{Float}
use Rattle.recordings.specs.Recordings.{Recordings}
use Rattle.laws.specs.Pieces.{pieces}
use Rattle.laws.proofs.laws.Pieces.{pieces_cong}
use Rattle.parameter.specs.Range.{ParameterIn, value_range}
use Rattle.scene.specs.declared.scene.Head.{Head}
use Rattle.scene.specs.declared.scene.Scene.{Scene}
use Rattle.accepted.specs.SceneOk.{SceneOk, SamplesOk}
use Rattle.frame.specs.declared.frame.Frame.{Frame}
use Rattle.frame.specs.Frame.{clamped}
use Rattle.chunk.specs.Chunk.{ChunkOk}
use Rattle.track.specs.Mix.{mixed_frame}
use Rattle.mixer.specs.Mixer.{parameter_of}
use Rattle.mixer.specs.Orders.{mixer_ordered}
use Rattle.mixer_chunk.specs.ChunkOf.{chunk_of}
use Rattle.renderer.specs.Renderer.{chunk_count, chunk_frames, mixer_at, channels_of, chunk_samples, block_samples, rendered, mixer_in}
use Rattle.noninterference.proofs.laws.SceneLeft.{SceneLeft}
use Rattle.noninterference.proofs.laws.Mix.{mixed_same}
use Rattle.noninterference.proofs.laws.Run.{frames_few, run_left}
use Rattle.noninterference.proofs.laws.SceneChunk.{without}

-- a chunk's samples by the head, the frames and the frames' values
samples_by : Head → ℕ → (ℕ → ℕ → Frame) → List Float
samples_by h k f = pieces (λ i. channels_of h.channels (clamped (f (chunk_frames h k) i))) (chunk_frames h k)

module _ {keep chosen quiet : ℕ → Bool} {s : Scene} {samples : Recordings} {e : Scene} {samples' : Recordings} (ok : SceneOk s) (heard : SamplesOk s samples)
    (w : SceneLeft keep chosen quiet s samples e samples')
    (range : (b k : ℕ) → b < s.head.blocks → k < chunk_count s.head → ChunkOk (chunk_of s (chunk_frames s.head k) (mixer_in s b k)) samples)
    (routed : (b k : ℕ) → b < s.head.blocks → k < chunk_count s.head → (r : ℕ) → r < s.route_count → ParameterIn value_range (parameter_of (mixer_in s b k).routes r)) where
  frame_same : (b k : ℕ) → b < s.head.blocks → k < chunk_count s.head → (i : ℕ) → i < chunk_frames s.head k
      → mixed_frame (chunk_of s (chunk_frames s.head k) (mixer_in s b k)) samples i ≡ mixed_frame (chunk_of e (chunk_frames s.head k) (mixer_in e b k)) samples' i
  unfolding chunk_of
  frame_same b k p q i l = mixed_same (without ok w (chunk_frames s.head k) (frames_few ok k) (run_left ok w b k) heard (range b k p q) (routed b k p q)) i l

  chunk_same : (b k : ℕ) → b < s.head.blocks → k < chunk_count s.head → chunk_samples s samples k (mixer_in s b k) ≡ chunk_samples e samples' k (mixer_in e b k)
  unfolding chunk_samples samples_by
  chunk_same b k p q =
      let f : ℕ → ℕ → Frame = λ n i. mixed_frame (chunk_of s n (mixer_in s b k)) samples i in
      let g : ℕ → ℕ → Frame = λ n i. mixed_frame (chunk_of e n (mixer_in e b k)) samples' i in
      pieces_cong (λ i. channels_of s.head.channels (clamped (f (chunk_frames s.head k) i))) (λ i. channels_of s.head.channels (clamped (g (chunk_frames s.head k) i)))
      (chunk_frames s.head k) (λ i l. ap (λ (a : Frame). channels_of s.head.channels (clamped a)) (frame_same b k p q i l))
      ∙ ap (λ (h : Head). samples_by h k g) (sym w.head)

  block_same : (b : ℕ) → b < s.head.blocks → block_samples s samples (mixer_ordered s b (mixer_at s b)) ≡ block_samples e samples' (mixer_ordered e b (mixer_at e b))
  unfolding block_samples
  block_same b p =
      pieces_cong (λ k. chunk_samples s samples k (mixer_in s b k)) (λ k. chunk_samples e samples' k (mixer_in e b k)) (chunk_count s.head) (λ k q. chunk_same b k p q)
      ∙ ap (λ (h : Head). pieces (λ k. chunk_samples e samples' k (mixer_in e b k)) (chunk_count h)) (sym w.head)

  pub rendered_same : rendered s samples ≡ rendered e samples'
  unfolding rendered
  rendered_same =
      pieces_cong (λ b. block_samples s samples (mixer_ordered s b (mixer_at s b))) (λ b. block_samples e samples' (mixer_ordered e b (mixer_at e b))) s.head.blocks (λ b p. block_same b p)
      ∙ ap (λ (h : Head). pieces (λ b. block_samples e samples' (mixer_ordered e b (mixer_at e b))) h.blocks) (sym w.head)
