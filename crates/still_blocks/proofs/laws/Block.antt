-- The samples of a block of a mixer that stands still are the same however it is cut in chunks. Assumes nothing.
use mathlib.Core.Path.{◌≡◌, refl, ap, ◌∙◌, subst}
use mathlib.Core.Bool.{true}
use mathlib.Core.List.{List}
use Prim.Native.Nat.{ℕ, ◌+◌, ◌<◌}
use native.Mathlib.Omega.{arith}
use lib.Ieee.{Float}
use Rattle.recordings.specs.Recordings.{Recordings}
use Rattle.laws.specs.Pieces.{pieces}
use Rattle.laws.proofs.laws.Pieces.{pieces_cong}
use Rattle.clock.specs.declared.when_to_start.Clocks.{Clocks}
use Rattle.clock.specs.WhenToStart.{clocks_updated}
use Rattle.rounding.specs.Duration.{nanos_from_secs}
use Rattle.scene.specs.declared.scene.Scene.{Scene}
use Rattle.accepted.specs.SceneOk.{SceneOk, SamplesOk}
use Rattle.frame.specs.declared.frame.Frame.{Frame}
use Rattle.frame.specs.Frame.{clamped}
use Rattle.chunk.specs.declared.chunk.Chunk.{Chunk}
use Rattle.track.specs.Mix.{mixed_frame}
use Rattle.mixer.specs.declared.mixer.Mixer.{Mixer}
use Rattle.mixer.specs.MixerOk.{MixerOk}
use Rattle.mixer_chunk.specs.ChunkOf.{chunk_of}
use Rattle.mixer_laws.proofs.laws.Mixes.{chunk_ok}
use Rattle.renderer.specs.Renderer.{chunk_count, chunk_frames, in_chunk, chunks_done, channels_of, chunk_samples, block_samples}
use Rattle.renderer.proofs.laws.Renderer.{chunk_seconds, few_frames, chunks_ok}
use Rattle.steady_mixer.specs.MixerSteady.{mixer_steady}
use Rattle.steady_mixer.proofs.laws.MixerSteady.{after_run}
use Rattle.steady_mixer.specs.Steady.{Ahead}
use Rattle.steady_mixer.proofs.laws.Steady.{with_clocks}
use Rattle.steady_mixer.proofs.laws.Waited.{waited}
use Rattle.steady_mixer.proofs.laws.Lasting.{less}
use Rattle.still_chunks.proofs.laws.Chunks.{still_mixed_frame, Shifted, StillRun}
use Rattle.still_chunks.proofs.laws.Pieces.{still_pieces}
use Rattle.still_blocks.proofs.laws.Still.{still_chunk}
use Rattle.still_blocks.proofs.laws.Run.{played_frames, nanos_before, Stays, still_run, still_in, run_shifts, still_shifts, chunk_waited}
use Rattle.still_blocks.proofs.laws.Played.{frames_before, before_chunk}

-- frame j of the block as it goes out, from the mixer at the block's start
abbrev pub still_piece : Scene → Recordings → Mixer → ℕ → List Float
still_piece s samples m j = channels_of s.head.channels (clamped (still_mixed_frame (chunk_of s 0 m) samples j))

-- mixing does not read the clocks
clocks_unread : (s : Scene) (n : ℕ) (m : Mixer) (clocks : Clocks) → chunk_of s n (with_clocks clocks m) ≡ chunk_of s n m
unfolding chunk_of with_clocks after_run
clocks_unread s n m clocks = refl

module _ (h : Ahead) (s : Scene) (ok : SceneOk s) (c : ℕ) (m : Mixer) (within : MixerOk s c m) (stays : Stays h s m) (samples : Recordings) (there : SamplesOk s samples) where
  abbrev chunk_at : ℕ → Chunk
  chunk_at k = chunk_of s (chunk_frames s.head k) (chunks_done s k m)

  abbrev out : Frame → List Float
  out f = channels_of s.head.channels (clamped f)

  still_at : (k : ℕ) → k < chunk_count s.head → mixer_steady (less (nanos_before s.head k) h) s (chunks_done s k m) ≡ true
  still_at k b = (still_run h s ok c m within stays k (omega (arith, b))).still

  block_runs : StillRun samples s.head.buffer s.head.block (chunk_of s 0 m) chunk_at
  unfolding chunk_count chunk_frames chunk_of
  block_runs =
      record {
        lengths = λ k b. refl;
        shifted = λ k b. still_shifts h s ok c m within stays k b 0 (chunk_frames s.head k);
        still = λ k b. still_chunk (less (nanos_before s.head k) h) s (chunk_frames s.head k) (c + k) (chunks_done s k m) ok (chunks_ok s ok k c m within) (still_at k b);
        ok = λ k b. chunk_ok s samples (c + k) (chunk_frames s.head k) (chunks_done s k m) ok there (chunks_ok s ok k c m within) (few_frames s k ok);
      }

  chunk_read : (k : ℕ) → k < chunk_count s.head → chunk_samples s samples k (in_chunk s k (chunks_done s k m)) ≡ pieces (λ i. out (mixed_frame (chunk_at k) samples i)) (chunk_frames s.head k)
  unfolding chunk_samples
  chunk_read k b =
      let clocks : Clocks = clocks_updated (chunks_done s k m).clocks (chunk_seconds s k) in
      let nanos = nanos_from_secs (chunk_seconds s k) in
      ap (λ (x : Chunk). pieces (λ i. out (mixed_frame x samples i)) (chunk_frames s.head k))
      (ap (chunk_of s (chunk_frames s.head k)) (still_in h s ok c m within stays k b) ∙ clocks_unread s (chunk_frames s.head k) (waited nanos s (chunks_done s k m)) clocks ∙ chunk_waited nanos s (chunk_frames s.head k) (chunks_done s k m))

  chunks_joined : pieces (λ k. pieces (λ i. out (mixed_frame (chunk_at k) samples i)) (chunk_frames s.head k)) (chunk_count s.head) ≡ pieces (still_piece s samples m) s.head.block
  unfolding chunk_count chunk_frames
  chunks_joined = still_pieces samples s.head.buffer s.head.block (chunk_of s 0 m) chunk_at out block_runs ok.buffer.0

  pub block_still : block_samples s samples m ≡ pieces (still_piece s samples m) s.head.block
  unfolding block_samples
  block_still =
      pieces_cong (λ k. chunk_samples s samples k (in_chunk s k (chunks_done s k m))) (λ k. pieces (λ i. out (mixed_frame (chunk_at k) samples i)) (chunk_frames s.head k)) (chunk_count s.head) chunk_read
      ∙ chunks_joined

-- ---- a mixer whose levels stand still, and of which nothing moves but the sounds

-- after the frames before chunk k
abbrev pub played_to : Scene → Mixer → ℕ → Mixer
played_to s m k = after_run m.clocks (played_frames s m (frames_before s.head k)) m

module _ (g : Ahead) (s : Scene) (ok : SceneOk s) (c : ℕ) (m : Mixer) (within : (k : ℕ) → MixerOk s c (played_to s m k)) (still : mixer_steady g s m ≡ true) (samples : Recordings) (there : SamplesOk s samples) where
  abbrev played_at : ℕ → Chunk
  played_at k = chunk_of s (chunk_frames s.head k) (played_to s m k)

  abbrev heard : Frame → List Float
  heard f = channels_of s.head.channels (clamped f)

  steady_played : (k : ℕ) → mixer_steady g s (played_to s m k) ≡ true
  unfolding mixer_steady after_run
  steady_played k = still

  played_runs : MixerOk s c m → StillRun samples s.head.buffer s.head.block (chunk_of s 0 m) played_at
  unfolding chunk_count chunk_frames chunk_of
  played_runs inside =
      record {
        lengths = λ k b. refl;
        shifted = λ k b. subst (λ (j : ℕ). Shifted j (chunk_of s 0 m) (chunk_of s (chunk_frames s.head k) (played_to s m k))) (before_chunk s.head ok.buffer.0 k b) (run_shifts s ok c m inside 0 (chunk_frames s.head k) m.clocks (frames_before s.head k));
        still = λ k b. still_chunk g s (chunk_frames s.head k) c (played_to s m k) ok (within k) (steady_played k);
        ok = λ k b. chunk_ok s samples c (chunk_frames s.head k) (played_to s m k) ok there (within k) (few_frames s k ok);
      }

  pub played_pieces : MixerOk s c m → pieces (λ k. pieces (λ i. heard (mixed_frame (played_at k) samples i)) (chunk_frames s.head k)) (chunk_count s.head) ≡ pieces (still_piece s samples m) s.head.block
  unfolding chunk_count chunk_frames
  played_pieces inside = still_pieces samples s.head.buffer s.head.block (chunk_of s 0 m) played_at heard (played_runs inside) ok.buffer.0
