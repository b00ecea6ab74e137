-- What a mixer keeps to lasts through chunks, blocks and the show, so that every chunk can be mixed. Assumes nothing.
use mathlib.Core.Path.{◌≡◌, sym, ap, ◌∙◌, subst}
use mathlib.Core.List.{List}
use Prim.Native.Nat.{ℕ, suc, ◌+◌, ◌*◌, ◌^◌, ◌≤◌, ◌<◌}
use native.Mathlib.Nat.{le_refl, le_trans, le_of_eq, lt_of_le_of_lt, mul-le-mul, add-suc, add-zero, zero-mul}
use native.Mathlib.Omega.{arith}
use lib.Dec.{T, le→leb, lit<, lit≤}
use lib.IntN.{pos}
use lib.ListN.{length}
use lib.Ieee.{Float, binary64, prec, in_float}
use Rattle.recordings.specs.Recordings.{Recordings}
use Rattle.limits.specs.Limits.{chunk_frames_most, block_frames_most, blocks_most}
use Rattle.laws.proofs.laws.Loop.{upto_holds}
use Rattle.laws.specs.Pieces.{pieces}
use Rattle.laws.proofs.laws.Pieces.{pieces_cong}
use Rattle.laws.proofs.laws.Unsigned.{unsigned}
use Rattle.rounding.specs.Duration.{InAnHour}
use Rattle.clock.specs.ChunkTime.{chunk_time}
use Rattle.clock.proofs.laws.ChunkTime.{chunk_step}
use Rattle.clock.specs.Clock.{IsStep}
use Rattle.tween.proofs.laws.ChunkTime.{chunk_unsigned, chunk_in_an_hour}
use Rattle.scene.specs.declared.scene.Scene.{Scene}
use Rattle.accepted.specs.SceneOk.{SceneOk}
use Rattle.frame.specs.declared.frame.Frame.{Frame}
use Rattle.chunk.specs.declared.chunk.Chunk.{Chunk}
use Rattle.frame.specs.Frame.{clamped}
use Rattle.frame.specs.Layout.{scratch, frame_at, with_frames}
use Rattle.frame.proofs.laws.Places.{scratch_apart}
use Rattle.frame.proofs.laws.Layout.{first_at}
use Rattle.track.specs.Mix.{mixed_frame, mixed_set}
use Rattle.mixer.specs.declared.mixer.Mixer.{Mixer}
use Rattle.mixer.specs.Mixer.{mixer_new}
use Rattle.mixer.specs.Orders.{mixer_ordered}
use Rattle.mixer.specs.MixerOk.{MixerOk}
use Rattle.mixer_laws.proofs.laws.Made.{new_ok}
use Rattle.mixer_laws.proofs.laws.Ordered.{ordered_ok}
use Rattle.mixer_laws.proofs.laws.Moved.{update_ok, played_ok}
use Rattle.renderer.specs.Renderer.{chunk_count, chunk_frames, in_chunk, chunk_done, chunks_done, block_done, mixer_at, channels_of}
use Rattle.renderer.proofs.laws.Lengths.{count_most, frames_most, frame_piece}

-- ---- a chunk's seconds

-- a rate, or a number of frames, is a float
pub held_in_float : (n : ℕ) → n ≤ 192000 → T (in_float binary64 (pos n))
unfolding in_float
held_in_float n h = le→leb n (2 ^ prec binary64) (le_trans h (lit≤ tt))

abbrev pub chunk_seconds : Scene → ℕ → Float
chunk_seconds s k = chunk_time s.head.rate (chunk_frames s.head k)

module _ (s : Scene) (k : ℕ) (ok : SceneOk s) where
  fast : chunk_frames_most ≤ s.head.rate
  fast = le_trans (lit≤ tt) ok.rate.0

  held : s.head.rate < 2 ^ 53
  held = lt_of_le_of_lt ok.rate.1 (lit< tt)

  pub few_frames : chunk_frames s.head k ≤ chunk_frames_most
  few_frames = le_trans (frames_most s.head k) ok.buffer.1

  pub seconds_step : IsStep (chunk_seconds s k)
  seconds_step = chunk_step s.head.rate (chunk_frames s.head k) fast held few_frames

  pub seconds_unsigned : T (unsigned (chunk_seconds s k))
  seconds_unsigned = chunk_unsigned s.head.rate (chunk_frames s.head k) fast held few_frames

  pub seconds_in_an_hour : InAnHour (chunk_seconds s k)
  seconds_in_an_hour = chunk_in_an_hour s.head.rate (chunk_frames s.head k) fast held few_frames

-- ---- the mixer in time

module _ (s : Scene) (ok : SceneOk s) where
  pub in_chunk_ok : (k c : ℕ) (m : Mixer) → MixerOk s c m → MixerOk s (suc c) (in_chunk s k m)
  unfolding in_chunk
  in_chunk_ok k c m h = update_ok s c (chunk_seconds s k) m ok h (seconds_step s k ok) (seconds_unsigned s k ok)

  pub chunk_done_ok : (k c : ℕ) (m : Mixer) → MixerOk s c m → MixerOk s (suc c) (chunk_done s k m)
  unfolding chunk_done
  chunk_done_ok k c m h = played_ok s (suc c) (chunk_frames s.head k) (in_chunk s k m) ok (in_chunk_ok k c m h)

  pub chunks_ok : (k c : ℕ) (m : Mixer) → MixerOk s c m → MixerOk s (c + k) (chunks_done s k m)
  unfolding chunks_done
  chunks_ok k c m h =
      upto_holds (λ i x. MixerOk s (c + i) x) (chunk_done s) k m (subst (λ (n : ℕ). MixerOk s n m) (sym (add-zero c)) h)
      (λ i l x g. subst (λ (n : ℕ). MixerOk s n (chunk_done s i x)) (sym (add-suc c i)) (chunk_done_ok i (c + i) x g))

  pub block_ok : (b c : ℕ) (m : Mixer) → MixerOk s c m → MixerOk s (c + chunk_count s.head) (block_done s b m)
  unfolding block_done
  block_ok b c m h = chunks_ok (chunk_count s.head) c (mixer_ordered s b m) (ordered_ok s c b m ok h)

  next_block : (b q : ℕ) → b * q + q ≡ suc b * q
  next_block b q = omega arith

  pub blocks_ok : (b : ℕ) → MixerOk s (b * chunk_count s.head) (mixer_at s b)
  unfolding mixer_at
  blocks_ok b =
      upto_holds (λ i x. MixerOk s (i * chunk_count s.head) x) (block_done s) b (mixer_new s) (subst (λ (n : ℕ). MixerOk s n (mixer_new s)) (sym (zero-mul (chunk_count s.head))) (new_ok s ok))
      (λ i l x g. subst (λ (n : ℕ). MixerOk s n (block_done s i x)) (next_block i (chunk_count s.head)) (block_ok i (i * chunk_count s.head) x g))

  -- a show has no more chunks than clocks can count
  all_chunks : (b q n B : ℕ) → b < n → n ≤ blocks_most → q ≤ B → B ≤ block_frames_most → b * q + q ≤ 2 ^ 20
  all_chunks b q n B h k l r = le_trans (le_of_eq (next_block b q)) (le_trans (mul-le-mul (le_trans h k) (le_trans l r)) (lit≤ tt))

  pub chunks_few : (b : ℕ) → b < s.head.blocks → b * chunk_count s.head + chunk_count s.head ≤ 2 ^ 20
  chunks_few b h = all_chunks b (chunk_count s.head) s.head.blocks s.head.block h ok.blocks.1 (count_most s.head ok.buffer.0) ok.block.1

-- ---- what is written of a mixed chunk

pub mix_written : (channels n : ℕ) (chunk : Chunk) (samples : Recordings) (mix₀ : List Float) {mix : List Float} → chunk.frames ≡ n → 2 * n ≤ length mix₀ → mix ≡ with_frames (scratch 0 chunk.frames) (mixed_set chunk samples) mix₀ → pieces (frame_piece channels (frame_at (scratch 0 n) mix)) n ≡ pieces (λ i. channels_of channels (clamped (mixed_frame chunk samples i))) n
unfolding mixed_set
mix_written channels n chunk samples mix₀ {mix} frames long q =
    pieces_cong (frame_piece channels (frame_at (scratch 0 n) mix)) (λ i. channels_of channels (clamped (mixed_frame chunk samples i))) n
    (λ i l. ap (λ (a : Frame). channels_of channels (clamped a))
    (ap (λ (x : List Float). frame_at (scratch 0 n) x i) (q ∙ ap (λ (j : ℕ). with_frames (scratch 0 j) (mixed_set chunk samples) mix₀) frames)
    ∙ first_at (scratch 0 n) (scratch_apart 0 n) (mixed_set chunk samples) n mix₀ i (le_refl n) (omega (arith, long)) l))
