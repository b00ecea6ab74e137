-- The chunks of a block cover it, and how long the samples of a frame, a chunk, a block and the show are. Assumes nothing.
use mathlib.Core.Path.{◌≡◌, refl, sym, ap, ap₂, ◌∙◌, subst}
use mathlib.Core.Bool.{Bool, true, false, cond}
use mathlib.Core.List.{List, ◌++◌}
use Prim.Native.Nat.{ℕ, zero, suc, ◌+◌, ◌-◌, ◌*◌, ◌≤◌, ◌<◌}
use native.Mathlib.Nat.{le_trans, le_of_eq, add-mul, mul_assoc, zero-mul, mul-le-mul_left, mul-le-mul_right, div-mul-le_self, lt-div-mul-add, add-sub_cancel_left}
use native.Mathlib.Omega.{arith}
use lib.Dec.{ltb}
use lib.ListN.{length, take, drop, length-append}
use lib.Ieee.{Float}
use borrow.Author.Tests.{ltb-true, ltb-false}
use Rattle.recordings.specs.Recordings.{Recordings}
use Rattle.laws.specs.Pieces.{pieces, begun}
use Rattle.laws.proofs.laws.Pieces.{pieces_zero, pieces-suc, length-pieces, length_elements, part_put, begun_next}
use Rattle.scene.specs.declared.scene.Head.{Head}
use Rattle.scene.specs.declared.scene.Scene.{Scene}
use Rattle.frame.specs.declared.frame.Frame.{Frame}
use Rattle.frame.specs.Frame.{clamped}
use Rattle.track.specs.Mix.{mixed_frame}
use Rattle.mixer.specs.declared.mixer.Mixer.{Mixer}
use Rattle.mixer_chunk.specs.ChunkOf.{chunk_of}
use Rattle.renderer.specs.Renderer.{chunk_count, chunk_frames, in_chunk, chunks_done, channel_at, channels_of, chunk_samples, block_samples}

-- ---- how many chunks, and where they lie. B is the block, b the buffer, Q the count times the buffer

covers : (B b Q : ℕ) → 1 ≤ b → B + b - 1 < Q + b → B ≤ Q
covers B b Q h k = omega arith

starts : (B b Q s : ℕ) → 1 ≤ b → s + b ≤ Q → Q ≤ B + b - 1 → s < B
starts B b Q s h k l = omega arith

-- the place where the next piece begins
pub next_place : (b k q : ℕ) → k < q → k * b + b ≤ q * b
next_place b k q h = le_trans (omega arith) (mul-le-mul_right b h)

-- a chunk is as long as the buffer, or as what is left
short : (t : Bool) (left b : ℕ) → ltb left b ≡ t → (cond t left b ≤ left) × (cond t left b ≤ b)
short true left b e = let h : left < b = ltb-true left b e in (omega arith, omega arith)
short false left b e = let h : b ≤ left = ltb-false left b e in (omega arith, omega arith)

full : (t : Bool) (left b : ℕ) → ltb left b ≡ t → b ≤ left → cond t left b ≡ b
full true left b e h = let k : left < b = ltb-true left b e in omega arith
full false left b e h = refl

rest : (t : Bool) (left b : ℕ) → ltb left b ≡ t → left ≤ b → cond t left b ≡ left
rest true left b e h = refl
rest false left b e h = let k : b ≤ left = ltb-false left b e in omega arith

module _ (h : Head) (some : 1 ≤ h.buffer) where
  pub count_covers : h.block ≤ chunk_count h * h.buffer
  unfolding chunk_count
  count_covers = covers h.block h.buffer (chunk_count h * h.buffer) some (lt-div-mul-add some)

  pub chunk_starts : (k : ℕ) → k < chunk_count h → k * h.buffer < h.block
  unfolding chunk_count
  chunk_starts k l = starts h.block h.buffer (chunk_count h * h.buffer) (k * h.buffer) some (next_place h.buffer k (chunk_count h) l) (div-mul-le_self (h.block + h.buffer - 1) h.buffer)

  pub count_most : chunk_count h ≤ h.block
  count_most = go (chunk_count h) chunk_starts
    where
      go : (q : ℕ) → ((k : ℕ) → k < q → k * h.buffer < h.block) → q ≤ h.block
      go zero f = omega arith
      go (suc q) f = let l : q * h.buffer < h.block = f q (omega arith) in let m : q * 1 ≤ q * h.buffer = mul-le-mul_left q some in omega arith

pub frames_left : (h : Head) (k : ℕ) → chunk_frames h k ≤ h.block - k * h.buffer
unfolding chunk_frames
frames_left h k = (short (ltb (h.block - k * h.buffer) h.buffer) (h.block - k * h.buffer) h.buffer refl).0

pub frames_most : (h : Head) (k : ℕ) → chunk_frames h k ≤ h.buffer
unfolding chunk_frames
frames_most h k = (short (ltb (h.block - k * h.buffer) h.buffer) (h.block - k * h.buffer) h.buffer refl).1

-- every chunk but the last has `buffer` frames
left_full : (B b s : ℕ) → s + b < B → b ≤ B - s
left_full B b s h = omega arith

pub frames_full : (h : Head) (k : ℕ) → 1 ≤ h.buffer → k + 1 < chunk_count h → chunk_frames h k ≡ h.buffer
unfolding chunk_frames
frames_full h k some l =
    full (ltb (h.block - k * h.buffer) h.buffer) (h.block - k * h.buffer) h.buffer refl
    (left_full h.block h.buffer (k * h.buffer) (subst (λ (n : ℕ). n < h.block) (omega arith) (chunk_starts h some (k + 1) l)))

-- and the last has the rest
left_last : (B b s Q : ℕ) → B ≤ Q → Q ≡ s + b → B - s ≤ b
left_last B b s Q h e = omega arith

pub frames_last : (h : Head) (k : ℕ) → 1 ≤ h.buffer → chunk_count h ≡ suc k → chunk_frames h k ≡ h.block - k * h.buffer
unfolding chunk_frames
frames_last h k some e =
    rest (ltb (h.block - k * h.buffer) h.buffer) (h.block - k * h.buffer) h.buffer refl
    (left_last h.block h.buffer (k * h.buffer) (chunk_count h * h.buffer) (count_covers h some) (ap (λ (q : ℕ). q * h.buffer) e ∙ omega arith))

-- a chunk lies within the block, and its samples within the block's
ends : (B s n : ℕ) → s < B → n ≤ B - s → s + n ≤ B
ends B s n h k = omega arith

pub chunk_ends : (h : Head) (k : ℕ) → 1 ≤ h.buffer → k < chunk_count h → k * h.buffer + chunk_frames h k ≤ h.block
chunk_ends h k some l = ends h.block (k * h.buffer) (chunk_frames h k) (chunk_starts h some k l) (frames_left h k)

pub place_ends : (h : Head) (k n c : ℕ) → 1 ≤ h.buffer → k < chunk_count h → n ≡ chunk_frames h k → k * h.buffer * c + n * c ≤ h.block * c
place_ends h k n c some l e =
    le_trans (le_of_eq (sym (add-mul (k * h.buffer) n c)))
    (mul-le-mul_right c (le_trans (le_of_eq (ap (λ (i : ℕ). k * h.buffer + i) e)) (chunk_ends h k some l)))

-- ---- lengths of samples

pub length_channels : (channels : ℕ) (a : Frame) → length (channels_of channels a) ≡ channels
unfolding channels_of
length_channels channels a = length_elements (channel_at channels a) channels

-- frame i of a mix as it goes out: clamped, then folded
abbrev pub frame_piece : ℕ → (ℕ → Frame) → ℕ → List Float
frame_piece channels mix i = channels_of channels (clamped (mix i))

pub length_frames : (channels : ℕ) (mix : ℕ → Frame) (n : ℕ) → length (pieces (frame_piece channels mix) n) ≡ n * channels
length_frames channels mix n = length-pieces (frame_piece channels mix) channels n (λ i l. length_channels channels (clamped (mix i)))

module _ (s : Scene) (samples : Recordings) where
  pub length_chunk : (k : ℕ) (m : Mixer) → length (chunk_samples s samples k m) ≡ chunk_frames s.head k * s.head.channels
  unfolding chunk_samples
  length_chunk k m =
      let n = chunk_frames s.head k in
      length-pieces (λ i. channels_of s.head.channels (clamped (mixed_frame (chunk_of s n m) samples i))) s.head.channels n
      (λ i l. length_channels s.head.channels (clamped (mixed_frame (chunk_of s n m) samples i)))

-- chunk k of a block
abbrev pub block_piece : Scene → Recordings → Mixer → ℕ → List Float
block_piece s samples m k = chunk_samples s samples k (in_chunk s k (chunks_done s k m))

pub block_pieces : (s : Scene) (samples : Recordings) (m : Mixer) → block_samples s samples m ≡ pieces (block_piece s samples m) (chunk_count s.head)
unfolding block_samples
block_pieces s samples m = refl

both_parts : (s d c B : ℕ) → s + d ≡ B → s * c + d * c ≡ B * c
both_parts s d c B e = sym (add-mul s d c) ∙ ap (λ (n : ℕ). n * c) e

join : (B s d : ℕ) → s < B → d ≡ B - s → s + d ≡ B
join B s d h e = omega arith

none : (B b q : ℕ) → B ≤ q * b → q ≡ 0 → B ≡ 0
none B b q h e = let k : q * b ≡ 0 = ap (λ (n : ℕ). n * b) e ∙ omega arith in omega arith

-- a block in pieces, one for each chunk
module _ (h : Head) (some : 1 ≤ h.buffer) (f : ℕ → List Float) (each : (k : ℕ) → length (f k) ≡ chunk_frames h k * h.channels) where
  -- the pieces before one of the block
  pub length_before : (k : ℕ) → k < chunk_count h → length (pieces f k) ≡ k * h.buffer * h.channels
  length_before k l = length-pieces f (h.buffer * h.channels) k (λ i r. each i ∙ ap (λ (n : ℕ). n * h.channels) (frames_full h i some (omega arith))) ∙ sym (mul_assoc k h.buffer h.channels)

  all_pieces : (q : ℕ) → chunk_count h ≡ q → length (pieces f q) ≡ h.block * h.channels
  all_pieces zero e =
      ap length (pieces_zero f)
      ∙ sym (zero-mul h.channels)
      ∙ ap (λ (n : ℕ). n * h.channels) (sym (none h.block h.buffer (chunk_count h) (count_covers h some) e))
  all_pieces (suc k) e =
      let l : k < chunk_count h = omega arith in
      ap length (pieces-suc f k)
      ∙ length-append (pieces f k) (f k)
      ∙ ap₂ ◌+◌ (length_before k l) (each k)
      ∙ both_parts (k * h.buffer) (chunk_frames h k) h.channels h.block (join h.block (k * h.buffer) (chunk_frames h k) (chunk_starts h some k l) (frames_last h k some e))

  pub length_all : length (pieces f (chunk_count h)) ≡ h.block * h.channels
  length_all = all_pieces (chunk_count h) refl

  -- a turn. The piece of chunk k is put in from its place on; n is how many frames it has
  pub piece_turn : (k n : ℕ) → k < chunk_count h → n ≡ chunk_frames h k → (out₀ : List Float) {out last : List Float} → out ≡ begun (pieces f k) out₀ → last ≡ f k
      → take (k * h.buffer * h.channels) out ++ (last ++ drop (k * h.buffer * h.channels + n * h.channels - k * h.buffer * h.channels) (drop (k * h.buffer * h.channels) out))
      ≡ begun (pieces f (k + 1)) out₀
  piece_turn k n l is out₀ {out} {last} e q =
      part_put (k * h.buffer * h.channels) (k * h.buffer * h.channels + n * h.channels - k * h.buffer * h.channels) last out
      (ap length q ∙ each k ∙ ap (λ (i : ℕ). i * h.channels) (sym is) ∙ sym (add-sub_cancel_left (k * h.buffer * h.channels) (n * h.channels)))
      ∙ begun_next f k out₀ e (sym (length_before k l)) q refl

pub length-block : (s : Scene) (samples : Recordings) (m : Mixer) → 1 ≤ s.head.buffer → length (block_samples s samples m) ≡ s.head.block * s.head.channels
length-block s samples m some = ap length (block_pieces s samples m) ∙ length_all s.head some (block_piece s samples m) (λ k. length_chunk s samples k (in_chunk s k (chunks_done s k m)))
