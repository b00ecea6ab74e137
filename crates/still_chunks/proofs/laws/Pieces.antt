-- A block whose levels stand still is the same frames however it is cut in chunks. Assumes nothing.
use mathlib.Core.Path.{◌≡◌, sym, ap, ap₂, ◌∙◌, subst}
use mathlib.Core.List.{List, ◌++◌, append_assoc, append-nil}
use Prim.Native.Nat.{ℕ, zero, suc, ◌+◌, ◌-◌, ◌*◌, ◌≤◌, ◌<◌}
use native.Mathlib.Nat.{add-zero, add-suc, le_refl, le_trans, mul-le-mul_right, div-mul-le_self, lt-div-mul-add}
use native.Mathlib.Omega.{arith}
use lib.Ieee.{Float}
use Rattle.recordings.specs.Recordings.{Recordings}
use Rattle.laws.specs.Pieces.{pieces}
use Rattle.laws.proofs.laws.Pieces.{pieces_zero, pieces-suc, pieces_cong}
use Rattle.frame.specs.declared.frame.Frame.{Frame}
use Rattle.chunk.specs.declared.chunk.Chunk.{Chunk}
use Rattle.track.specs.Mix.{mixed_frame}
use Rattle.still_chunks.proofs.laws.Chunks.{still_mixed_frame, chunks_of, frames_of, StillRun}
use Rattle.still_chunks.proofs.laws.Still.{still_mixed}
use Rattle.still_chunks.proofs.laws.Shifted.{least_rest, still_shifted}

-- ---- where chunks lie. B is the block, b the buffer, s the start of a chunk and Q all chunks of `buffer` frames

covers : (B b Q : ℕ) → 1 ≤ b → B + b - 1 < Q + b → B ≤ Q
covers B b Q h k = omega arith

starts : (B b Q s : ℕ) → 1 ≤ b → s + b ≤ Q → Q ≤ B + b - 1 → s < B
starts B b Q s h k l = omega arith

next_place : (b k q : ℕ) → k < q → k * b + b ≤ q * b
next_place b k q h = le_trans (omega arith) (mul-le-mul_right b h)

count_covers : (buffer block : ℕ) → 1 ≤ buffer → block ≤ chunks_of buffer block * buffer
count_covers buffer block some = covers block buffer (chunks_of buffer block * buffer) some (lt-div-mul-add some)

chunk_starts : (buffer block k : ℕ) → 1 ≤ buffer → k < chunks_of buffer block → k * buffer < block
chunk_starts buffer block k some h =
    starts block buffer (chunks_of buffer block * buffer) (k * buffer) some (next_place buffer k (chunks_of buffer block) h) (div-mul-le_self (block + buffer - 1) buffer)

-- the end of the first m chunks: that of m times `buffer` frames, or the block's
abbrev end_of : ℕ → ℕ → ℕ → ℕ
end_of buffer block m = block - (block - m * buffer)

end_none : (block s : ℕ) → s ≡ 0 → block - (block - s) ≡ 0
end_none block s e = omega arith

end_inside : (B s : ℕ) → s < B → B - (B - s) ≡ s
end_inside B s h = omega arith

end_all : (B Q : ℕ) → B ≤ Q → B - (B - Q) ≡ B
end_all B Q h = omega arith

end_next : (B b s t n : ℕ) → s < B → t ≡ s + b → n + (B - s - b) ≡ B - s → s + n ≡ B - (B - t)
end_next B b s t n h e k = omega arith

-- ---- pieces side by side

module _ {A : Type 0} (f : ℕ → List A) where
  pieces_add : (a b : ℕ) → pieces f (a + b) ≡ pieces f a ++ pieces (λ i. f (a + i)) b
  pieces_add a zero = ap (pieces f) (add-zero a) ∙ sym (append-nil (pieces f a)) ∙ ap (λ (l : List A). pieces f a ++ l) (sym (pieces_zero (λ i. f (a + i))))
  pieces_add a (suc b) =
      ap (pieces f) (add-suc a b)
      ∙ pieces-suc f (a + b)
      ∙ ap (λ (l : List A). l ++ f (a + b)) (pieces_add a b)
      ∙ append_assoc (pieces f a) (pieces (λ i. f (a + i)) b) (f (a + b))
      ∙ ap (λ (l : List A). pieces f a ++ l) (sym (pieces-suc (λ i. f (a + i)) b))

  -- a block in chunks, `h k` being chunk k
  module _ (h : ℕ → List A) (buffer block : ℕ) (some : 1 ≤ buffer) (chunk : (k : ℕ) → k < chunks_of buffer block → h k ≡ pieces (λ i. f (k * buffer + i)) (frames_of buffer block k)) where
    so_far : (m : ℕ) → m ≤ chunks_of buffer block → pieces h m ≡ pieces f (end_of buffer block m)
    so_far zero l = pieces_zero h ∙ sym (pieces_zero f) ∙ ap (pieces f) (sym (end_none block (0 * buffer) (omega arith)))
    so_far (suc m) l =
        let before : m * buffer < block = chunk_starts buffer block m some l in
        pieces-suc h m
        ∙ ap₂ ◌++◌ (so_far m (omega (arith, l)) ∙ ap (pieces f) (end_inside block (m * buffer) before)) (chunk m l)
        ∙ sym (pieces_add (m * buffer) (frames_of buffer block m))
        ∙ ap (pieces f) (end_next block buffer (m * buffer) (suc m * buffer) (frames_of buffer block m) before (omega arith) (least_rest (block - m * buffer) buffer))

    pub pieces_joined : pieces h (chunks_of buffer block) ≡ pieces f block
    pieces_joined = so_far (chunks_of buffer block) (le_refl (chunks_of buffer block)) ∙ ap (pieces f) (end_all block (chunks_of buffer block * buffer) (count_covers buffer block some))

-- ---- the chunks of a block

module _ (samples : Recordings) (buffer block : ℕ) (c : Chunk) (each : ℕ → Chunk) (g : Frame → List Float) (run : StillRun samples buffer block c each) where
  -- chunk k is the frames of the block from its start on
  chunk_still : (k : ℕ) → k < chunks_of buffer block → pieces (λ i. g (mixed_frame (each k) samples i)) (frames_of buffer block k) ≡ pieces (λ i. g (still_mixed_frame c samples (k * buffer + i))) (frames_of buffer block k)
  chunk_still k h =
      pieces_cong (λ i. g (mixed_frame (each k) samples i)) (λ i. g (still_mixed_frame c samples (k * buffer + i))) (frames_of buffer block k)
      (λ i b. ap g (still_mixed (each k) samples i (subst (λ (n : ℕ). i < n) (sym (run.lengths k h)) b) (run.ok k h) (run.still k h) ∙ sym (still_shifted (k * buffer) c (each k) samples i (run.shifted k h))))

  pub still_pieces : 1 ≤ buffer → pieces (λ k. pieces (λ i. g (mixed_frame (each k) samples i)) (frames_of buffer block k)) (chunks_of buffer block) ≡ pieces (λ j. g (still_mixed_frame c samples j)) block
  still_pieces some = pieces_joined (λ j. g (still_mixed_frame c samples j)) (λ k. pieces (λ i. g (mixed_frame (each k) samples i)) (frames_of buffer block k)) buffer block some chunk_still
