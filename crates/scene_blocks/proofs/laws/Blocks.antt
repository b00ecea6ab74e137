-- A show's blocks: where each block's samples lie, and what a turn of the loop over them writes. Assumes nothing.
use mathlib.Core.Path.{◌≡◌, refl, sym, ap, ◌∙◌, subst}
use mathlib.Core.List.{List, ◌++◌}
use Prim.Native.Nat.{ℕ, zero, suc, ◌+◌, ◌-◌, ◌*◌, ◌≤◌, ◌<◌}
use native.Mathlib.Nat.{le_trans, le_of_eq, le_of_lt, zero-mul, mul-le-mul, mul-le-mul_right}
use native.Mathlib.Omega.{arith}
use lib.Dec.{lit≤}
use lib.ListN.{length, take, drop}
use lib.Ieee.{Float}
use Rattle.recordings.specs.Recordings.{Recordings}
use Rattle.limits.specs.Limits.{chunk_frames_most, block_frames_most}
use Rattle.laws.proofs.laws.Loop.{upto_zero, upto_turn}
use Rattle.laws.specs.Pieces.{pieces, begun}
use Rattle.laws.proofs.laws.Pieces.{length-pieces, part_put, begun_next, begun_end}
use Rattle.scene.specs.declared.scene.Head.{Head}
use Rattle.scene.specs.declared.scene.Scene.{Scene}
use Rattle.accepted.specs.SceneOk.{SceneOk}
use Rattle.mixer.specs.Mixer.{mixer_new}
use Rattle.mixer.specs.Orders.{mixer_ordered}
use Rattle.renderer.specs.Renderer.{chunk_count, chunks_done, block_done, mixer_at, block_samples, rendered}
use Rattle.renderer.proofs.laws.Lengths.{count_covers, chunk_starts, length-block}
use Rattle.chunk_render.specs.Block.{still_head}

-- block b of the show
abbrev pub show_piece : Scene → Recordings → ℕ → List Float
show_piece s samples b = block_samples s samples (mixer_ordered s b (mixer_at s b))

-- samples of a block
abbrev pub width : Scene → ℕ
width s = s.head.block * s.head.channels

-- ---- places

next_width : (b w : ℕ) → b * w + w ≡ (b + 1) * w
next_width b w = omega arith

after : (b w : ℕ) → b * w + w - b * w ≡ w
after b w = omega arith

module _ (s : Scene) (ok : SceneOk s) where
  pub width_most : width s ≤ 4096
  width_most = mul-le-mul ok.block.1 ok.channels.1

  pub show_length : {n : ℕ} → n ≡ s.head.block * s.head.blocks * s.head.channels → n ≡ s.head.blocks * width s
  show_length e = e ∙ turned s.head.block s.head.blocks s.head.channels
    where
      turned : (a b c : ℕ) → a * b * c ≡ b * (a * c)
      turned a b c = omega arith

  module _ (b : ℕ) (l : b < s.head.blocks) where
    pub block_ends : b * width s + width s ≤ s.head.blocks * width s
    block_ends = le_trans (le_of_eq (next_width b (width s))) (mul-le-mul_right (width s) (next b s.head.blocks l))
      where
        next : (b n : ℕ) → b < n → b + 1 ≤ n
        next b n h = omega arith

    pub block_fits : b * width s + width s ≤ 4194304
    block_fits = le_trans block_ends (mul-le-mul ok.blocks.1 width_most)

-- ---- a turn

module _ (s : Scene) (samples : Recordings) (ok : SceneOk s) where
  piece_length : (b : ℕ) → length (show_piece s samples b) ≡ width s
  piece_length b = length-block s samples (mixer_ordered s b (mixer_at s b)) ok.buffer.0

  pieces_length : (n : ℕ) → length (pieces (show_piece s samples) n) ≡ n * width s
  pieces_length n = length-pieces (show_piece s samples) (width s) n (λ i h. piece_length i)

  pub show_turn : (b : ℕ) (out₀ : List Float) {out last : List Float} → out ≡ begun (pieces (show_piece s samples) b) out₀ → last ≡ show_piece s samples b
      → take (b * width s) out ++ (last ++ drop (b * width s + width s - b * width s) (drop (b * width s) out)) ≡ begun (pieces (show_piece s samples) (b + 1)) out₀
  show_turn b out₀ {out} {last} e q =
      part_put (b * width s) (b * width s + width s - b * width s) last out (ap length q ∙ piece_length b ∙ sym (after b (width s)))
      ∙ begun_next (show_piece s samples) b out₀ e (sym (pieces_length b)) q refl

  pub show_end : {b : ℕ} (out₀ : List Float) {out : List Float} → b ≡ s.head.blocks → length out₀ ≡ s.head.blocks * width s → out ≡ begun (pieces (show_piece s samples) b) out₀ → out ≡ rendered s samples
  unfolding rendered
  show_end out₀ h n e = begun_end (show_piece s samples) out₀ h (pieces_length s.head.blocks ∙ sym n) e

pub mixer_start : (s : Scene) → mixer_new s ≡ mixer_at s 0
unfolding mixer_at
mixer_start s = sym (upto_zero (block_done s) (mixer_new s))

pub mixer_next : (s : Scene) (b : ℕ) → chunks_done s (chunk_count s.head) (mixer_ordered s b (mixer_at s b)) ≡ mixer_at s (b + 1)
unfolding mixer_at block_done
mixer_next s b = upto_turn (block_done s) b (mixer_new s) refl

-- ---- the chunks of a block

-- a block has a chunk
pub count_positive : (h : Head) → 1 ≤ h.buffer → 1 ≤ h.block → 1 ≤ chunk_count h
count_positive h some more = go (chunk_count h) (count_covers h some)
  where
    go : (q : ℕ) → h.block ≤ q * h.buffer → 1 ≤ q
    go zero k = absurd (omega (arith, more, zero-mul h.buffer))
    go (suc q) k = omega arith

-- its last chunk begins within it
pub last_starts : (h : Head) → 1 ≤ h.buffer → 1 ≤ h.block → {n : ℕ} → n ≡ chunk_count h → (n - 1) * h.buffer ≤ h.block
last_starts h some more e = le_of_lt (subst (λ (n : ℕ). (n - 1) * h.buffer < h.block) (sym e) (chunk_starts h some (chunk_count h - 1) (omega (arith, count_positive h some more))))

-- ---- the head of longer chunks

pub wide_head : (s : Scene) → SceneOk s → {h : Head} → h ≡ still_head s.head → (1 ≤ h.buffer) × (h.buffer ≤ chunk_frames_most) × (1 ≤ h.block) × (h.block ≤ block_frames_most)
unfolding still_head
wide_head s ok e = subst (λ (x : Head). (1 ≤ x.buffer) × (x.buffer ≤ chunk_frames_most) × (1 ≤ x.block) × (x.block ≤ block_frames_most)) (sym e) (lit≤ tt, lit≤ tt, ok.block.0, ok.block.1)
