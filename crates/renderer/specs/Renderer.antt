-- backend/renderer.rs: a scene's blocks, their chunks, and the channels of a frame. Blocks and chunks are counted from 0 here.
use Rattle.std.specs.Prelude.{List, [], ◌∷◌, ℕ, ◌+◌, ◌-◌, ◌*◌, ◌/◌, Float, cond, eqb, ltb, pos}
use Rattle.std.specs.Float.{binary32}
use Rattle.std.specs.Float.Ieee.{add, div, of_int}
use Rattle.recordings.specs.Recordings.{Recordings}
use Rattle.laws.specs.Pieces.{pieces}
use Rattle.scene.specs.declared.scene.Head.{Head}
use Rattle.scene.specs.declared.scene.Scene.{Scene}
use Rattle.frame.specs.declared.frame.Frame.{Frame}
use Rattle.frame.specs.Frame.{clamped}
use Rattle.track.specs.Mix.{mixed_frame}
use Rattle.mixer.specs.declared.mixer.Mixer.{Mixer}
use Rattle.mixer.specs.Orders.{mixer_ordered}
use Rattle.mixer_chunk.specs.ChunkOf.{chunk_of}
use Rattle.laws.specs.Loop.{upto}
use Rattle.clock.specs.ChunkTime.{chunk_time}
use Rattle.mixer.specs.Mixer.{mixer_new, mixer_update}
use Rattle.mixer.specs.Sounds.{sounds_played}
use Rattle.chunk.specs.declared.chunk.Chunk.{Chunk}

-- ---- chunks: a block is cut in chunks of `buffer` frames, the last perhaps shorter

unfoldable pub chunk_count : Head → ℕ
chunk_count h = (h.block + h.buffer - 1) / h.buffer

unfoldable pub chunk_frames : Head → ℕ → ℕ
chunk_frames h k = let left = h.block - k * h.buffer in cond (ltb left h.buffer) left h.buffer

-- ---- the mixer in time

-- once updated in chunk k of a block, from how it stood before the chunk
unfoldable pub in_chunk : Scene → ℕ → Mixer → Mixer
in_chunk s k m = mixer_update s (chunk_time s.head.rate (chunk_frames s.head k)) m

-- after chunk k: the sounds have played its frames
unfoldable pub chunk_done : Scene → ℕ → Mixer → Mixer
chunk_done s k m = sounds_played s (chunk_frames s.head k) (in_chunk s k m)

-- after the first k chunks of a block, from how it stood once the block's orders were read
unfoldable pub chunks_done : Scene → ℕ → Mixer → Mixer
chunks_done s k m = upto (chunk_done s) k m

-- a block: orders first
unfoldable pub block_done : Scene → ℕ → Mixer → Mixer
block_done s b m = chunks_done s (chunk_count s.head) (mixer_ordered s b m)

-- before block b of the show
unfoldable pub mixer_at : Scene → ℕ → Mixer
mixer_at s b = upto (block_done s) b (mixer_new s)

-- the mixer in chunk k of block b, once updated
abbrev pub mixer_in : Scene → ℕ → ℕ → Mixer
mixer_in s b k = in_chunk s k (chunks_done s k (mixer_ordered s b (mixer_at s b)))

-- what mixing reads there
abbrev pub chunk_in : Scene → ℕ → ℕ → Chunk
chunk_in s b k = chunk_of s (chunk_frames s.head k) (mixer_in s b k)

-- ---- samples

-- What channel c of a frame gets: one channel is both sides folded; of more, the first two are left and right, and the others silent.
unfoldable pub channel_at : ℕ → Frame → ℕ → Float
channel_at channels a c =
    cond (eqb channels 1) (div binary32 (add binary32 a.left a.right) (of_int binary32 (pos 2)))
    (cond (eqb c 0) a.left (cond (eqb c 1) a.right (of_int binary32 (pos 0))))

unfoldable pub channels_of : ℕ → Frame → List Float
channels_of channels a = pieces (λ c. channel_at channels a c ∷ []) channels

-- chunk k, from the mixer once updated in it: each frame of the mix is clamped, then folded
unfoldable pub chunk_samples : Scene → Recordings → ℕ → Mixer → List Float
chunk_samples s samples k m =
    let n = chunk_frames s.head k in
    pieces (λ i. channels_of s.head.channels (clamped (mixed_frame (chunk_of s n m) samples i))) n

-- a block, from the mixer once its orders are read
unfoldable pub block_samples : Scene → Recordings → Mixer → List Float
block_samples s samples m = pieces (λ k. chunk_samples s samples k (in_chunk s k (chunks_done s k m))) (chunk_count s.head)

-- the show
unfoldable pub rendered : Scene → Recordings → List Float
rendered s samples = pieces (λ b. block_samples s samples (mixer_ordered s b (mixer_at s b))) s.head.blocks
