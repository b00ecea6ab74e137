-- The chunks of a block: what the code asks, and what is heard of a block of which nothing moves but the sounds.
use Rattle.std.specs.Prelude.{◌≡◌, ℕ, ◌+◌, ◌-◌, ◌*◌, ◌<◌, ◌≤◌, List, take, replicate, slice_index_or, Float}
use Rattle.recordings.specs.Recordings.{Recordings}
use Rattle.limits.specs.Limits.{clock_lines, chunk_frames_most, block_frames_most, rate_most}
use Rattle.rounding.specs.Duration.{InAnHour, nanos_from_secs}
use Rattle.laws.specs.Loop.{upto, changed}
use Rattle.laws.specs.Pieces.{pieces}
use Rattle.clock.specs.declared.when_to_start.Clocks.{Clocks}
use Rattle.clock.specs.Clock.{ticks_of}
use Rattle.clock.specs.WhenToStart.{clocks_updated, ClocksLaid, CanMoveAll, absent_clock}
use Rattle.clock.specs.ChunkTime.{chunk_time}
use Rattle.scene.specs.declared.scene.Head.{Head}
use Rattle.scene.specs.declared.scene.Scene.{Scene}
use Rattle.chunk.specs.declared.chunk.Chunk.{Chunk}
use Rattle.chunk.specs.Chunk.{ChunkOk, parts_of}
use Rattle.frame.specs.Frame.{clamped}
use Rattle.track.specs.Mix.{mixed_frame}
use Rattle.track_sounds.specs.declared.chunk_links.ChunkLinks.{ChunkLinks}
use Rattle.track_sounds.specs.Owners.{Linked}
use Rattle.mixer.specs.declared.mixer.Mixer.{Mixer}
use Rattle.mixer.specs.Mixer.{mixer_new}
use Rattle.mixer.specs.Mixes.{MixerMixes}
use Rattle.mixer.specs.Sounds.{sounds_played}
use Rattle.mixer_chunk.specs.ChunkOf.{chunk_of}
use Rattle.renderer.specs.Renderer.{chunk_count, chunk_frames, channels_of, in_chunk, chunks_done}
use Rattle.chunk_render.specs.declared.chunks.BlockParts.{BlockParts}

-- n frames of a chunk's mix: each is clamped, then folded
unfoldable pub mixed_samples : ℕ → ℕ → Chunk → Recordings → List Float
mixed_samples channels n c samples = pieces (λ i. channels_of channels (clamped (mixed_frame c samples i))) n

-- ---- what the code asks

-- the links are those of a scene's chunks, whose lines are always the same
abbrev pub LinksOfScene : Scene → ChunkLinks → Type 0
LinksOfScene s l = Linked (chunk_of s s.head.buffer (mixer_new s)) l

-- the parts are those of a full chunk of a head, and of a block's last chunk
pub record PartsOf (h : Head) (p : BlockParts) : Type 0 where
  pub full : p.full ≡ parts_of h.buffer
  pub last : p.last ≡ parts_of (chunk_frames h (chunk_count h - 1))

-- chunks can be made of a mixer, and mixed
pub record CanMix (s : Scene) (samples : Recordings) (m : Mixer) : Type 0 where
  pub mixes : MixerMixes s m
  pub chunks : (n : ℕ) → n ≤ chunk_frames_most → ChunkOk (chunk_of s n m) samples

abbrev pub seconds : Head → ℕ → Float
seconds h k = chunk_time h.rate (chunk_frames h k)

-- a mixer can move through a block, and each of its chunks can be mixed
pub record CanRender (s : Scene) (samples : Recordings) (m : Mixer) : Type 0 where
  pub clocks : (k : ℕ) → k < chunk_count s.head → CanMoveAll (chunks_done s k m).clocks (seconds s.head k)
  pub mixed : (k : ℕ) → k < chunk_count s.head → CanMix s samples (in_chunk s k (chunks_done s k m))

-- the same where nothing moves but the sounds
pub record CanPlay (s : Scene) (samples : Recordings) (m : Mixer) : Type 0 where
  pub mixed : (n : ℕ) → CanMix s samples (sounds_played s n m)

-- ---- a block of which nothing moves but the sounds

-- No chunk's end is heard in it, and its chunks are as long as they can be.
unfoldable pub still_head : Head → Head
still_head h = record { rate = h.rate; channels = h.channels; buffer = chunk_frames_most; block = h.block; blocks = h.blocks; volume = h.volume }

-- chunk k, from the mixer before the block
unfoldable pub still_chunk : Scene → Recordings → Mixer → ℕ → List Float
still_chunk s samples m k =
    let n = chunk_frames (still_head s.head) k in mixed_samples s.head.channels n (chunk_of s n (sounds_played s (k * chunk_frames_most) m)) samples

unfoldable pub still_samples : Scene → Recordings → Mixer → List Float
still_samples s samples m = pieces (still_chunk s samples m) (chunk_count (still_head s.head))

-- ---- the clocks of a block

-- before chunk k
unfoldable pub chunk_clocks : Head → ℕ → Clocks → Clocks
chunk_clocks h k clocks = upto (λ j c. clocks_updated c (chunk_time h.rate (chunk_frames h j))) k clocks

-- the ticks that each clock has counted, and those at a block's end
unfoldable pub clock_ticks : Clocks → List ℕ
clock_ticks cs = changed (λ i x. ticks_of (slice_index_or cs.clocks i absent_clock).state) cs.count (replicate clock_lines 0)

abbrev pub end_ticks : Head → Clocks → List ℕ
end_ticks h clocks = take clocks.count (clock_ticks (chunk_clocks h (chunk_count h) clocks))

-- the clocks can move, chunk by chunk
pub record ClocksAsk (h : Head) (clocks : Clocks) : Type 0 where
  pub laid : ClocksLaid clocks
  pub rate : h.rate ≤ rate_most
  pub buffer : (1 ≤ h.buffer) × (h.buffer ≤ chunk_frames_most)
  pub block : h.block ≤ block_frames_most
  pub ticks : (k : ℕ) → k < chunk_count h → CanMoveAll (chunk_clocks h k clocks) (seconds h k)

-- ---- how long a block is

-- in nanoseconds: each chunk's are rounded by themselves
unfoldable pub block_nanos : Head → ℕ
block_nanos h = upto (λ j n. n + nanos_from_secs (seconds h j)) (chunk_count h) 0

-- what counting them asks
pub record NanosAsk (h : Head) : Type 0 where
  pub rate : h.rate ≤ rate_most
  pub buffer : (1 ≤ h.buffer) × (h.buffer ≤ chunk_frames_most)
  pub block : h.block ≤ block_frames_most
  pub hours : (k : ℕ) → k < chunk_count h → InAnHour (seconds h k)
