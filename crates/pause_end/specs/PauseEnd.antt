-- When a pause is over, by the input alone (docs/PAUSES.md). Lines, blocks and the chunks of a block are counted from 0, the chunks from an order on from 1.
use Rattle.std.specs.Prelude.{◌≡◌, Bool, true, cond, ℕ, suc, ◌+◌, ◌-◌, ◌*◌, ◌/◌, ◌%◌, ◌≤◌, ◌<◌, T, Float}
use Rattle.std.specs.Float.{binary64}
use Rattle.std.specs.Float.Ieee.{add, le}
use Rattle.limits.specs.Limits.{track_depth}
use Rattle.recordings.specs.Recordings.{Recordings}
use Rattle.laws.specs.Loop.{upto}
use Rattle.laws.specs.Float.{pos_zero}
use Rattle.rounding.specs.Duration.{secs_from_millis}
use Rattle.clock.specs.ChunkTime.{chunk_time}
use Rattle.tween.specs.declared.start_time.StartTime.TheVariants.{Immediate}
use Rattle.playback.specs.declared.playback_state_manager.PlaybackState.{PlaybackState}
use Rattle.playback.specs.declared.playback_state_manager.PlaybackState.TheVariants.{Pausing, Paused}
use Rattle.scene.specs.declared.scene.Head.{Head}
use Rattle.scene.specs.declared.scene.Scene.{Scene}
use Rattle.scene.specs.declared.scene.OrderKind.TheVariants.{Pause, Resume}
use Rattle.accepted.specs.Lines.{track_line, order_line}
use Rattle.frame.specs.Frame.{zero_frame}
use Rattle.track.specs.Sub.{track_frame}
use Rattle.mixer.specs.Mixer.{state_of}
use Rattle.renderer.specs.Renderer.{chunk_count, mixer_in, chunk_in}

-- ---- what is asked of the scene

-- No order brings the track in or takes it out. There is no such kind of order, so every track stays.
unfoldable pub stays_in_place : Scene → ℕ → Bool
stays_in_place s t = true

-- Track t stands right under the mixer. Order line i is its one pause and starts at once, and no order resumes it. All chunks have `buffer` frames.
pub record PausedOnce (s : Scene) (t i : ℕ) : Type 0 where
  pub there : t < s.track_count
  pub top : (track_line s t).parent ≡ 0
  pub ordered : i < s.order_count
  pub pause : (order_line s i).kind ≡ Pause
  pub index : (order_line s i).index ≡ suc t
  pub start : (order_line s i).start_time ≡ Immediate
  pub only : (j : ℕ) → j < s.order_count → (order_line s j).kind ≡ Pause → (order_line s j).index ≡ suc t → j ≡ i
  pub not_resumed : (j : ℕ) → j < s.order_count → (order_line s j).kind ≡ Resume → (order_line s j).index ≡ suc t → ⊥
  pub stays : T (stays_in_place s t)
  pub divides : s.head.block % s.head.buffer ≡ 0

-- ---- chunks, counted from the order

-- chunk k of block b is chunk n from the order on line i: chunk 1 is the first of the order's block
pub record ChunkSince (s : Scene) (i n b k : ℕ) : Type 0 where
  pub block : b < s.head.blocks
  pub chunk : k < chunk_count s.head
  pub first : 1 ≤ n
  pub counted : b * chunk_count s.head + (k + 1) ≡ (order_line s i).block * chunk_count s.head + n

-- m times rate over 1000 times buffer, rounded up
unfoldable pub fade_chunks : Head → ℕ → ℕ
fade_chunks h m = (m * h.rate + (1000 * h.buffer - 1)) / (1000 * h.buffer)

-- the chunk from the order on line i in which its pause is over at the latest
unfoldable pub last_chunk : Scene → ℕ → ℕ
last_chunk s i = fade_chunks s.head (order_line s i).millis + 1

-- ---- what is shown

abbrev pub state_in : Scene → ℕ → ℕ → ℕ → PlaybackState
state_in s t b k = (state_of (mixer_in s b k).tracks t).playback.state

-- the track is paused in chunk k of block b, once updated, and all its frames are zero
pub record PausedIn (s : Scene) (samples : Recordings) (t b k : ℕ) : Type 0 where
  pub state : state_in s t b k ≡ Paused
  pub frames : (i : ℕ) → track_frame track_depth (chunk_in s b k) samples (suc t) i ≡ zero_frame

-- ---- the fade's time

-- the seconds of n chunks, added up one by one
unfoldable pub elapsed : Head → ℕ → Float
elapsed h n = upto (λ k time. add binary64 time (chunk_time h.rate h.buffer)) n pos_zero

-- they have reached m milliseconds
unfoldable pub reached : Head → ℕ → ℕ → Bool
reached h m n = le (secs_from_millis m) (elapsed h n)

unfoldable pub fade_state : Head → ℕ → ℕ → PlaybackState
fade_state h m n = cond (reached h m n) Paused Pausing
