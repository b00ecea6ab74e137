-- The mix of a chunk whose levels stand still: frame i is the same however many frames the chunk has. Then what such a chunk is, and a chunk whose sounds have played n frames more. Tracks and send tracks are counted as in `track`. Assumes nothing.
use mathlib.Core.Path.{◌≡◌}
use mathlib.Core.Bool.{Bool, true, cond}
use Prim.Native.Nat.{ℕ, zero, suc, ◌+◌, ◌-◌, ◌*◌, ◌/◌, ◌<◌}
use lib.Dec.{eqb, ltb}
use lib.Ieee.{binary32, mul}
use Rattle.recordings.specs.Recordings.{Recordings}
use Rattle.limits.specs.Limits.{track_depth}
use Rattle.laws.specs.Loop.{downto}
use Rattle.decibels.specs.declared.decibels.Amplitude.{Amplitude}
use Rattle.frame.specs.declared.frame.Frame.{Frame}
use Rattle.frame.specs.Frame.{zero_frame, added, scaled}
use Rattle.chunk.specs.declared.chunk.Chunk.{Chunk}
use Rattle.chunk.specs.declared.chunk.ChunkTrack.{ChunkTrack}
use Rattle.chunk.specs.declared.chunk.ChunkSound.{ChunkSound}
use Rattle.chunk.specs.Chunk.{track_row, sound_row, send_row, is_steady, steady_amplitude, ChunkOk}
use Rattle.track_volume.specs.TrackVolume.{placed}
use Rattle.track_sounds.specs.Sound.{with_sounds}
use Rattle.track.specs.Sub.{over_sub_tracks, sum_over, with_routes}

-- volume times fade
unfoldable pub still_track_amplitude : ChunkTrack → Amplitude
still_track_amplitude t = record { 0 = mul binary32 (steady_amplitude t.volume).0 (steady_amplitude t.fade).0 }

-- frame i of track `line`, with d levels of tracks left
unfoldable pub still_track_frame : ℕ → Chunk → Recordings → ℕ → ℕ → Frame
still_track_frame zero c samples line i = zero_frame
still_track_frame (suc d) c samples line i =
    let track = track_row c (line - 1) in
    cond track.advancing
    (scaled (placed track.placing (sum_over (λ below. still_track_frame d c samples below i) c samples line i)) (still_track_amplitude track))
    zero_frame

-- what track `line` and the tracks below it add to send track s at frame i
unfoldable pub with_still_track_sends : ℕ → Chunk → Recordings → ℕ → ℕ → ℕ → Frame → Frame
with_still_track_sends zero c samples line s i a = a
with_still_track_sends (suc d) c samples line s i a =
    cond (track_row c (line - 1)).advancing
    (with_routes c line s (still_track_frame (suc d) c samples line i) (over_sub_tracks c line (λ below x. with_still_track_sends d c samples below s i x) a))
    a

-- what all tracks add to send track s
unfoldable pub still_send_input : Chunk → Recordings → ℕ → ℕ → Frame
still_send_input c samples s i = over_sub_tracks c 0 (λ below x. with_still_track_sends track_depth c samples below s i x) zero_frame

-- the sum of the tracks right under the mixer
unfoldable pub still_tracks_frame : Chunk → Recordings → ℕ → Frame
still_tracks_frame c samples i = over_sub_tracks c 0 (λ line x. added x (still_track_frame track_depth c samples line i)) zero_frame

unfoldable pub still_mixed_frame : Chunk → Recordings → ℕ → Frame
still_mixed_frame c samples i =
    let sends = downto (λ s x. added x (scaled (added zero_frame (still_send_input c samples (suc s) i)) (steady_amplitude (send_row c s)))) c.send_count (still_tracks_frame c samples i) in
    scaled (with_sounds c samples 0 i sends) (steady_amplitude c.main)

-- no level that is heard moves
pub record StillChunk (c : Chunk) : Type 0 where
  pub main_level : is_steady c.main ≡ true
  pub send_levels : (s : ℕ) → s < c.send_count → is_steady (send_row c s) ≡ true
  pub volumes : (j : ℕ) → j < c.track_count → (track_row c j).advancing ≡ true → is_steady (track_row c j).volume ≡ true
  pub fades : (j : ℕ) → j < c.track_count → (track_row c j).advancing ≡ true → is_steady (track_row c j).fade ≡ true

-- a line number is the main track's, or that of a track that advances
unfoldable pub line_plays : Chunk → ℕ → Bool
line_plays c line = cond (eqb line 0) true (track_row c (line - 1)).advancing

-- a sound that has played n frames more, and what it had left at most
unfoldable pub sound_after : ℕ → ChunkSound → ChunkSound
sound_after n s =
    let by = cond (ltb s.left n) s.left n in
    record { track = s.track; start = s.start + by; left = s.left - by; from = s.from }

-- chunk d is chunk c once the sounds of tracks that play have played n frames more
pub record Shifted (n : ℕ) (c d : Chunk) : Type 0 where
  pub track_count : d.track_count ≡ c.track_count
  pub tracks : d.tracks ≡ c.tracks
  pub send_count : d.send_count ≡ c.send_count
  pub sends : d.sends ≡ c.sends
  pub route_count : d.route_count ≡ c.route_count
  pub routes : d.routes ≡ c.routes
  pub main : d.main ≡ c.main
  pub sound_count : d.sound_count ≡ c.sound_count
  pub sounds : (k : ℕ) → k < c.sound_count → sound_row d k ≡ cond (line_plays c (sound_row c k).track) (sound_after n (sound_row c k)) (sound_row c k)

abbrev pub chunks_of : ℕ → ℕ → ℕ
chunks_of buffer block = (block + buffer - 1) / buffer

-- the frames of chunk k
abbrev pub frames_of : ℕ → ℕ → ℕ → ℕ
frames_of buffer block k = let left = block - k * buffer in cond (ltb left buffer) left buffer

-- The chunks of a block, each still, its sounds having played the frames of those before it. `c` stands at the block's start.
pub record StillRun (samples : Recordings) (buffer block : ℕ) (c : Chunk) (each : ℕ → Chunk) : Type 0 where
  pub lengths : (k : ℕ) → k < chunks_of buffer block → (each k).frames ≡ frames_of buffer block k
  pub shifted : (k : ℕ) → k < chunks_of buffer block → Shifted (k * buffer) c (each k)
  pub still : (k : ℕ) → k < chunks_of buffer block → StillChunk (each k)
  pub ok : (k : ℕ) → k < chunks_of buffer block → ChunkOk (each k) samples
