-- What a sound still has to play as a part of the buffer that it is from, and what such a part adds to a chunk.
use Rattle.std.specs.Prelude.{cond, List, ℕ, ◌+◌, ◌-◌, ◌*◌, ◌/◌, ltb, length, take, drop, Float}
use Rattle.recordings.specs.Recordings.{Recordings, recording}
use Rattle.frame.specs.declared.frame.Frame.{Frame}
use Rattle.chunk.specs.declared.chunk.ChunkSound.{ChunkSound}
use Rattle.frame.specs.Frame.{zero_frame, added, sample_frame}

-- the samples of the `left` frames from frame `start` on
abbrev pub remaining_part : Recordings → ChunkSound → List Float
remaining_part samples s =
    let first = 2 * s.start in
    let end = 2 * (s.start + s.left) in
    take (end - first) (drop first (recording samples s.from))

-- what a part plays at frame i of the chunk: its frames in turn, then zeros
unfoldable pub part_frame : List Float → ℕ → Frame
part_frame part i = cond (ltb i (length part / 2)) (sample_frame part i) zero_frame

-- one part, as a step on frames
unfoldable pub added_part : List Float → ℕ → Frame → Frame
added_part part i a = added a (part_frame part i)

-- the zeros that follow it
abbrev pub added_zero : ℕ → Frame → Frame
added_zero i a = added a zero_frame
