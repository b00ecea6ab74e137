-- Sounds: frames of the buffer that each is from in turn, then zeros.
use Rattle.std.specs.Prelude.{cond, ℕ, ◌+◌, eqb, ltb}
use Rattle.recordings.specs.Recordings.{Recordings, recording}
use Rattle.laws.specs.Loop.{downto}
use Rattle.frame.specs.declared.frame.Frame.{Frame}
use Rattle.chunk.specs.declared.chunk.ChunkSound.{ChunkSound}
use Rattle.chunk.specs.declared.chunk.Chunk.{Chunk}
use Rattle.frame.specs.Frame.{zero_frame, added, sample_frame}
use Rattle.chunk.specs.Chunk.{sound_row}

-- what a sound plays at frame i of the chunk
unfoldable pub sound_frame : Recordings → ChunkSound → ℕ → Frame
sound_frame samples s i = cond (ltb i s.left) (sample_frame (recording samples s.from) (s.start + i)) zero_frame

-- one sound, as a step on frames
unfoldable pub added_sound : Recordings → ChunkSound → ℕ → Frame → Frame
added_sound samples s i a = added a (sound_frame samples s i)

-- the sounds of track `line` (counted from 1; 0 is the main track) added onto a sum, latest line first
unfoldable pub with_sounds : Chunk → Recordings → ℕ → ℕ → Frame → Frame
with_sounds c samples line i sum =
    downto (λ k a. cond (eqb (sound_row c k).track line) (added_sound samples (sound_row c k) i a) a) c.sound_count sum
