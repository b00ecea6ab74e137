-- track/send.rs.
use Rattle.std.specs.Prelude.{List, ℕ, suc, ◌*◌, ◌<◌, Float}
use Rattle.limits.specs.Limits.{send_lines, chunk_frames_most}
use Rattle.laws.specs.Loop.{upto}
use Rattle.frame.specs.declared.frame.Frame.{Frame}
use Rattle.chunk.specs.declared.chunk.Level.{Level}
use Rattle.chunk.specs.declared.chunk.Chunk.{Chunk}
use Rattle.frame.specs.Frame.{zero_frame, added, scaled, cleared}
use Rattle.frame.specs.Layout.{Layout, scratch, frame_at, with_frames}
use Rattle.frame.specs.Running.{Both, Running}
use Rattle.chunk.specs.Chunk.{amount_at, level_amplitude}

-- a send track's input to its scaled frame, at frame i of n
unfoldable pub send_frame : Level → ℕ → ℕ → Frame → Frame
send_frame level n i input = scaled (added zero_frame input) (level_amplitude level (amount_at i n))

-- ---- as steps on the frames of a buffer

-- scaled by a level
unfoldable pub level_scaled : Level → ℕ → ℕ → Frame → Frame
level_scaled level n i a = scaled a (level_amplitude level (amount_at i n))

-- a send track's scaled frames added onto a mix, from its input
unfoldable pub added_send : Level → ℕ → (ℕ → Frame) → ℕ → Frame → Frame
added_send level n input i a = added a (send_frame level n i (input i))

-- ---- The inputs of all send tracks stand in one buffer, each in its own part, which has room for the longest chunk.

abbrev pub send_part : ℕ
send_part = 2 * chunk_frames_most

abbrev pub send_places : ℕ
send_places = send_lines * send_part

-- the frames of send track s + 1
abbrev pub send_layout : (s n : ℕ) → Layout (s * send_part) n
send_layout s n = scratch (s * send_part) n

-- a step on the n frames of each send track, which are counted from 1
unfoldable pub on_sends : ℕ → (ℕ → ℕ → Frame → Frame) → List Float → List Float
on_sends n f l = upto (λ s r. with_frames (send_layout s n) (f (suc s)) r) send_lines l

-- the n frames of the first `count` send tracks cleared
unfoldable pub cleared_sends : ℕ → ℕ → List Float → List Float
cleared_sends n count l = upto (λ s r. with_frames (send_layout s n) cleared r) count l

-- the inputs of a chunk's send tracks are running sums
abbrev pub SendsRunning : Chunk → List Float → Type 0
SendsRunning c l = (s i : ℕ) → s < c.send_count → i < c.frames → Both Running (frame_at (send_layout s c.frames) l i)
