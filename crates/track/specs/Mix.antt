-- backend/resources/mixer.rs and track/main.rs: the mix of a chunk.
use Rattle.std.specs.Prelude.{List, ℕ, suc, Float}
use Rattle.recordings.specs.Recordings.{Recordings}
use Rattle.limits.specs.Limits.{track_depth}
use Rattle.laws.specs.Loop.{downto}
use Rattle.frame.specs.declared.frame.Frame.{Frame}
use Rattle.chunk.specs.declared.chunk.Chunk.{Chunk}
use Rattle.frame.specs.Frame.{zero_frame, added, scaled}
use Rattle.frame.specs.Layout.{frame_at}
use Rattle.chunk.specs.Chunk.{amount_at, level_amplitude, send_row}
use Rattle.track_sounds.specs.Sound.{with_sounds}
use Rattle.track.specs.Sub.{over_sub_tracks, track_frame, with_sub_sends}
use Rattle.send_track.specs.Send.{send_frame, added_send, send_layout}

-- what all tracks add to send track s, counted from 1
unfoldable pub send_input : Chunk → Recordings → ℕ → ℕ → Frame
send_input c samples s i = with_sub_sends track_depth c samples 0 s i zero_frame

-- the sum of the tracks right under the mixer
unfoldable pub tracks_frame : Chunk → Recordings → ℕ → Frame
tracks_frame c samples i = over_sub_tracks c 0 (λ line x. added x (track_frame track_depth c samples line i)) zero_frame

-- Frame i: the tracks, then the send tracks, then the main track's sounds, and the main volume.
unfoldable pub mixed_frame : Chunk → Recordings → ℕ → Frame
mixed_frame c samples i =
    let sends = downto (λ s x. added x (send_frame (send_row c s) c.frames i (send_input c samples (suc s) i))) c.send_count (tracks_frame c samples i) in
    scaled (with_sounds c samples 0 i sends) (level_amplitude c.main (amount_at i c.frames))

-- ---- as steps on the frames of a buffer

unfoldable pub tracks_set : Chunk → Recordings → ℕ → Frame → Frame
tracks_set c samples i a = tracks_frame c samples i

-- the send tracks' scaled frames added, their inputs given as a buffer
unfoldable pub with_send_tracks : Chunk → List Float → ℕ → Frame → Frame
with_send_tracks c inputs i a = downto (λ s x. added_send (send_row c s) c.frames (frame_at (send_layout s c.frames) inputs) i x) c.send_count a

unfoldable pub mixed_set : Chunk → Recordings → ℕ → Frame → Frame
mixed_set c samples i a = mixed_frame c samples i
