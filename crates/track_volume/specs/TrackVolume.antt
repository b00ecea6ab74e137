-- track/sub.rs, behind the effects: what a track's frames are scaled by, its placing and then volume times fade.
use Rattle.std.specs.Prelude.{ℕ}
use Rattle.spatial.specs.declared.placing.Placing.{Placing}
use Rattle.spatial.specs.declared.placing.Placing.TheVariants.{Plain, Unheard, Spatial}
use Rattle.spatial.specs.Spatial.{factor}
use Rattle.frame.specs.declared.frame.Frame.{Frame}
use Rattle.frame.specs.Frame.{zero_frame, scaled}
use Rattle.chunk.specs.declared.chunk.ChunkTrack.{ChunkTrack}
use Rattle.chunk.specs.Chunk.{amount_at, track_amplitude}

-- A frame of a track that stands in the room: scaled by its placing's factor, and zero where nobody listens.
unfoldable pub placed : Placing → Frame → Frame
placed Plain frame = frame
placed Unheard frame = zero_frame
placed (Spatial level) frame = scaled frame (record { 0 = factor (Spatial level) })

-- ---- the same as steps on the frames of a buffer

-- its placing
unfoldable pub track_placed : Placing → ℕ → Frame → Frame
track_placed placing i a = placed placing a

-- volume times fade
unfoldable pub track_scaled : ChunkTrack → ℕ → ℕ → Frame → Frame
track_scaled track n i a = scaled a (track_amplitude track (amount_at i n))

-- its placing, then volume times fade
unfoldable pub track_placed_scaled : ChunkTrack → ℕ → ℕ → Frame → Frame
track_placed_scaled track n i a = track_scaled track n i (track_placed track.placing i a)
