-- track/sub.rs: the frames of a track, and what it and the tracks below it add to a send track. Tracks are named by their line
-- counted from 1; what is right below line 0 stands under the mixer. Sums start at +0.0 and take the latest line first.
use Rattle.std.specs.Prelude.{cond, ◌&&◌, ℕ, zero, suc, ◌-◌, eqb}
use Rattle.recordings.specs.Recordings.{Recordings}
use Rattle.laws.specs.Loop.{upto, downto}
use Rattle.frame.specs.declared.frame.Frame.{Frame}
use Rattle.chunk.specs.declared.chunk.Chunk.{Chunk}
use Rattle.frame.specs.Frame.{zero_frame, added, scaled}
use Rattle.chunk.specs.Chunk.{amount_at, track_amplitude, track_row, route_row}
use Rattle.track_sounds.specs.Sound.{with_sounds}
unfoldable pub use Rattle.track_volume.specs.TrackVolume.{placed, track_placed, track_scaled, track_placed_scaled}

-- Each track right below `line`, latest line first: its step is taken on the value so far. Track j, counted from 0, is line j + 1.
unfoldable pub over_sub_tracks : Chunk → ℕ → (ℕ → Frame → Frame) → Frame → Frame
over_sub_tracks c line step a = downto (λ j x. cond (eqb (track_row c j).parent line) (step (suc j) x) x) c.track_count a

-- Frame i of track `line` before its placing: the tracks below it, `under` being their frames, then its sounds.
unfoldable pub sum_over : (ℕ → Frame) → Chunk → Recordings → ℕ → ℕ → Frame
sum_over under c samples line i = with_sounds c samples line i (over_sub_tracks c line (λ below x. added x (under below)) zero_frame)

-- Frame i of track `line`, with d levels of tracks left: its sum, its placing, then volume times fade.
-- A track that does not advance gives zeros, and those below it are not asked.
unfoldable pub track_frame : ℕ → Chunk → Recordings → ℕ → ℕ → Frame
track_frame zero c samples line i = zero_frame
track_frame (suc d) c samples line i =
    let track = track_row c (line - 1) in
    cond track.advancing
    (scaled (placed track.placing (sum_over (λ below. track_frame d c samples below i) c samples line i)) (track_amplitude track (amount_at i c.frames)))
    zero_frame

-- its sum, with d levels of tracks below it
abbrev pub track_sum : ℕ → Chunk → Recordings → ℕ → ℕ → Frame
track_sum d c samples line i = sum_over (λ below. track_frame d c samples below i) c samples line i

-- the routes of a track to send track s (counted from 1): a route adds the track's scaled frame, times its amplitude at the chunk's end
unfoldable pub with_routes : Chunk → ℕ → ℕ → Frame → Frame → Frame
with_routes c line s frame a =
    upto (λ r x. cond (eqb (route_row c r).track line && eqb (route_row c r).send s) (added x (scaled frame (route_row c r).amplitude)) x) c.route_count a

-- What track `line` and the tracks below it add to send track s at frame i: those below first.
unfoldable pub with_track_sends : ℕ → Chunk → Recordings → ℕ → ℕ → ℕ → Frame → Frame
with_track_sends zero c samples line s i a = a
with_track_sends (suc d) c samples line s i a =
    cond (track_row c (line - 1)).advancing
    (with_routes c line s (track_frame (suc d) c samples line i) (over_sub_tracks c line (λ below x. with_track_sends d c samples below s i x) a))
    a

-- what the tracks below it add
unfoldable pub with_sub_sends : ℕ → Chunk → Recordings → ℕ → ℕ → ℕ → Frame → Frame
with_sub_sends d c samples line s i a = over_sub_tracks c line (λ below x. with_track_sends d c samples below s i x) a

-- ---- the same as steps on the frames of a buffer

-- its frames before its placing and its volume
unfoldable pub sum_set : ℕ → Chunk → Recordings → ℕ → ℕ → Frame → Frame
sum_set d c samples line i a = track_sum d c samples line i

-- the routes of a track whose scaled frames are given
unfoldable pub with_routes_from : Chunk → ℕ → (ℕ → Frame) → ℕ → ℕ → Frame → Frame
with_routes_from c line frames s i a = with_routes c line s (frames i) a
