-- A track's frame in two parts: the sum of what is below it and of its sounds, once it is placed, and what its volume and its state make of that. Assumes nothing.
use mathlib.Core.Path.{◌≡◌, refl, ap}
use mathlib.Core.Bool.{cond}
use Prim.Native.Nat.{ℕ, suc, ◌-◌}
use native.Mathlib.Numerals.{sub-one}
use Rattle.recordings.specs.Recordings.{Recordings}
use Rattle.frame.specs.declared.frame.Frame.{Frame}
use Rattle.chunk.specs.declared.chunk.Chunk.{Chunk}
use Rattle.chunk.specs.declared.chunk.ChunkTrack.{ChunkTrack}
use Rattle.frame.specs.Frame.{zero_frame, scaled}
use Rattle.spatial.specs.declared.placing.Placing.TheVariants.{Plain}
use Rattle.chunk.specs.Chunk.{amount_at, track_amplitude, track_row}
use Rattle.track.specs.Sub.{over_sub_tracks, placed, track_sum, track_frame, with_routes, with_track_sends}
use Rattle.track.proofs.laws.Running.{picked_if}

unfoldable pub track_with : ChunkTrack → ℕ → ℕ → Frame → Frame
track_with track n i frame = cond track.advancing (scaled frame (track_amplitude track (amount_at i n))) zero_frame

unfoldable pub sends_with : ℕ → Chunk → Recordings → ℕ → ℕ → ℕ → ChunkTrack → Frame → Frame
sends_with d c samples line s i track a =
    cond track.advancing (with_routes c line s (track_frame (suc d) c samples line i) (over_sub_tracks c line (λ below x. with_track_sends d c samples below s i x) a)) a

-- track j is line j + 1
line_of : (j : ℕ) → suc j - 1 ≡ j
line_of j = sub-one (suc j)

pub track_parts : (d : ℕ) (c : Chunk) (samples : Recordings) (j i : ℕ)
    → track_frame (suc d) c samples (suc j) i ≡ track_with (track_row c j) c.frames i (placed (track_row c j).placing (track_sum d c samples (suc j) i))
unfolding track_frame track_with
track_parts d c samples j i = ap (λ (k : ℕ). track_with (track_row c k) c.frames i (placed (track_row c k).placing (track_sum d c samples (suc j) i))) (line_of j)

pub placed_plain : (frame : Frame) → placed Plain frame ≡ frame
unfolding placed
placed_plain frame = refl

pub send_parts : (d : ℕ) (c : Chunk) (samples : Recordings) (j s i : ℕ) (a : Frame) → with_track_sends (suc d) c samples (suc j) s i a ≡ sends_with d c samples (suc j) s i (track_row c j) a
unfolding with_track_sends sends_with
send_parts d c samples j s i a = ap (λ (k : ℕ). sends_with d c samples (suc j) s i (track_row c k) a) (line_of j)

-- what holds of either outcome
pub track_holds : (P : Frame → Type 0) (track : ChunkTrack) (n i : ℕ) (frame : Frame) → P (scaled frame (track_amplitude track (amount_at i n))) → P zero_frame → P (track_with track n i frame)
unfolding track_with
track_holds P track n i frame p q = picked_if P track.advancing (scaled frame (track_amplitude track (amount_at i n))) zero_frame (λ t. p) q

pub sends_hold : (P : Frame → Type 0) (d : ℕ) (c : Chunk) (samples : Recordings) (line s i : ℕ) (track : ChunkTrack) (a : Frame)
    → P (with_routes c line s (track_frame (suc d) c samples line i) (over_sub_tracks c line (λ below x. with_track_sends d c samples below s i x) a)) → P a → P (sends_with d c samples line s i track a)
unfolding sends_with
sends_hold P d c samples line s i track a p q =
    picked_if P track.advancing (with_routes c line s (track_frame (suc d) c samples line i) (over_sub_tracks c line (λ below x. with_track_sends d c samples below s i x) a)) a (λ t. p) q
