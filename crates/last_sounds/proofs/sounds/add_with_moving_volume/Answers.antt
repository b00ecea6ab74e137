-- The factors of the volume are made, two parts are added, and each frame is scaled by its factor times the fade's one amplitude: that comes to one
-- step on all frames, then the next (`laws`, Sounds and Steady).
use mathlib.Core.Path.{◌∙◌}
use mathlib.Core.List.{List}
use lib.ListN.{replicate, length-replicate}
use lib.Ieee.{Float, binary32, of_bits}
use borrow.Author.Rules.{rules}
use Rattle.limits.specs.Limits.{chunk_frames_most}
use Rattle.track_volume.proofs.laws.Steady.{scaled_each_by, volume_each}
use Rattle.last_sounds.proofs.laws.Sounds.{both_played, after_both, both_then}
use Rattle.last_sounds.proofs.sounds.add_with_moving_volume.Goals as goal

-- what the factors' array holds at first
abbrev empty : List Float
empty = replicate chunk_frames_most (of_bits binary32 0)

pub returns : goal.returns
returns c =
    let n = c.args.frames in
    let out = c.args.out.now in
    let by = scaled_each_by c.amplitudes.new.factors c.steady_amplitude-by.result in
    both_then c.args.first.now c.args.second.now n out by c.requires.frames_in_both.0 c.requires.frames_in_both.1 c.requires.room_for_chunk.1
    (c.each_frame.ensures (λ k a. by k (both_played c.args.first.now c.args.second.now k a)) (λ i a b p m. search rules))
    ∙ volume_each n c.requires.room_for_chunk.0 c.args.track (after_both c.args.first.now c.args.second.now n out) empty c.requires.steady_fade c.requires.levels_in_range.1 c.steady_amplitude-by.ensures (length-replicate chunk_frames_most (of_bits binary32 0)) c.amplitudes.ensures
