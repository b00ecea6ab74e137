-- The factors of the volume are made, and each frame is scaled by its factor times the fade's one amplitude (`laws`, Steady).
use mathlib.Core.Path.{◌∙◌}
use mathlib.Core.List.{List}
use lib.ListN.{replicate, length-replicate}
use lib.Ieee.{Float, binary32, of_bits}
use borrow.Author.Rules.{rules}
use Rattle.limits.specs.Limits.{chunk_frames_most}
use Rattle.track_volume.proofs.laws.Steady.{scaled_each_by, volume_each}
use Rattle.track_volume.proofs.volume.apply_moving_volume.Goals as goal

-- what the factors' array holds at first
abbrev empty : List Float
empty = replicate chunk_frames_most (of_bits binary32 0)

pub returns : goal.returns
returns c =
    c.each_frame.ensures (scaled_each_by c.amplitudes.new.factors c.steady_amplitude-by.result) (λ i a b p m. search rules)
    ∙ volume_each c.args.frames c.requires.room_for_chunk.0 c.args.track c.args.out.now empty c.requires.steady_fade c.requires.levels_in_range.1 c.steady_amplitude-by.ensures (length-replicate chunk_frames_most (of_bits binary32 0)) c.amplitudes.ensures
