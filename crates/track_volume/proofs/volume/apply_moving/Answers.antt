-- The factors of volume and fade are made, and each frame is scaled by the product of its two (`laws`, Steady).
use mathlib.Core.Path.{◌∙◌}
use mathlib.Core.List.{List}
use lib.ListN.{replicate, length-replicate}
use lib.Ieee.{Float, binary32, of_bits}
use borrow.Author.Rules.{rules}
use Rattle.limits.specs.Limits.{chunk_frames_most}
use Rattle.track_volume.proofs.laws.Steady.{scaled_twice, track_each}
use Rattle.track_volume.proofs.volume.apply_moving.Goals as goal

-- what the factors' array holds at first
abbrev empty : List Float
empty = replicate chunk_frames_most (of_bits binary32 0)

pub returns : goal.returns
returns c =
    c.each_frame.ensures (scaled_twice c.amplitudes.new.factors c.amplitudes-2.new.factors) (λ i a b p m. search rules)
    ∙ track_each c.args.frames c.requires.room_for_chunk.0 c.args.track c.args.out.now empty (length-replicate chunk_frames_most (of_bits binary32 0)) c.amplitudes.ensures c.amplitudes-2.ensures
