-- The factors of a level that moves are made, and each frame is scaled by its own (`laws`, Steady).
use mathlib.Core.Path.{◌∙◌}
use mathlib.Core.List.{List}
use lib.ListN.{replicate, length-replicate}
use lib.Ieee.{Float, binary32, of_bits}
use borrow.Author.Rules.{rules}
use Rattle.limits.specs.Limits.{chunk_frames_most}
use Rattle.send_track.proofs.laws.Steady.{scaled_each, level_each}
use Rattle.send_track.proofs.send.apply_factors.Goals as goal

-- what the factors' array holds at first
abbrev empty : List Float
empty = replicate chunk_frames_most (of_bits binary32 0)

pub returns : goal.returns
returns c =
    c.each_frame.ensures (scaled_each c.amplitudes.new.factors) (λ i a b p m. search rules)
    ∙ level_each c.args.frames c.requires.room_for_chunk.0 c.args.level c.args.out.now empty (length-replicate chunk_frames_most (of_bits binary32 0)) c.amplitudes.ensures
