-- A level that stands still goes its own way; of one that moves the factors are made, and each frame is added scaled by its factor (`laws`, Steady).
use mathlib.Core.Path.{sym, ◌∙◌}
use mathlib.Core.List.{List}
use lib.ListN.{replicate, length-replicate}
use lib.Ieee.{Float, binary32, of_bits}
use borrow.Author.Rules.{rules}
use Rattle.limits.specs.Limits.{chunk_frames_most}
use Rattle.frame.specs.Layout.{scratch, frame_at}
use Rattle.send_track.proofs.laws.Steady.{sent_each, send_each}
use Rattle.send_track.proofs.send.add_send.Goals as goal

-- what the factors' array holds at first
abbrev empty : List Float
empty = replicate chunk_frames_most (of_bits binary32 0)

pub add_steady_send-requires : goal.add_steady_send-requires
add_steady_send-requires c = record { gain_table = c.requires.gain_table; room_for_chunk = c.requires.room_for_chunk; frames_in_inputs = c.requires.frames_in_inputs; level_in_range = c.requires.level_in_range; steady_level = sym c.is_steady.ensures ∙ c.if-is_steady.true }

pub returns : goal.returns
returns c =
    let input = frame_at (scratch c.args.first c.args.frames) c.args.inputs.now in
    c.each_frame.ensures (sent_each input c.amplitudes.new.factors) (λ i a b p m. search rules)
    ∙ send_each c.args.frames c.requires.room_for_chunk.0 c.args.level input c.args.out.now empty (length-replicate chunk_frames_most (of_bits binary32 0)) c.amplitudes.ensures
