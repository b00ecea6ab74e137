use mathlib.Core.Path.{◌∙◌}
use Rattle.chunk.proofs.laws.Chunk.{parts_admitted, parts_monotone, factors_are}
use Rattle.chunk.proofs.chunk.Level.amplitudes.Goals as goal

pub amplitudes-requires : goal.amplitudes-requires
amplitudes-requires c =
    let monotone = parts_monotone c.args.frames c.args.parts.now c.requires.parts_of_the_chunk c.requires.frames_in_a_chunk c.args.self c.requires.level_in_range in
    record { gain_table = c.requires.gain_table; frames_in_a_chunk = c.requires.frames_in_a_chunk; admitted = λ i h. parts_admitted c.args.frames i c.args.parts.now c.requires.parts_of_the_chunk c.requires.frames_in_a_chunk h c.args.self c.requires.level_in_range; monotone = monotone }

pub returns : goal.returns
returns c = c.amplitudes.ensures ∙ factors_are c.args.self c.args.frames c.args.parts.now c.args.factors.now c.requires.parts_of_the_chunk c.requires.frames_in_a_chunk
