-- `Level::amplitude_at` meets its contract. Assumes nothing.
use native.Mathlib.Omega.{arith}
use Rattle.chunk.proofs.laws.Chunk.{parts_admitted, amplitude_is}
use Rattle.chunk.proofs.chunk.Level.amplitude_at.Goals as goal

pub amplitude_at-requires : goal.amplitude_at-requires
amplitude_at-requires c = record { gain_table = c.requires.gain_table; frame_in_range = omega (arith, c.requires.frame_in_a_chunk.0, c.requires.frame_in_a_chunk.1); admitted = parts_admitted c.args.frames c.args.i c.args.parts.now c.requires.parts_of_the_chunk c.requires.frame_in_a_chunk.1 c.requires.frame_in_a_chunk.0 c.args.self c.requires.level_in_range }

pub returns : goal.returns
returns c = amplitude_is c.args.frames c.args.i c.args.parts.now c.requires.parts_of_the_chunk c.requires.frame_in_a_chunk.1 c.requires.frame_in_a_chunk.0 c.args.self c.amplitude_at.ensures
