use mathlib.Core.Path.{refl}
use lib.Ieee.{of_int, of_bits}
use Rattle.mixer_chunk.specs.ChunkOf.{empty_level}
use Rattle.mixer_chunk.proofs.tables.empty_level.Goals as goal

pub returns : goal.returns
unfolding empty_level of_int of_bits
returns c = refl
