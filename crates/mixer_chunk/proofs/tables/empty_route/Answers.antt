use mathlib.Core.Path.{refl}
use lib.Ieee.{of_int, of_bits}
use Rattle.mixer_chunk.specs.ChunkOf.{empty_route_row}
use Rattle.mixer_chunk.proofs.tables.empty_route.Goals as goal

pub returns : goal.returns
unfolding empty_route_row of_int of_bits
returns c = refl
