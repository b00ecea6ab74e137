use mathlib.Core.Path.{refl}
use native.Mathlib.Omega.{arith}
use lib.Ieee.{of_int, of_bits}
use Rattle.renderer.proofs.laws.Renderer.{held_in_float}
use Rattle.renderer.proofs.renderer.chunk_seconds.Goals as goal

pub int_to_float-result : goal.int_to_float-result
int_to_float-result c = held_in_float _ (omega arith)

pub int_to_float-result-2 : goal.int_to_float-result-2
int_to_float-result-2 c = held_in_float _ (omega arith)

pub returns : goal.returns
unfolding of_int of_bits
returns c = refl
