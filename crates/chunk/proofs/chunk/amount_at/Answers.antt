use mathlib.Core.Path.{refl}
use native.Mathlib.Omega.{arith}
use Rattle.chunk.specs.Chunk.{amount_at}
use Rattle.chunk.proofs.laws.Chunk.{frames_in_float}
use Rattle.chunk.proofs.chunk.amount_at.Goals as goal

pub int_to_float-result : goal.int_to_float-result
int_to_float-result c = frames_in_float _ (omega arith)

pub int_to_float-result-2 : goal.int_to_float-result-2
int_to_float-result-2 c = frames_in_float _ (omega arith)

pub returns : goal.returns
unfolding amount_at
returns c = refl
