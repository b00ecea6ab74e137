-- `block_step` meets its contract. Assumes nothing.
use lib.Ieee.{of_bits, of_int}
use Rattle.chunk_render.proofs.laws.Nanos.{step_some, step_none}
use Rattle.chunk_render.proofs.length.block_step.Goals as goal

pub returns-then-step-2 : goal.returns-then-step-2
unfolding of_bits of_int
returns-then-step-2 c = step_some _ c.if-step.true c.if-step-2.true

pub returns-else-step-2 : goal.returns-else-step-2
unfolding of_bits
returns-else-step-2 c = step_none

pub returns-else-step : goal.returns-else-step
unfolding of_bits
returns-else-step c = step_none
