use Rattle.std.proofs.Common.{◌≡◌}
use Rattle.chunk_render.specs.Block.{chunk_clocks}
use Rattle.chunk_render.proofs.length.block_clocks.Given as goal

abbrev pub invariant-loop-k : goal.invariant-loop-k
invariant-loop-k l = l.clocks ≡ chunk_clocks l.head l.k l.initial.clocks
