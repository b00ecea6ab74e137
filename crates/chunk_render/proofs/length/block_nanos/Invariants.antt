use Rattle.std.proofs.Common.{◌≡◌, ◌^◌, ◌≤◌}
use Rattle.chunk_render.proofs.laws.Nanos.{nanos_to}
use Rattle.chunk_render.proofs.length.block_nanos.Given as goal

abbrev pub invariant-loop-k : goal.invariant-loop-k
invariant-loop-k l = (l.nanos ≤ 2 ^ 62) × (l.nanos ≡ nanos_to l.head l.k)
