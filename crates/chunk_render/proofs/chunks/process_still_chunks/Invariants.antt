use Rattle.std.proofs.Common.{◌≡◌}
use Rattle.laws.specs.Pieces.{pieces, begun}
use Rattle.chunk_render.specs.Block.{still_chunk}
use Rattle.chunk_render.proofs.laws.Mixed.{Rests}
use Rattle.chunk_render.proofs.laws.Turn.{played_before}
use Rattle.chunk_render.proofs.chunks.process_still_chunks.Given as goal

abbrev pub invariant-loop-k : goal.invariant-loop-k
invariant-loop-k l =
    (l.mixer ≡ played_before l.scene l.head l.initial.mixer l.k)
    × (l.out ≡ begun (pieces (still_chunk l.scene l.heard l.initial.mixer) l.k) l.initial.out)
    × Rests l.scene l.initial.mixer l.chunk
