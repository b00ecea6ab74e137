use Rattle.std.proofs.Common.{◌≡◌, ◌<◌}
use Rattle.laws.specs.Pieces.{pieces, begun}
use Rattle.mixer_chunk.specs.Follows.{Kept}
use Rattle.renderer.specs.Renderer.{chunks_done}
use Rattle.renderer.proofs.laws.Lengths.{block_piece}
use Rattle.chunk_render.proofs.chunks.process_chunks.Given as goal

abbrev pub invariant-loop-k : goal.invariant-loop-k
invariant-loop-k l =
    (l.mixer ≡ chunks_done l.scene l.k l.initial.mixer)
    × (l.out ≡ begun (pieces (block_piece l.scene l.heard l.initial.mixer) l.k) l.initial.out)
    × (0 < l.k → Kept l.scene l.mixer l.chunk)
