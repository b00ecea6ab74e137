use Rattle.std.specs.Prelude.{replicate}
use Rattle.limits.specs.Limits.{route_lines}
use Rattle.laws.proofs.laws.Turns.{turned}
use Rattle.chunk.specs.Chunk.{absent_route_row}
use Rattle.mixer_chunk.specs.ChunkOf.{empty_route_row}
use Rattle.mixer_chunk.proofs.tables.put_routes.Invariants.{made}
use Rattle.mixer_chunk.proofs.tables.put_routes.Goals as goal

pub loop-r-preserved : goal.loop-r-preserved
loop-r-preserved c = turned (made c.args.scene.now c.args.mixer.now) (replicate route_lines empty_route_row) absent_route_row c.loop-r.r c.chunk_route.ensures c.loop-r.invariant
