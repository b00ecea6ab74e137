use Rattle.std.specs.Prelude.{replicate}
use Rattle.limits.specs.Limits.{track_places}
use Rattle.laws.proofs.laws.Turns.{turned}
use Rattle.chunk.specs.Chunk.{absent_track_row}
use Rattle.mixer_chunk.specs.ChunkOf.{empty_track_row}
use Rattle.mixer_chunk.proofs.tables.put_tracks.Invariants.{made}
use Rattle.mixer_chunk.proofs.tables.put_tracks.Goals as goal

pub loop-t-preserved : goal.loop-t-preserved
loop-t-preserved c = turned (made c.args.scene.now c.args.mixer.now) (replicate track_places empty_track_row) absent_track_row c.loop-t.t c.chunk_track.ensures c.loop-t.invariant
