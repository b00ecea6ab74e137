use Rattle.std.specs.Prelude.{replicate}
use Rattle.limits.specs.Limits.{sound_lines}
use Rattle.laws.proofs.laws.Turns.{turned}
use Rattle.chunk.specs.Chunk.{absent_sound_row}
use Rattle.mixer_chunk.specs.ChunkOf.{empty_sound_row}
use Rattle.mixer_chunk.proofs.tables.put_sounds.Invariants.{made}
use Rattle.mixer_chunk.proofs.tables.put_sounds.Goals as goal

pub loop-k-preserved : goal.loop-k-preserved
loop-k-preserved c = turned (made c.args.scene.now c.args.mixer.now) (replicate sound_lines empty_sound_row) absent_sound_row c.loop-k.k c.chunk_sound.ensures c.loop-k.invariant
