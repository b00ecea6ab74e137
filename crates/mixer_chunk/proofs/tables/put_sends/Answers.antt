use Rattle.std.specs.Prelude.{replicate}
use Rattle.limits.specs.Limits.{send_lines}
use Rattle.laws.proofs.laws.Turns.{turned}
use Rattle.chunk.specs.Chunk.{absent_level}
use Rattle.mixer_chunk.specs.ChunkOf.{empty_level}
use Rattle.mixer_chunk.proofs.tables.put_sends.Invariants.{made}
use Rattle.mixer_chunk.proofs.tables.put_sends.Goals as goal

pub loop-i-preserved : goal.loop-i-preserved
loop-i-preserved c = turned (made c.args.mixer.now) (replicate send_lines empty_level) absent_level c.loop-i.i c.level_of.ensures c.loop-i.invariant
