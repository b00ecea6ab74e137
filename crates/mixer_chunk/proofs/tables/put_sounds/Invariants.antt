use Rattle.std.proofs.Common.{◌≡◌, ℕ, get_or}
use Rattle.std.specs.Prelude.{replicate}
use Rattle.limits.specs.Limits.{sound_lines}
use Rattle.laws.specs.Loop.{changed}
use Rattle.scene.specs.declared.scene.Scene.{Scene}
use Rattle.accepted.specs.Lines.{absent_sound_line}
use Rattle.mixer.specs.declared.mixer.Mixer.{Mixer}
use Rattle.chunk.specs.declared.chunk.ChunkSound.{ChunkSound}
use Rattle.mixer_chunk.specs.ChunkOf.{chunk_sound, empty_sound_row}
use Rattle.mixer_chunk.proofs.tables.put_sounds.Given as goal

-- the line that is laid
abbrev pub made : Scene → Mixer → ℕ → ChunkSound → ChunkSound
made s m k x = chunk_sound (get_or s.sounds k absent_sound_line) (get_or m.played k 0)

abbrev pub invariant-loop-k : goal.invariant-loop-k
invariant-loop-k l = l.rows ≡ changed (made l.scene l.mixer) l.k (replicate sound_lines empty_sound_row)
