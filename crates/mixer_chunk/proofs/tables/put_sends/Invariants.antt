use Rattle.std.proofs.Common.{◌≡◌, ℕ}
use Rattle.std.specs.Prelude.{replicate}
use Rattle.limits.specs.Limits.{send_lines}
use Rattle.laws.specs.Loop.{changed}
use Rattle.mixer.specs.declared.mixer.Mixer.{Mixer}
use Rattle.mixer.specs.Mixer.{parameter_of}
use Rattle.chunk.specs.declared.chunk.Level.{Level}
use Rattle.mixer_chunk.specs.ChunkOf.{level_of, empty_level}
use Rattle.mixer_chunk.proofs.tables.put_sends.Given as goal

-- the line that is laid
abbrev pub made : Mixer → ℕ → Level → Level
made m i x = level_of (parameter_of m.sends i)

abbrev pub invariant-loop-i : goal.invariant-loop-i
invariant-loop-i l = l.rows ≡ changed (made l.mixer) l.i (replicate send_lines empty_level)
