use Rattle.std.proofs.Common.{◌≡◌, ℕ, get_or}
use Rattle.std.specs.Prelude.{replicate}
use Rattle.limits.specs.Limits.{track_places}
use Rattle.laws.specs.Loop.{changed}
use Rattle.scene.specs.declared.scene.Scene.{Scene}
use Rattle.accepted.specs.Lines.{absent_track_line, absent_track_placing}
use Rattle.mixer.specs.declared.mixer.Mixer.{Mixer}
use Rattle.mixer.specs.Mixer.{state_of}
use Rattle.chunk.specs.declared.chunk.ChunkTrack.{ChunkTrack}
use Rattle.mixer_chunk.specs.ChunkOf.{chunk_track, empty_track_row}
use Rattle.mixer_chunk.proofs.tables.put_tracks.Given as goal

-- the line that is laid
abbrev pub made : Scene → Mixer → ℕ → ChunkTrack → ChunkTrack
made s m t x = chunk_track (get_or s.tracks t absent_track_line) (get_or s.placings t absent_track_placing).placing (state_of m.tracks t)

abbrev pub invariant-loop-t : goal.invariant-loop-t
invariant-loop-t l = l.rows ≡ changed (made l.scene l.mixer) l.t (replicate track_places empty_track_row)
