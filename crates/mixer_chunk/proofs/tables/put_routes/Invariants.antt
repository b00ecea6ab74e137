use Rattle.std.proofs.Common.{◌≡◌, ℕ, get_or}
use Rattle.std.specs.Prelude.{replicate}
use Rattle.limits.specs.Limits.{route_lines}
use Rattle.laws.specs.Loop.{changed}
use Rattle.scene.specs.declared.scene.Scene.{Scene}
use Rattle.accepted.specs.Lines.{absent_route_line}
use Rattle.mixer.specs.declared.mixer.Mixer.{Mixer}
use Rattle.mixer.specs.Mixer.{parameter_of}
use Rattle.chunk.specs.declared.chunk.ChunkRoute.{ChunkRoute}
use Rattle.mixer_chunk.specs.ChunkOf.{chunk_route, empty_route_row}
use Rattle.mixer_chunk.proofs.tables.put_routes.Given as goal

-- the line that is laid
abbrev pub made : Scene → Mixer → ℕ → ChunkRoute → ChunkRoute
made s m r x = chunk_route (get_or s.routes r absent_route_line) (parameter_of m.routes r)

abbrev pub invariant-loop-r : goal.invariant-loop-r
invariant-loop-r l = l.rows ≡ changed (made l.scene l.mixer) l.r (replicate route_lines empty_route_row)
