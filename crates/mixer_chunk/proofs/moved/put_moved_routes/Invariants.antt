use Rattle.std.proofs.Common.{◌≡◌}
use Rattle.laws.specs.Loop.{changed}
use Rattle.mixer_chunk.specs.Follows.{route_of}
use Rattle.mixer_chunk.proofs.moved.put_moved_routes.Given as goal

abbrev pub invariant-loop-r : goal.invariant-loop-r
invariant-loop-r l = l.rows ≡ changed (λ r x. route_of l.scene l.mixer r) l.r l.initial.rows
