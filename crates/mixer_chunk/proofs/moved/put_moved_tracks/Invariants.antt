use Rattle.std.proofs.Common.{◌≡◌}
use Rattle.laws.specs.Loop.{changed}
use Rattle.mixer_chunk.specs.Follows.{track_of}
use Rattle.mixer_chunk.proofs.moved.put_moved_tracks.Given as goal

abbrev pub invariant-loop-t : goal.invariant-loop-t
invariant-loop-t l = l.rows ≡ changed (λ t x. track_of l.scene l.mixer t) l.t l.initial.rows
