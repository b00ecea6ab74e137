use Prim.Native.Nat.{◌≤◌, ◌-◌}
use lib.ListN.{length}
use Rattle.iff_chunks.specs.Chunks.{walk_of}
use Rattle.iff_chunks.proofs.laws.Walk.{Walks}
use Rattle.iff_chunks.proofs.form.walk.Given as goal

abbrev pub invariant-loop-at : goal.invariant-loop-at
invariant-loop-at l = (12 ≤ l.at) × Walks l.order l.a l.b l.file l.at l.first l.second (walk_of l.order l.a l.b l.file)

abbrev pub decreases-loop-at : goal.decreases-loop-at
decreases-loop-at l = length l.file - l.at
