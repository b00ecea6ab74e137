use Prim.Native.Nat.{◌-◌}
use lib.ListN.{length}
use Rattle.scene_file.proofs.laws.Sections.{RowsLoop}
use Rattle.scene_file.proofs.grammar.rows.Given as goal

abbrev pub invariant-loop-next : goal.invariant-loop-next
invariant-loop-next l = RowsLoop l.file l.from l.width l.at l.initial.values l.values l.next l.k l.n

abbrev pub decreases-loop-next : goal.decreases-loop-next
decreases-loop-next l = length l.file - l.next
