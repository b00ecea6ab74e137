use Prim.Native.Nat.{◌+◌, ◌-◌}
use lib.ListN.{length}
use Rattle.scene_file.proofs.laws.Fields.{RowLoop}
use Rattle.scene_file.proofs.grammar.row.Given as goal

abbrev pub invariant-loop-from : goal.invariant-loop-from
invariant-loop-from l = RowLoop l.line l.at l.initial.values l.values l.j l.from

abbrev pub decreases-loop-from : goal.decreases-loop-from
decreases-loop-from l = length l.line + 1 - l.from
