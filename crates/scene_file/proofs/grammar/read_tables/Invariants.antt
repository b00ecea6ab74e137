use Prim.Native.Nat.{◌-◌}
use lib.ListN.{length}
use Rattle.scene_tables.specs.Tables.{tables}
use Rattle.scene_file.proofs.laws.Layout.{TablesLoop}
use Rattle.scene_file.proofs.grammar.read_tables.Given as goal

abbrev pub invariant-loop-t : goal.invariant-loop-t
invariant-loop-t l = TablesLoop l.file l.initial.values l.values l.starts l.counts l.t l.next l.at l.name l.more

abbrev pub decreases-loop-t : goal.decreases-loop-t
decreases-loop-t l = length tables - l.t
