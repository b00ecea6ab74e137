use Prim.Native.Nat.{◌-◌}
use Rattle.order_links.proofs.laws.Marks.{Marking}
use Rattle.order_links.proofs.marks.last_lines.Given as goal

abbrev pub invariant-loop-i : goal.invariant-loop-i
invariant-loop-i l = Marking l.orders l.count l.block l.i l.marks

abbrev pub decreases-loop-i : goal.decreases-loop-i
decreases-loop-i l = l.count - l.i
