use Prim.Native.Nat.{◌-◌}
use Rattle.mixer_orders.proofs.laws.Read.{Resumes}
use Rattle.mixer_orders.proofs.orders.with_resumes.Given as goal

abbrev pub invariant-loop-i : goal.invariant-loop-i
invariant-loop-i l = Resumes l.scene l.block l.initial.mixer l.i l.mixer

abbrev pub decreases-loop-i : goal.decreases-loop-i
decreases-loop-i l = l.count - l.i
