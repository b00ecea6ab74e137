use Prim.Native.Nat.{◌-◌}
use lib.Ieee.{binary32}
use Rattle.laws.specs.FloatOrder.{plus}
use Rattle.root.specs.Root.{infinity, reaches}
use Rattle.root.proofs.laws.Last.{Holds}
use Rattle.root.proofs.root.Given as goal

abbrev pub invariant-loop-low : goal.invariant-loop-low
invariant-loop-low l = Holds (reaches (plus binary32 l.x)) infinity l.low l.high

abbrev pub decreases-loop-low : goal.decreases-loop-low
decreases-loop-low l = l.high - l.low
