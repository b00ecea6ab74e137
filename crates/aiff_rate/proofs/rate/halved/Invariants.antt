use mathlib.Core.Path.{◌≡◌}
use Prim.Native.Nat.{◌-◌, ◌≤◌}
use Rattle.aiff_rate.specs.Rate.{unit, whole_of}
use Rattle.aiff_rate.proofs.rate.halved.Given as goal

abbrev pub invariant-loop-at : goal.invariant-loop-at
invariant-loop-at l = (l.at ≤ unit) × (whole_of unit l.at l.rest ≡ whole_of unit l.power l.digits)

abbrev pub decreases-loop-at : goal.decreases-loop-at
decreases-loop-at l = unit - l.at
