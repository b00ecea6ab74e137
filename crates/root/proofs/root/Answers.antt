-- `root` meets its contract: the loop holds the last pattern that reaches between low and high, and there is one such pattern. Assumes nothing.
use native.Mathlib.Omega.{arith}
use Prim.Native.Nat.{◌+◌, ◌/◌}
use lib.Ieee.{binary32}
use Rattle.laws.specs.FloatOrder.{plus}
use Rattle.root.specs.Root.{infinity, reaches}
use Rattle.root.proofs.laws.Last.{holds_above, holds_below, holds_last}
use Rattle.root.proofs.laws.Patterns.{pattern_no_nan}
use Rattle.root.proofs.laws.Root.{holds_all, root_unique}
use Rattle.root.proofs.root.Goals as goal

pub loop-low-init : goal.loop-low-init
loop-low-init c = holds_all (plus binary32 c.args.x)

pub reaches-requires : goal.reaches-requires
reaches-requires c = record { finite_from_zero = c.requires; not_zero = omega arith; below_infinity = omega arith }

pub loop-low-preserved-then-reaches : goal.loop-low-preserved-then-reaches
loop-low-preserved-then-reaches c = holds_above (reaches (plus binary32 c.args.x)) infinity c.loop-low.low c.loop-low.high c.loop-low.invariant ((c.loop-low.low + c.loop-low.high) / 2) (omega arith) (cc)

pub loop-low-preserved : goal.loop-low-preserved
loop-low-preserved c = holds_below (reaches (plus binary32 c.args.x)) infinity c.loop-low.low c.loop-low.high c.loop-low.invariant ((c.loop-low.low + c.loop-low.high) / 2) (omega arith) (omega arith) (cc)

pub float_from_bits-result : goal.float_from_bits-result
float_from_bits-result c = pattern_no_nan c.loop-low.low (omega arith)

pub returns : goal.returns
returns c =
    root_unique c.args.x c.loop-low.low
    (holds_last (reaches (plus binary32 c.args.x)) infinity c.loop-low.low c.loop-low.high c.loop-low.invariant (omega arith))
