use mathlib.Core.Path.{◌≡◌}
use Prim.Native.Nat.{◌+◌}
use lib.ListN.{drop}
use Rattle.scene_file.specs.Readings.{position_of}
use Rattle.scene_file.proofs.numbers.find.Given as goal

abbrev pub invariant-loop-i : goal.invariant-loop-i
invariant-loop-i l = l.i + position_of l.byte (drop l.i l.s) ≡ position_of l.byte l.s
