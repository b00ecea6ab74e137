use mathlib.Core.Path.{◌≡◌}
use Prim.Native.Nat.{◌≤◌}
use lib.ListN.{drop}
use Rattle.scene_tables.specs.Bytes.{all}
use Rattle.scene_file.specs.Grammar.{is_digit, digits_after}
use Rattle.scene_file.proofs.numbers.magnitude_of.Given as goal

abbrev pub invariant-loop-b : goal.invariant-loop-b
invariant-loop-b l = (l.m ≤ 2147483648) × (all is_digit (drop l.b-index l.s) ≡ all is_digit l.s) × (digits_after l.m (drop l.b-index l.s) ≡ digits_after 0 l.s)
