use mathlib.Core.Path.{◌≡◌}
use lib.ListN.{length}
use Rattle.month_files.specs.Lines.{formed}
use Rattle.month_files.proofs.lines.is_formed.Given as goal

abbrev pub invariant-loop-rest : goal.invariant-loop-rest
invariant-loop-rest l = formed l.rest ≡ formed l.text

abbrev pub decreases-loop-rest : goal.decreases-loop-rest
decreases-loop-rest l = length l.rest
