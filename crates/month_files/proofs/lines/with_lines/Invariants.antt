use mathlib.Core.Path.{◌≡◌}
use lib.ListN.{drop}
use Rattle.month_files.specs.Lines.{lines_from}
use Rattle.month_files.proofs.lines.with_lines.Given as goal

abbrev pub invariant-loop-byte : goal.invariant-loop-byte
invariant-loop-byte l = lines_from l.all (drop l.byte-index l.piece) ≡ lines_from l.initial.all l.piece
