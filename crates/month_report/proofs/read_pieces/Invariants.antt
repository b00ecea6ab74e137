use Rattle.month_files.specs.Read.{Further}
use Rattle.month_report.proofs.read_pieces.Given as goal

abbrev pub invariant-loop : goal.invariant-loop
invariant-loop g l = Further l.initial.all l.all
