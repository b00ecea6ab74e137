use Rattle.month_files.specs.Read.{MoreLines}
use Rattle.month_report.proofs.rest_lines.Given as goal

abbrev pub invariant-loop : goal.invariant-loop
invariant-loop g l = MoreLines l.initial.all l.all
