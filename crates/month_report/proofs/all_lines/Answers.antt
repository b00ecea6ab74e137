-- `all_lines` meets its contract. Assumes nothing.
use native.Mathlib.Omega.{arith}
use Rattle.month_files.proofs.laws.Read.{all_short, all_long}
use borrow.Author.Rules.{rules}
use Rattle.month_report.proofs.all_lines.Goals as goal

pub returns-then-head-lt-HEAD : goal.returns-then-head-lt-HEAD
returns-then-head-lt-HEAD g c = all_short c.args.head.now c.with_lines-first.result (search rules) (cc c.with_lines-first.ensures)

pub returns : goal.returns
returns g c = all_long c.args.head.now c.with_lines-first.result c.rest_lines.result (omega (arith, c.requires, c.if-head-lt-HEAD.false)) (cc c.with_lines-first.ensures) c.rest_lines.ensures
