-- `too_many` meets its contract. Assumes nothing.
use mathlib.Core.Path.{sym, ap, ◌∙◌}
use mathlib.Core.Bool.{Bool, cond, not}
use Prim.Native.Nat.{◌+◌}
use lib.Dec.{leb}
use Rattle.month.specs.Month.{most_mixes}
use Rattle.month_files.specs.Lines.{line_count}
use Rattle.month_files.proofs.laws.Lines.{pending_test, ended_test}
use Rattle.month_files.proofs.lines.too_many.Goals as goal

pub returns-then-lines : goal.returns-then-lines
unfolding line_count
returns-then-lines c = pending_test c.args.lines.feeds ∙ sym (ap (λ (b : Bool). not (leb (c.args.lines.feeds + cond b 1 0) most_mixes)) c.if-lines.true)

pub returns : goal.returns
unfolding line_count
returns c = ended_test c.args.lines.feeds ∙ sym (ap (λ (b : Bool). not (leb (c.args.lines.feeds + cond b 1 0) most_mixes)) c.if-lines.false)
