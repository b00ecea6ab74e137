-- `questions` meets its contract. Assumes nothing.
use mathlib.Core.Path.{sym, ap, ap₂, ◌∙◌}
use mathlib.Core.Bool.{Bool, cond}
use borrow.Author.Tests.{not-true, not-false}
use lib.Dec.{leb}
use Rattle.month.specs.Month.{most_mixes}
use Rattle.month_files.specs.Lines.{line_count, formed, lines_number}
use Rattle.month_files.proofs.lines.questions.Goals as goal

pub returns-then-too_many : goal.returns-then-too_many
unfolding lines_number
returns-then-too_many c =
    let e = not-true (leb (line_count c.args.lines) most_mixes) (sym c.too_many.ensures ∙ c.if-too_many.true) in
    sym (ap (λ (b : Bool). cond b (cond (formed c.args.text.now) 0 26) 24) e)

pub returns-then-is_formed : goal.returns-then-is_formed
unfolding lines_number
returns-then-is_formed c =
    let e = not-false (leb (line_count c.args.lines) most_mixes) (sym c.too_many.ensures ∙ c.if-too_many.false) in
    sym (ap₂ (λ (a b : Bool). cond a (cond b 0 26) 24) e (sym c.is_formed.ensures ∙ c.if-is_formed.true))

pub returns : goal.returns
unfolding lines_number
returns c =
    let e = not-false (leb (line_count c.args.lines) most_mixes) (sym c.too_many.ensures ∙ c.if-too_many.false) in
    sym (ap₂ (λ (a b : Bool). cond a (cond b 0 26) 24) e (sym c.is_formed.ensures ∙ c.if-is_formed.false))
