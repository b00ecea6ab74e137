-- `positive_of` meets its contract: each case of the magnitude is one of the definition's. Assumes nothing.
use mathlib.Core.Path.{◌∙◌}
use borrow.Author.Rules.{rules}
use Rattle.scene_file.proofs.laws.Numbers.{positive_empty, positive_zero, positive_is, positive_large, positive_none}
use Rattle.scene_file.proofs.numbers.positive_of.Goals as goal

pub returns-then-s-eq0 : goal.returns-then-s-eq0
returns-then-s-eq0 c = search (positive_empty, rules)

pub returns-then-leading_zero : goal.returns-then-leading_zero
returns-then-leading_zero c = search (positive_zero, rules)

pub returns-then-m-lt2147483648 : goal.returns-then-m-lt2147483648
returns-then-m-lt2147483648 c = search (positive_is, rules)

pub returns-else-m-lt2147483648 : goal.returns-else-m-lt2147483648
returns-else-m-lt2147483648 c = positive_large _ _ _ _ c.if-s-eq0.false c.leading_zero.ensures c.if-leading_zero.false c.magnitude_of.ensures c.in_ok-m.was c.if-m-lt2147483648.false

pub returns-in_err-m : goal.returns-in_err-m
returns-in_err-m c = c.from_residual.ensures ∙ positive_none _ _ _ c.if-s-eq0.false c.leading_zero.ensures c.if-leading_zero.false c.magnitude_of.ensures c.in_err-m.was
