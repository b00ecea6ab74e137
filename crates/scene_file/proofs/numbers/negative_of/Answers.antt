-- `negative_of` meets its contract: each case of the magnitude is one of the definition's. Assumes nothing.
use mathlib.Core.Path.{◌∙◌}
use borrow.Author.Rules.{rules}
use Rattle.scene_file.proofs.laws.Numbers.{negative_empty, negative_zero, negative_is, negative_large, negative_naught, negative_none}
use Rattle.scene_file.proofs.numbers.negative_of.Goals as goal

pub returns-then-s-eq0 : goal.returns-then-s-eq0
returns-then-s-eq0 c = search (negative_empty, rules)

pub returns-then-leading_zero : goal.returns-then-leading_zero
returns-then-leading_zero c = search (negative_zero, rules)

pub returns-then-m-le2147483648 : goal.returns-then-m-le2147483648
returns-then-m-le2147483648 c = search (negative_is, rules)

pub returns-else-m-le2147483648 : goal.returns-else-m-le2147483648
returns-else-m-le2147483648 c = negative_large _ _ _ c.magnitude_of.ensures c.in_ok-m.was c.if-m-le2147483648.false

pub returns-else-m-gt0 : goal.returns-else-m-gt0
returns-else-m-gt0 c = negative_naught _ _ _ c.magnitude_of.ensures c.in_ok-m.was c.if-m-gt0.false

pub returns-in_err-m : goal.returns-in_err-m
returns-in_err-m c = c.from_residual.ensures ∙ negative_none _ _ _ c.if-s-eq0.false c.leading_zero.ensures c.if-leading_zero.false c.magnitude_of.ensures c.in_err-m.was
