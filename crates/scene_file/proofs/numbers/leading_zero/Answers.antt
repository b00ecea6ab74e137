-- `leading_zero` meets its contract. Assumes nothing.
use borrow.Author.Rules.{rules}
use Rattle.scene_file.proofs.laws.Numbers.{no_leading_zero, leading_zero_lem}
use Rattle.scene_file.proofs.numbers.leading_zero.Goals as goal

pub returns-then-s-le1 : goal.returns-then-s-le1
returns-then-s-le1 c = search (no_leading_zero, rules)

pub returns : goal.returns
returns c = search (leading_zero_lem, rules)
