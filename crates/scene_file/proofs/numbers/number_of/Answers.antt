-- `number_of` meets its contract. Assumes nothing.
use borrow.Author.Rules.{rules}
use Rattle.scene_file.proofs.laws.Numbers.{number_empty, number_negative, number_positive}
use Rattle.scene_file.proofs.numbers.number_of.Goals as goal

pub returns-then-s-eq0 : goal.returns-then-s-eq0
returns-then-s-eq0 c = search (number_empty, rules)

pub returns-then-s-eq45 : goal.returns-then-s-eq45
returns-then-s-eq45 c = search (number_negative, rules)

pub returns : goal.returns
returns c = search (number_positive, rules)
