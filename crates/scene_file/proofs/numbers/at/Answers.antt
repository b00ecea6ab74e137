-- `at` meets its contract: past the end `get_or` gives its default. Assumes nothing.
use borrow.Author.Rules.{rules}
use Rattle.scene_file.proofs.laws.Tails.{beyond, beyond_rest}
use Rattle.scene_file.proofs.numbers.at.Goals as goal

pub returns-then-values-a : goal.returns-then-values-a
returns-then-values-a c = search (beyond, rules)

pub returns-then-values-a-2 : goal.returns-then-values-a-2
returns-then-values-a-2 c = search (beyond_rest, rules)
