-- `index_names_line` meets its contract. Assumes nothing.
use borrow.Author.Rules.{rules}
use Rattle.scene_rules.proofs.laws.Rules.{index_main, index_low, index_there}
use Rattle.scene_rules.proofs.lines.index_names_line.Goals as goal

pub returns-then-kind-eq-KIND_MAIN_VOLUME : goal.returns-then-kind-eq-KIND_MAIN_VOLUME
returns-then-kind-eq-KIND_MAIN_VOLUME c = search (index_main, rules)

pub returns-then-index-lt-ONE : goal.returns-then-index-lt-ONE
returns-then-index-lt-ONE c = search (index_low, rules)

pub returns : goal.returns
returns c = search (index_there, rules)
