-- `names_line` meets its contract, rule by rule. Assumes nothing.
use borrow.Author.Rules.{rules}
use Rattle.scene_rules.proofs.laws.Rules.{names_number, names_low, names_there, earlier_low, earlier_there, names_target}
use Rattle.scene_rules.proofs.lines.names_line.Goals as goal

pub returns-then-z-a : goal.returns-then-z-a
returns-then-z-a c = search (names_low, earlier_low, rules)

pub returns-then-z-lt-ZERO : goal.returns-then-z-lt-ZERO
returns-then-z-lt-ZERO c = search (names_low, earlier_low, rules)

pub returns-in-Number : goal.returns-in-Number
returns-in-Number c = search (names_number, names_target, rules)

pub returns-else-z-a : goal.returns-else-z-a
returns-else-z-a c = search (names_there, rules)

pub returns-else-z-lt-ZERO : goal.returns-else-z-lt-ZERO
returns-else-z-lt-ZERO c = search (names_there, earlier_there, rules)

pub returns-in-Index : goal.returns-in-Index
returns-in-Index c = search (names_number, names_target, rules)
