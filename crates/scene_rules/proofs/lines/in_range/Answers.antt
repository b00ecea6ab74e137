-- `in_range` meets its contract, rule by rule. Assumes nothing.
use borrow.Author.Rules.{rules}
use Rattle.scene_rules.proofs.laws.Rules.{in_number_low, in_number, in_line, in_earlier, in_target}
use Rattle.scene_rules.proofs.lines.in_range.Goals as goal

pub returns-then-z-a : goal.returns-then-z-a
returns-then-z-a c = search (in_number_low, rules)

pub returns-else-z-a : goal.returns-else-z-a
returns-else-z-a c = search (in_number, rules)

pub returns-in-Line : goal.returns-in-Line
returns-in-Line c = search (in_line, in_earlier, in_target, rules)

pub returns-in-Earlier : goal.returns-in-Earlier
returns-in-Earlier c = search (in_line, in_earlier, in_target, rules)

pub returns-in-Index : goal.returns-in-Index
returns-in-Index c = search (in_line, in_earlier, in_target, rules)
