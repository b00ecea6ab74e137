-- `line_passes` meets its contract, rule by rule. Assumes nothing.
use borrow.Author.Rules.{rules}
use Rattle.scene_rules.proofs.laws.Rules.{line_plain, line_speed_5, line_speed_4, line_apart_5, line_apart_4, line_order_5, line_order_4}
use Rattle.scene_rules.proofs.lines.line_passes.Goals as goal

pub returns-then-references : goal.returns-then-references
returns-then-references c = search (line_speed_5, rules)

pub returns-then-references-2 : goal.returns-then-references-2
returns-then-references-2 c = search (line_apart_5, rules)

pub returns-then-references-3 : goal.returns-then-references-3
returns-then-references-3 c = search (line_order_5, rules)

pub returns-in-Plain : goal.returns-in-Plain
returns-in-Plain c = search (line_plain, rules)

pub returns-else-references : goal.returns-else-references
returns-else-references c = search (line_speed_4, rules)

pub returns-else-references-2 : goal.returns-else-references-2
returns-else-references-2 c = line_apart_4 _ _ _ c.args.values.now c.args.a _ _ _ c.in-Apart.is c.if-references-2.false c.at-in-Apart.ensures c.at-in-Apart-2.ensures

pub returns-else-references-3 : goal.returns-else-references-3
returns-else-references-3 c = search (line_order_4, rules)
