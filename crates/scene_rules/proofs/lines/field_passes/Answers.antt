-- `field_passes` meets its contract. Assumes nothing.
use borrow.Author.Rules.{rules}
use Rattle.scene_rules.proofs.laws.Rules.{by_question_5, by_question_4}
use Rattle.scene_rules.proofs.lines.field_passes.Goals as goal

pub returns-then-references : goal.returns-then-references
returns-then-references c = search (by_question_5, by_question_4, rules)

pub returns : goal.returns
returns c = search (by_question_5, by_question_4, rules)
