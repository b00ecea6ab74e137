-- `count_fits` meets its contract. Assumes nothing.
use Rattle.scene_rules.proofs.laws.Passes.{count_few, count_enough}
use Rattle.scene_rules.proofs.lines.count_fits.Goals as goal

pub returns-then-rule-lines : goal.returns-then-rule-lines
returns-then-rule-lines c = count_enough _ _ _ c.rule_of-rule.ensures c.if-rule-lines.true

pub returns-else-rule-lines : goal.returns-else-rule-lines
returns-else-rule-lines c = count_few _ _ _ c.rule_of-rule.ensures c.if-rule-lines.false
