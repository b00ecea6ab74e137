-- `speed_of` meets its contract. Assumes nothing.
use borrow.Author.Rules.{rules}
use Rattle.scene_rules.proofs.laws.Rules.{speed_seconds, speed_ticks, speed_minutes}
use Rattle.scene_rules.proofs.lines.speed_of.Goals as goal

pub returns-then-unit-eq-ZERO : goal.returns-then-unit-eq-ZERO
returns-then-unit-eq-ZERO c = search (speed_seconds, rules)

pub returns-then-unit-eq-ONE : goal.returns-then-unit-eq-ONE
returns-then-unit-eq-ONE c = search (speed_ticks, rules)

pub returns : goal.returns
returns c = search (speed_minutes, rules)
