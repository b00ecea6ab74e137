-- `speed_fits` meets its contract. Assumes nothing.
use borrow.Author.Rules.{rules}
use Rattle.scene_rules.proofs.laws.Rules.{speed_high, speed_below}
use Rattle.scene_rules.proofs.lines.speed_fits.Goals as goal

pub returns-then-ticks : goal.returns-then-ticks
returns-then-ticks c = search (speed_high, rules)

pub returns : goal.returns
returns c = search (speed_below, rules)
