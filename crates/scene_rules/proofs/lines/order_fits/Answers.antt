-- `order_fits` meets its contract: the first rule that fails decides. Assumes nothing.
use borrow.Author.Tests.{not-true, not-false}
use borrow.Author.Rules.{rules}
use Rattle.scene_rules.proofs.laws.Rules.{order_late, order_volume, order_part, order_millis, order_power}
use Rattle.scene_rules.proofs.lines.order_fits.Goals as goal

pub returns-then-blocks-at : goal.returns-then-blocks-at
returns-then-blocks-at c = search (order_late, order_volume, order_part, order_millis, order_power, rules)

pub returns-then-not-volume_fits : goal.returns-then-not-volume_fits
returns-then-not-volume_fits c = search (order_late, order_volume, order_part, order_millis, order_power, not-true, rules)

pub returns-then-not-part_fits : goal.returns-then-not-part_fits
returns-then-not-part_fits c = search (order_late, order_volume, order_part, order_millis, order_power, not-true, not-false, rules)

pub returns-then-not-millis_fit : goal.returns-then-not-millis_fit
returns-then-not-millis_fit c = search (order_late, order_volume, order_part, order_millis, order_power, not-true, not-false, rules)

pub returns : goal.returns
returns c = search (order_power, not-false, rules)
