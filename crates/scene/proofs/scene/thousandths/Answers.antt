-- `thousandths` meets its contract. Assumes nothing.
use Rattle.std.proofs.Common.{rules}
use Rattle.scene.proofs.laws.LineValues.{thousandths_below, thousandths_above}
use Rattle.scene.proofs.scene.thousandths.Goals as goal

pub returns-then-z-lt-ZERO : goal.returns-then-z-lt-ZERO
returns-then-z-lt-ZERO c = search (thousandths_below, thousandths_above, rules)

pub returns : goal.returns
returns c = search (thousandths_above, rules)
