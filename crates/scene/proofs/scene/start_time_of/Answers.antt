-- `start_time_of` meets its contract. Assumes nothing.
use Rattle.std.proofs.Common.{rules}
use Rattle.scene.proofs.laws.LineValues.{start_clock, start_now, start_later}
use Rattle.scene.proofs.scene.start_time_of.Goals as goal

pub returns-then-clock-ne-ZERO : goal.returns-then-clock-ne-ZERO
returns-then-clock-ne-ZERO c = search (start_clock, rules)

pub returns-then-when-eq-ZERO : goal.returns-then-when-eq-ZERO
returns-then-when-eq-ZERO c = search (start_now, rules)

pub returns : goal.returns
returns c = search (start_later, rules)
