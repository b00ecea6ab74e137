-- `clock_time_of` meets its contract. Assumes nothing.
use Rattle.std.proofs.Common.{rules}
use Rattle.scene.proofs.laws.LineValues.{clock_time_is}
use Rattle.scene.proofs.scene.clock_time_of.Goals as goal

pub returns : goal.returns
returns c = search (clock_time_is, rules)
