-- A clock's line meets its contract: each field is read from its place. Assumes nothing.
use Rattle.std.proofs.Common.{rules}
use Rattle.scene.proofs.laws.LineValues.{clock_is}
use Rattle.scene.proofs.scene.ClockLineLine.read.Goals as goal

pub returns : goal.returns
returns c = search (clock_is, rules)
