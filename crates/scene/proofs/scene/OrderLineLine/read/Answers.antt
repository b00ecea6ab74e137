-- A order's line meets its contract: each field is read from its place. Assumes nothing.
use Rattle.std.proofs.Common.{rules}
use Rattle.scene.proofs.laws.LineValues.{order_is}
use Rattle.scene.proofs.scene.OrderLineLine.read.Goals as goal

pub returns : goal.returns
returns c = search (order_is, rules)
