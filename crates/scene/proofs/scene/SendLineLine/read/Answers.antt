-- A send's line meets its contract: each field is read from its place. Assumes nothing.
use Rattle.std.proofs.Common.{rules}
use Rattle.scene.proofs.laws.LineValues.{send_is}
use Rattle.scene.proofs.scene.SendLineLine.read.Goals as goal

pub returns : goal.returns
returns c = search (send_is, rules)
