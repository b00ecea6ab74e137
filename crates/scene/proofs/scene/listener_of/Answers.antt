-- `listener_of` meets its contract: each field is read from its place. Assumes nothing.
use Rattle.std.proofs.Common.{rules}
use Rattle.scene.proofs.laws.LineValues.{listener_is}
use Rattle.scene.proofs.scene.listener_of.Goals as goal

pub returns : goal.returns
returns c = search (listener_is, rules)
