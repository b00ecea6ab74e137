-- A route's line meets its contract: each field is read from its place. Assumes nothing.
use Rattle.std.proofs.Common.{rules}
use Rattle.scene.proofs.laws.LineValues.{route_is}
use Rattle.scene.proofs.scene.RouteLineLine.read.Goals as goal

pub returns : goal.returns
returns c = search (route_is, rules)
