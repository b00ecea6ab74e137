-- A track's line meets its contract: each field is read from its place. Assumes nothing.
use Rattle.std.proofs.Common.{rules}
use Rattle.scene.proofs.laws.LineValues.{track_is}
use Rattle.scene.proofs.scene.TrackLineLine.read.Goals as goal

pub returns : goal.returns
returns c = search (track_is, rules)
