-- A sound's line meets its contract: each field is read from its place. Assumes nothing.
use Rattle.std.proofs.Common.{rules}
use Rattle.scene.proofs.laws.LineValues.{sound_is}
use Rattle.scene.proofs.scene.SoundLineLine.read.Goals as goal

pub returns : goal.returns
returns c = search (sound_is, rules)
