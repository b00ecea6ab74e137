-- `no_scene` meets its contract. Assumes nothing.
use Rattle.std.proofs.Common.{rules}
use Rattle.scene.proofs.laws.TablesInPlaces.{no_scene_is}
use Rattle.scene.proofs.scene.no_scene.Goals as goal

pub returns : goal.returns
returns c = search (no_scene_is, rules)
