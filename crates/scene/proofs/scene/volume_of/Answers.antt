-- `volume_of` meets its contract. Assumes nothing.
use Rattle.scene.specs.Scene.{volume_of}
use Rattle.scene.proofs.scene.volume_of.Goals as goal

pub returns : goal.returns
unfolding volume_of
returns c = rw c.thousandths.ensures
