-- `distance` meets its contract: the sum of squares has a root. Assumes nothing.
use Rattle.spatial.specs.Spatial.{length_squared, distance}
use Rattle.spatial.proofs.laws.Distance.{squares_from_zero}
use Rattle.spatial.proofs.spatial.distance.Goals as goal

pub root-requires : goal.root-requires
unfolding length_squared
root-requires c = squares_from_zero c.args.listener c.args.position c.requires.0 c.requires.1

pub returns : goal.returns
unfolding distance length_squared
returns c = c.root.ensures
