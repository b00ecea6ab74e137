-- `Distances::relative_distance` meets its contract. Assumes nothing.
use mathlib.Core.Path.{ap}
use lib.Ieee.{Float, binary32, sub, div}
use Rattle.spatial.specs.Spatial.{relative_distance}
use Rattle.spatial.proofs.spatial.Distances.relative_distance.Goals as goal

pub returns : goal.returns
unfolding relative_distance
returns c =
    let min = c.args.self.min_distance in
    let max = c.args.self.max_distance in
    ap (λ (held : Float). div binary32 (sub binary32 held min) (sub binary32 max min)) c.clamp.ensures
