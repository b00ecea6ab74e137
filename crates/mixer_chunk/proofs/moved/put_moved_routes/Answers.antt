-- `put_moved_routes` meets its contract. The invariant: the first r rows are those of the mixer. Assumes nothing.
use Rattle.std.proofs.Common.{◌∙◌}
use Rattle.laws.proofs.laws.Turns.{turned}
use Rattle.chunk.specs.Chunk.{absent_route_row}
use Rattle.mixer_chunk.specs.Follows.{route_of}
use Rattle.mixer_chunk.proofs.laws.Follows.{still_there}
use Rattle.mixer_chunk.proofs.moved.put_moved_routes.Goals as goal

pub put_moved_route-requires-clause-rests : goal.put_moved_route-requires-clause-rests
put_moved_route-requires-clause-rests c =
    λ e. still_there (λ r x. route_of c.args.scene.now c.args.mixer.now r) c.loop-r.r c.args.rows.now absent_route_row c.loop-r.invariant
    ∙ c.requires.follow.rests c.loop-r.r c.loop-r-test.true e

pub loop-r-preserved : goal.loop-r-preserved
loop-r-preserved c = turned (λ r x. route_of c.args.scene.now c.args.mixer.now r) c.args.rows.now absent_route_row c.loop-r.r c.put_moved_route.ensures c.loop-r.invariant
