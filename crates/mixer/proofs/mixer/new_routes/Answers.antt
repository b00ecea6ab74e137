-- `mixer::new_routes` meets its contract. The invariant: the lines below r are made. Assumes nothing.
use lib.ListN.{replicate}
use Rattle.limits.specs.Limits.{route_lines}
use Rattle.laws.proofs.laws.Turns.{turned}
use Rattle.mixer.specs.Mixer.{absent_parameter, empty_parameter}
use Rattle.mixer.proofs.mixer.new_routes.Invariants.{made}
use Rattle.mixer.proofs.mixer.new_routes.Goals as goal

pub loop-r-preserved : goal.loop-r-preserved
loop-r-preserved c = turned (made c.args.scene.now.routes) (replicate route_lines empty_parameter) absent_parameter c.loop-r.r c.new.ensures c.loop-r.invariant
