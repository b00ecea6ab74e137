-- `mixer::new_sends` meets its contract. The invariant: the lines below i are made. Assumes nothing.
use lib.ListN.{replicate}
use Rattle.limits.specs.Limits.{send_lines}
use Rattle.laws.proofs.laws.Turns.{turned}
use Rattle.mixer.specs.Mixer.{absent_parameter, empty_parameter}
use Rattle.mixer.proofs.mixer.new_sends.Invariants.{made}
use Rattle.mixer.proofs.mixer.new_sends.Goals as goal

pub loop-i-preserved : goal.loop-i-preserved
loop-i-preserved c = turned (made c.args.scene.now.sends) (replicate send_lines empty_parameter) absent_parameter c.loop-i.i c.new.ensures c.loop-i.invariant
