-- `mixer::new_clocks` meets its contract. The invariant: the lines below i are made. Assumes nothing.
use lib.ListN.{replicate}
use Rattle.limits.specs.Limits.{clock_lines}
use Rattle.laws.proofs.laws.Turns.{turned}
use Rattle.clock.specs.WhenToStart.{absent_clock}
use Rattle.mixer.specs.Mixer.{empty_clock}
use Rattle.mixer.proofs.mixer.new_clocks.Invariants.{made}
use Rattle.mixer.proofs.mixer.new_clocks.Goals as goal

pub loop-i-preserved : goal.loop-i-preserved
loop-i-preserved c = turned (made c.args.scene.now.clocks) (replicate clock_lines empty_clock) absent_clock c.loop-i.i c.new.ensures c.loop-i.invariant
