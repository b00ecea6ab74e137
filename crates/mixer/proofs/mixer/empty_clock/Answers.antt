-- `mixer::empty_clock` meets its contract. Assumes nothing.
use lib.Ieee.{of_int, of_bits}
use Rattle.mixer.specs.Mixer.{empty_clock}
use Rattle.mixer.proofs.mixer.empty_clock.Goals as goal

pub returns : goal.returns
unfolding empty_clock of_int of_bits
returns c = c.new.ensures
