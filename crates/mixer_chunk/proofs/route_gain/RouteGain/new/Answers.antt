-- `new` meets its contract: 0 dB has an amplitude. Assumes nothing.
use lib.Ieee.{of_bits, of_int, is_nan, le}
use Rattle.decibels.specs.Decibels.{admitted}
use Rattle.mixer_chunk.proofs.route_gain.RouteGain.new.Goals as goal

pub as_amplitude_in-factor-requires-clause-admitted : goal.as_amplitude_in-factor-requires-clause-admitted
unfolding admitted of_bits is_nan le of_int
as_amplitude_in-factor-requires-clause-admitted c = tt

pub invariant_of-result-clause-in_range : goal.invariant_of-result-clause-in_range
unfolding admitted of_bits is_nan le of_int
invariant_of-result-clause-in_range c = tt
