-- `amplitude_of` meets its contract: bits that are the same are one value. Assumes nothing.
use Rattle.std.proofs.Common.{rules, ◌≡◌, not, ap, ◌∙◌, T}
use lib.Ieee.{binary32, fits, is_nan, le, to_bits}
use lib.Ieee.Fits.{and_l}
use Rattle.decibels.specs.Decibels.{admitted, amplitude, limit}
use Rattle.mixer_chunk.proofs.laws.Gain.{same_value}
use Rattle.mixer_chunk.proofs.route_gain.RouteGain.amplitude_of.Goals as goal

pub float_to_bits-value : goal.float_to_bits-value
unfolding admitted
float_to_bits-value c = and_l (not (is_nan c.args.value.0)) (le c.args.value.0 limit) c.requires.admitted

pub float_to_bits-kept : goal.float_to_bits-kept
unfolding admitted
float_to_bits-kept c = and_l (not (is_nan c.args.self.now.value.0)) (le c.args.self.now.value.0 limit) c.args.self.now.in_range

pub returns-then-value-kept : goal.returns-then-value-kept
returns-then-value-kept c =
    let fits_new : T (fits binary32 c.args.value.0) = search rules in
    let fits_kept : T (fits binary32 c.args.self.now.value.0) = search rules in
    let same : to_bits binary32 c.args.self.now.value.0 ≡ to_bits binary32 c.args.value.0 = search rules in
    c.args.self.now.of_value ∙ ap amplitude (same_value c.args.self.now.value.0 c.args.value.0 fits_kept fits_new same)
