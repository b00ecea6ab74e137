-- `Segment::amplitude_of` meets its contract: between its ends the segment's curve is the table's, and over 2 ^ 40 a normal number.
-- Assumes nothing.
use mathlib.Core.Path.{sym, ◌∙◌}
use mathlib.Core.Bool.{not}
use lib.Ieee.{binary64, fits, is_nan, of_int, of_bits}
use lib.Ieee.Fits.{and_i, fits_widens}
use Rattle.gain_segment.proofs.laws.Segment.{held_no_nan, inside_amplitude, inside_normal}
use Rattle.gain_segment.proofs.segment.Segment.amplitude_of.Goals as goal

pub float_to_float-rest : goal.float_to_float-rest
float_to_float-rest c =
    let n = c.args.level.0 in
    and_i (fits binary64 n) (not (is_nan n)) (fits_widens n c.row_known-1.given) (held_no_nan c.args.self n c.requires.level_in_segment)

pub normal_f64_to_f32-requires : goal.normal_f64_to_f32-requires
unfolding of_int of_bits
normal_f64_to_f32-requires c = inside_normal c.args.self c.args.level.0 c.row_known-1.given c.requires.segment_of_the_table c.requires.level_in_segment

pub returns : goal.returns
unfolding of_int of_bits
returns c = c.normal_f64_to_f32.ensures ∙ sym (inside_amplitude c.args.self c.args.level.0 c.row_known-1.given c.requires.segment_of_the_table c.requires.level_in_segment)
