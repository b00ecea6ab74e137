-- `whole_part` meets its contract: below 1 by its test, and from 1 on by the law `whole_of_bits`. Assumes nothing.
use native.Mathlib.Omega.{arith}
use lib.Ieee.{of_bits, of_int}
use Rattle.laws.proofs.laws.Choice.{true-T}
use Rattle.decibels.proofs.laws.WholePart.{cuttable_no_nan, below_one, whole_of_bits}
use Rattle.decibels.proofs.decibels.whole_part.Goals as goal

pub returns-then-x : goal.returns-then-x
unfolding of_bits of_int
returns-then-x c = below_one c.args.x c.if-x.true

pub float_to_bits-bits : goal.float_to_bits-bits
unfolding of_bits of_int
float_to_bits-bits c = cuttable_no_nan c.args.x (record { least = c.if-x.false; most = c.requires })

pub overflow_sub-result : goal.overflow_sub-result
unfolding of_bits of_int
overflow_sub-result c = omega (arith, (whole_of_bits c.args.x (true-T _ c.well_formed.0.1) (record { least = c.if-x.false; most = c.requires })).most)

pub overflow_shr-result-2 : goal.overflow_shr-result-2
unfolding of_bits of_int
overflow_shr-result-2 c = omega (arith, (whole_of_bits c.args.x (true-T _ c.well_formed.0.1) (record { least = c.if-x.false; most = c.requires })).least)

pub returns : goal.returns
unfolding of_bits of_int
returns c = (whole_of_bits c.args.x (true-T _ c.well_formed.0.1) (record { least = c.if-x.false; most = c.requires })).is
