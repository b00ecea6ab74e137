-- `decibels::position_of` meets its contract: what the code works out in f64 is the entry below 16 n and the rest.
-- Assumes nothing.
use mathlib.Core.Path.{◌∙◌}
use mathlib.Core.Bool.{not}
use native.Mathlib.Nat.{le_trans, le_of_eq}
use native.Mathlib.Omega.{arith}
use lib.Ieee.{binary64, fits, is_nan, le, mul, neg}
use lib.Ieee.Fits.{and_i, and_l, fits_widens}
use Rattle.decibels.specs.Decibels.{admitted, limit}
use Rattle.decibels.proofs.laws.Position.{sixteen, steps, below, from, below_wide, from_wide, below_cut, from_cut, below_few, from_few, castable, negated, in_float_lem, at_entry, between_entries, above_zero}
use Rattle.decibels.proofs.decibels.position_of.Goals as goal

pub float_to_float-steps : goal.float_to_float-steps
unfolding admitted
float_to_float-steps c =
    let n = c.args.n in
    and_i (fits binary64 n) (not (is_nan n)) (fits_widens n c.row_known-1.given) (and_l (not (is_nan n)) (le n limit) c.requires.admitted)

pub whole_part-whole-requires : goal.whole_part-whole-requires
whole_part-whole-requires c =
    let b = (below c.args.n (steps c.args.n c.row_known-1.given c.requires.admitted c.requires.above_silence c.requires.not_zero) c.if-steps.true) in
    let x = mul binary64 c.args.n sixteen in
    castable (neg x) b.A b.C (negated x b.A b.C b.value) (below_wide b)

pub int_to_float-whole : goal.int_to_float-whole
int_to_float-whole c = in_float_lem c.whole_part-whole.result (omega (arith, (le_trans (le_of_eq (c.whole_part-whole.ensures ∙ below_cut (below c.args.n (steps c.args.n c.row_known-1.given c.requires.admitted c.requires.above_silence c.requires.not_zero) c.if-steps.true))) (below_few (below c.args.n (steps c.args.n c.row_known-1.given c.requires.admitted c.requires.above_silence c.requires.not_zero) c.if-steps.true)))))

pub overflow_sub-result : goal.overflow_sub-result
overflow_sub-result c = omega (arith, (le_trans (le_of_eq (c.whole_part-whole.ensures ∙ below_cut (below c.args.n (steps c.args.n c.row_known-1.given c.requires.admitted c.requires.above_silence c.requires.not_zero) c.if-steps.true))) (below_few (below c.args.n (steps c.args.n c.row_known-1.given c.requires.admitted c.requires.above_silence c.requires.not_zero) c.if-steps.true))))

pub returns-then-steps-whole : goal.returns-then-steps-whole
returns-then-steps-whole c = at_entry c.args.n c.whole_part-whole.result (below c.args.n (steps c.args.n c.row_known-1.given c.requires.admitted c.requires.above_silence c.requires.not_zero) c.if-steps.true) (c.whole_part-whole.ensures ∙ below_cut (below c.args.n (steps c.args.n c.row_known-1.given c.requires.admitted c.requires.above_silence c.requires.not_zero) c.if-steps.true)) c.if-steps-whole.true

pub overflow_sub-result-then-steps : goal.overflow_sub-result-then-steps
overflow_sub-result-then-steps c = (le_trans (le_of_eq (c.whole_part-whole.ensures ∙ below_cut (below c.args.n (steps c.args.n c.row_known-1.given c.requires.admitted c.requires.above_silence c.requires.not_zero) c.if-steps.true))) (below_few (below c.args.n (steps c.args.n c.row_known-1.given c.requires.admitted c.requires.above_silence c.requires.not_zero) c.if-steps.true)))

pub overflow_add-result : goal.overflow_add-result
overflow_add-result c = omega (arith, (le_trans (le_of_eq (c.whole_part-whole.ensures ∙ below_cut (below c.args.n (steps c.args.n c.row_known-1.given c.requires.admitted c.requires.above_silence c.requires.not_zero) c.if-steps.true))) (below_few (below c.args.n (steps c.args.n c.row_known-1.given c.requires.admitted c.requires.above_silence c.requires.not_zero) c.if-steps.true))))

pub int_to_float-result : goal.int_to_float-result
int_to_float-result c = in_float_lem _ (omega (arith, (le_trans (le_of_eq (c.whole_part-whole.ensures ∙ below_cut (below c.args.n (steps c.args.n c.row_known-1.given c.requires.admitted c.requires.above_silence c.requires.not_zero) c.if-steps.true))) (below_few (below c.args.n (steps c.args.n c.row_known-1.given c.requires.admitted c.requires.above_silence c.requires.not_zero) c.if-steps.true)))))

pub returns-else-steps-whole : goal.returns-else-steps-whole
returns-else-steps-whole c = between_entries c.args.n c.whole_part-whole.result (below c.args.n (steps c.args.n c.row_known-1.given c.requires.admitted c.requires.above_silence c.requires.not_zero) c.if-steps.true) (c.whole_part-whole.ensures ∙ below_cut (below c.args.n (steps c.args.n c.row_known-1.given c.requires.admitted c.requires.above_silence c.requires.not_zero) c.if-steps.true)) c.if-steps-whole.false

pub whole_part-whole-requires-else-steps : goal.whole_part-whole-requires-else-steps
whole_part-whole-requires-else-steps c =
    let b = (from c.args.n (steps c.args.n c.row_known-1.given c.requires.admitted c.requires.above_silence c.requires.not_zero) c.if-steps.false) in
    castable (mul binary64 c.args.n sixteen) b.A b.C b.value (from_wide b)

pub overflow_add-result-else-steps : goal.overflow_add-result-else-steps
overflow_add-result-else-steps c = omega (arith, (le_trans (le_of_eq (c.whole_part-whole-else-steps.ensures ∙ from_cut (from c.args.n (steps c.args.n c.row_known-1.given c.requires.admitted c.requires.above_silence c.requires.not_zero) c.if-steps.false))) (from_few (from c.args.n (steps c.args.n c.row_known-1.given c.requires.admitted c.requires.above_silence c.requires.not_zero) c.if-steps.false))))

pub int_to_float-result-else-steps : goal.int_to_float-result-else-steps
int_to_float-result-else-steps c = in_float_lem c.whole_part-whole-else-steps.result (omega (arith, (le_trans (le_of_eq (c.whole_part-whole-else-steps.ensures ∙ from_cut (from c.args.n (steps c.args.n c.row_known-1.given c.requires.admitted c.requires.above_silence c.requires.not_zero) c.if-steps.false))) (from_few (from c.args.n (steps c.args.n c.row_known-1.given c.requires.admitted c.requires.above_silence c.requires.not_zero) c.if-steps.false)))))

pub returns-else-steps : goal.returns-else-steps
returns-else-steps c = above_zero c.args.n c.whole_part-whole-else-steps.result (from c.args.n (steps c.args.n c.row_known-1.given c.requires.admitted c.requires.above_silence c.requires.not_zero) c.if-steps.false) (c.whole_part-whole-else-steps.ensures ∙ from_cut (from c.args.n (steps c.args.n c.row_known-1.given c.requires.admitted c.requires.above_silence c.requires.not_zero) c.if-steps.false))
