-- `is_whole_16` meets its contract. Assumes nothing.
use mathlib.Core.Path.{subst}
use lib.Dec.{T}
use lib.Ieee.{of_bits, of_int, neg}
use Rattle.laws.proofs.laws.Choice.{true-T}
use Rattle.pcm.proofs.laws.Whole.{outside_fails}
use Rattle.pcm.proofs.sample.is_whole_16.Goals as goal

pub nearest_is-requires : goal.nearest_is-requires
unfolding of_bits of_int neg
nearest_is-requires c = record { not_below = true-T _ c.if-x.true; not_above = true-T _ c.if-x-2.true }

pub returns-then-x : goal.returns-then-x
unfolding of_bits of_int neg
returns-then-x c = outside_fails c.args.x (true-T _ c.well_formed.0.1) (λ r. subst T c.if-x-2.false r.not_above)

pub returns : goal.returns
unfolding of_bits of_int neg
returns c = outside_fails c.args.x (true-T _ c.well_formed.0.1) (λ r. subst T c.if-x.false r.not_below)
