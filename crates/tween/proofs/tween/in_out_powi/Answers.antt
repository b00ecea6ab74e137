-- `tween::in_out_powi` meets its contract: its test picks the definition's case. Assumes nothing.
use mathlib.Core.Path.{sym, ap, ◌∙◌}
use lib.Ieee.{Float, binary64, add, sub, mul, of_bits}
use Rattle.laws.proofs.laws.Choice.{cond-true, cond-false}
use Rattle.laws.specs.Float.{half, one}
use Rattle.tween.specs.Tween.{in_out_powi}
use Rattle.tween.proofs.tween.in_out_powi.Goals as goal

pub returns-then-x : goal.returns-then-x
unfolding in_out_powi of_bits
returns-then-x c = ap (mul binary64 half) c.powi.ensures ∙ sym (cond-true _ _ _ c.if-x.true)

pub returns-else-x : goal.returns-else-x
unfolding in_out_powi of_bits
returns-else-x c = ap (λ (z : Float). add binary64 (mul binary64 half (sub binary64 one z)) half) c.powi-else-x.ensures ∙ sym (cond-false _ _ _ c.if-x.false)
