-- `Easing::apply` meets its contract: each arm is the definition's. Assumes nothing.
use mathlib.Core.Path.{sym, ap, ◌∙◌}
use lib.Ieee.{binary64, sub, of_bits}
use Rattle.laws.specs.Float.{one}
use Rattle.tween.specs.declared.tween.Easing.{Easing}
use Rattle.tween.specs.Tween.{easing_apply}
use Rattle.tween.proofs.tween.Easing.apply.Goals as goal

pub returns-in-OutPowi : goal.returns-in-OutPowi
unfolding easing_apply of_bits
returns-in-OutPowi c = ap (sub binary64 one) c.powi-in-OutPowi.ensures ∙ ap (λ (e : Easing). easing_apply e c.args.x) (sym c.in-OutPowi.is)

pub returns-in-InOutPowi : goal.returns-in-InOutPowi
unfolding easing_apply of_bits
returns-in-InOutPowi c = c.in_out_powi.ensures ∙ ap (λ (e : Easing). easing_apply e c.args.x) (sym c.in-InOutPowi.is)
