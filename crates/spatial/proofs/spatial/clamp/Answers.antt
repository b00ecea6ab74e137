-- `clamp` meets its contract: each test picks the definition's case. Assumes nothing.
use mathlib.Core.Path.{sym, ◌∙◌}
use Rattle.laws.proofs.laws.Choice.{cond-true, cond-false}
use Rattle.spatial.specs.Spatial.{clamp}
use Rattle.spatial.proofs.spatial.clamp.Goals as goal

pub returns-then-x-min : goal.returns-then-x-min
unfolding clamp
returns-then-x-min c = sym (cond-true _ _ _ c.if-x-min.true)

pub returns-then-x-max : goal.returns-then-x-max
unfolding clamp
returns-then-x-max c = sym (cond-false _ _ _ c.if-x-min.false ∙ cond-true _ _ _ c.if-x-max.true)

pub returns : goal.returns
unfolding clamp
returns c = sym (cond-false _ _ _ c.if-x-min.false ∙ cond-false _ _ _ c.if-x-max.false)
