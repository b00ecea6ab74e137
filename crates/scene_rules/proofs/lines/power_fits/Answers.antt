-- `power_fits` meets its contract. Assumes nothing.
use borrow.Author.Tests.{eq-eqb, ne_eqb}
use Rattle.scene_questions.specs.Questions.{power_fits}
use Rattle.scene_rules.proofs.lines.power_fits.Goals as goal

pub returns-then-easing-eq-ZERO : goal.returns-then-easing-eq-ZERO
unfolding power_fits
returns-then-easing-eq-ZERO c = rw (eq-eqb _ _ c.if-easing-eq-ZERO.true)

pub returns : goal.returns
unfolding power_fits
returns c = rw (ne_eqb _ _ c.if-easing-eq-ZERO.false)
