-- `part_fits` meets its contract. Assumes nothing.
use borrow.Author.Tests.{eq-eqb, ne_eqb}
use Rattle.scene_questions.specs.Questions.{part_fits}
use Rattle.scene_rules.proofs.lines.part_fits.Goals as goal

pub returns-then-clock-eq-ZERO : goal.returns-then-clock-eq-ZERO
unfolding part_fits
returns-then-clock-eq-ZERO c = rw (eq-eqb _ _ c.if-clock-eq-ZERO.true)

pub returns : goal.returns
unfolding part_fits
returns c = rw (ne_eqb _ _ c.if-clock-eq-ZERO.false)
