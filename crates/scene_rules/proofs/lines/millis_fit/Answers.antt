-- `millis_fit` meets its contract. Assumes nothing.
use borrow.Author.Tests.{eq-eqb, ne_eqb, le-leb, lt-leb}
use Rattle.scene_questions.specs.Questions.{millis_fit}
use Rattle.scene_rules.proofs.lines.millis_fit.Goals as goal

pub returns-then-kind-gt-KIND_PAUSE : goal.returns-then-kind-gt-KIND_PAUSE
unfolding millis_fit
returns-then-kind-gt-KIND_PAUSE c = rw (lt-leb _ _ c.if-kind-gt-KIND_PAUSE.true)

pub returns-then-clock-ne-ZERO : goal.returns-then-clock-ne-ZERO
unfolding millis_fit
returns-then-clock-ne-ZERO c = rw (le-leb _ _ c.if-kind-gt-KIND_PAUSE.false, ne_eqb _ _ c.if-clock-ne-ZERO.true)

pub returns-then-when-gt-ZERO : goal.returns-then-when-gt-ZERO
unfolding millis_fit
returns-then-when-gt-ZERO c = rw (le-leb _ _ c.if-kind-gt-KIND_PAUSE.false, eq-eqb _ _ c.if-clock-ne-ZERO.false, lt-leb _ _ c.if-when-gt-ZERO.true)

pub returns : goal.returns
unfolding millis_fit
returns c = rw (le-leb _ _ c.if-kind-gt-KIND_PAUSE.false, eq-eqb _ _ c.if-clock-ne-ZERO.false, le-leb _ _ c.if-when-gt-ZERO.false)
