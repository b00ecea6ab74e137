-- `volume_fits` meets its contract. Assumes nothing.
use borrow.Author.Tests.{le-leb, lt-leb}
use Rattle.scene_questions.specs.Questions.{volume_fits}
use Rattle.scene_rules.proofs.lines.volume_fits.Goals as goal

pub returns-then-kind-ge-KIND_PAUSE : goal.returns-then-kind-ge-KIND_PAUSE
unfolding volume_fits
returns-then-kind-ge-KIND_PAUSE c = rw (le-leb _ _ c.if-kind-ge-KIND_PAUSE.true)

pub returns : goal.returns
unfolding volume_fits
returns c = rw (lt-leb _ _ c.if-kind-ge-KIND_PAUSE.false)
