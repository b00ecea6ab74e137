-- `sample_ok` meets its contract. Assumes nothing.
use lib.Ieee.{of_bits, of_int, neg}
use Rattle.scene_questions.specs.Questions.{sample_ok}
use Rattle.scene_questions.proofs.samples.sample_ok.Goals as goal

pub returns-then-x : goal.returns-then-x
unfolding sample_ok of_bits of_int neg
returns-then-x c = rw c.if-x.true

pub returns-else-x : goal.returns-else-x
unfolding sample_ok of_bits of_int neg
returns-else-x c = rw c.if-x.false
