-- `four_ok` meets its contract. Assumes nothing.
use lib.Ieee.{of_bits, of_int, neg}
use Rattle.scene_questions.specs.Questions.{sample_ok}
use Rattle.scene_questions.proofs.laws.Samples.{four_set}
use Rattle.scene_questions.proofs.samples.four_ok.Goals as goal

pub returns : goal.returns
unfolding sample_ok of_bits of_int neg
returns c = four_set _ _ _ _ _ _ _ _
