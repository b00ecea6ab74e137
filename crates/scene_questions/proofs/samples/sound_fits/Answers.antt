-- `sound_fits` meets its contract: a sound from another buffer fits. Assumes nothing.
use borrow.Author.Rules.{rules}
use Rattle.scene_questions.proofs.laws.LineQuestions.{sound_elsewhere, sound_here}
use Rattle.scene_questions.proofs.samples.sound_fits.Goals as goal

pub returns-then-natural_of-from : goal.returns-then-natural_of-from
returns-then-natural_of-from c = search (sound_elsewhere, rules)

pub returns : goal.returns
returns c = search (sound_here, rules)
