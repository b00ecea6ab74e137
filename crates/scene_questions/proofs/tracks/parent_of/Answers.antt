-- `parent_of` meets its contract. Assumes nothing.
use borrow.Author.Rules.{rules}
use Rattle.scene_questions.proofs.laws.LineQuestions.{parent_mixer, parent_beyond, parent_there}
use Rattle.scene_questions.proofs.tracks.parent_of.Goals as goal

pub returns-then-line-eq0 : goal.returns-then-line-eq0
returns-then-line-eq0 c = search (parent_mixer, parent_beyond, parent_there, rules)

pub returns-then-lines-line : goal.returns-then-lines-line
returns-then-lines-line c = search (parent_mixer, parent_beyond, parent_there, rules)

pub returns : goal.returns
returns c = search (parent_there, rules)
