-- `same_pair` meets its contract. Assumes nothing.
use borrow.Author.Rules.{rules}
use Rattle.scene_questions.proofs.laws.LineQuestions.{pair_differs, pair_same}
use Rattle.scene_questions.proofs.tracks.same_pair.Goals as goal

pub returns-then-at : goal.returns-then-at
returns-then-at c = search (pair_differs, rules)

pub returns : goal.returns
returns c = search (pair_same, rules)
