-- `blocks_of` meets its contract. Assumes nothing.
use borrow.Author.Rules.{rules}
use lib.Dec.{lit<}
use Rattle.scene.proofs.laws.TablesInPlaces.{head_none, head_there}
use Rattle.scene_reader.proofs.answer.blocks_of.Goals as goal

pub returns-then-counts-eq0 : goal.returns-then-counts-eq0
returns-then-counts-eq0 c = search (head_none, rules)

pub returns : goal.returns
returns c = head_there _ _ _ _ c.if-counts-eq0.false (lit< tt) _ c.at.ensures
