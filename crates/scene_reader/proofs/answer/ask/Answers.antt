-- `ask` meets its contract. Assumes nothing.
use Rattle.scene_reader.proofs.answer.ask.Goals as goal

pub returns-then-yes : goal.returns-then-yes
returns-then-yes c = rw c.if-yes.true

pub returns-else-yes : goal.returns-else-yes
returns-else-yes c = rw c.if-yes.false
