-- `sounds_pass` meets its contract. Assumes nothing.
use Rattle.scene_reader.proofs.answer.sounds_pass.Goals as goal

pub returns-then-whole : goal.returns-then-whole
returns-then-whole c = rw c.if-whole.true c.sounds_fit.ensures
