-- `refused` meets its contract. Assumes nothing.
use Rattle.scene_reader.specs.Answer.{refusal}
use Rattle.scene_reader.proofs.answer.refused.Goals as goal

pub returns : goal.returns
unfolding refusal
returns c = rw (c.into.ensures, c.no_scene-scene.ensures)
