-- `same_track` meets its contract. Assumes nothing.
use Rattle.scene_questions.proofs.laws.LineQuestions.{track_same}
use Rattle.scene_questions.proofs.tracks.same_track.Goals as goal

pub returns : goal.returns
returns c = track_same _ _ _ _ _ _ _ c.requires.line_in_range c.requires.other_line_in_range c.at.ensures c.at-2.ensures
