-- `pauses_or_resumes` meets its contract. Assumes nothing.
use Rattle.muted_or_held.proofs.laws.Held.{is_pause, is_resume}
use Rattle.muted_or_held.proofs.held.pauses_or_resumes.Goals as goal

pub returns-then-names_track : goal.returns-then-names_track
returns-then-names_track c = is_pause _ _ _ _ c.names_track.ensures c.if-names_track.true

pub returns : goal.returns
returns c = is_resume _ _ _ _ c.names_track.ensures c.if-names_track.false _ c.names_track-2.ensures
