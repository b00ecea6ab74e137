-- `may_hold` meets its contract. Assumes nothing.
use Rattle.muted_or_held.proofs.held.may_hold.Goals as goal

pub returns-then-pauses_or_resumes : goal.returns-then-pauses_or_resumes
returns-then-pauses_or_resumes c = rw (← c.pauses_or_resumes.ensures, c.if-pauses_or_resumes.true) c.is_holding.ensures

pub returns : goal.returns
returns c = rw (← c.pauses_or_resumes.ensures, c.if-pauses_or_resumes.false)
