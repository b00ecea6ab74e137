-- `is_held` meets its contract. Assumes nothing.
use Rattle.muted_or_held.proofs.laws.Held.{none_or_several, held_by_one}
use Rattle.muted_or_held.proofs.held.is_held.Goals as goal

pub returns-then-pauses_and_resumes-ne1 : goal.returns-then-pauses_and_resumes-ne1
returns-then-pauses_and_resumes-ne1 c = none_or_several _ _ _ c.pauses_and_resumes.ensures c.if-pauses_and_resumes-ne1.true

pub returns : goal.returns
returns c = held_by_one _ _ _ c.pauses_and_resumes.ensures c.if-pauses_and_resumes-ne1.false _ c.all_may_hold.ensures
