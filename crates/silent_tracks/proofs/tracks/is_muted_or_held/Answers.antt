-- `is_muted_or_held` meets its contract. Assumes nothing.
use Rattle.silent_tracks.proofs.laws.Silence.{either_muted, either_held}
use Rattle.silent_tracks.proofs.tracks.is_muted_or_held.Goals as goal

pub returns-then-is_muted : goal.returns-then-is_muted
returns-then-is_muted c = either_muted _ _ _ c.is_muted.ensures c.if-is_muted.true

pub returns : goal.returns
returns c = either_held _ _ _ c.is_muted.ensures c.if-is_muted.false _ c.is_held.ensures
