-- `try_update` is safe: `can_move` is what an update asks. Assumes nothing.
use Rattle.test_clock.proofs.moves.try_update.Goals as goal

pub update-requires : goal.update-requires
update-requires c = c.can_move.ensures c.if-can_move.true
