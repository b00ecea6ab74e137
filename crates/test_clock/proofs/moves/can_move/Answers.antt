-- `can_move` meets its contract: its tests are what an update asks. Assumes nothing.
use mathlib.Core.Path.{sym}
use mathlib.Core.Bool.{true≢false}
use lib.Ieee.{of_bits, of_int}
use Rattle.test_clock.proofs.laws.Move.{passed, can_move}
use Rattle.test_clock.proofs.moves.can_move.Goals as goal

pub returns-then-not-is_within : goal.returns-then-not-is_within
returns-then-not-is_within c e = absurd (true≢false (sym e))

pub returns-then-not-is_within-2 : goal.returns-then-not-is_within-2
returns-then-not-is_within-2 c e = absurd (true≢false (sym e))

pub returns-then-not-is_within-3 : goal.returns-then-not-is_within-3
returns-then-not-is_within-3 c e = absurd (true≢false (sym e))

pub returns-then-time-gt-LAST_TICK : goal.returns-then-time-gt-LAST_TICK
returns-then-time-gt-LAST_TICK c e = absurd (true≢false (sym e))

pub returns : goal.returns
unfolding of_bits of_int
returns c e =
    can_move c.args.clock c.args.dt (c.is_within-2.ensures (passed _ c.if-not-is_within-2.false-raw))
    c.as_ticks_per_second.result c.as_ticks_per_second.ensures (c.is_within.ensures (passed _ c.if-not-is_within.false-raw))
    c.time-time.result c.time-time.ensures (c.is_within-3.ensures (passed _ c.if-not-is_within-3.false-raw))
    c.if-time-gt-LAST_TICK.false e
