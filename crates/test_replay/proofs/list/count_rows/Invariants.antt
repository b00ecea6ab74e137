-- The rows so far are no more than the bytes so far.
use Rattle.std.proofs.Common.{◌≤◌, ◌+◌, length}
use Rattle.test_replay.proofs.list.count_rows.Given as goal

abbrev pub invariant-loop-line : goal.invariant-loop-line
invariant-loop-line g l = goal.F-IsAlwaysCallable g l.answer × (l.checked + length l.rest ≤ length l.text) × (l.wrong ≤ l.checked)

abbrev pub decreases-loop-line : goal.decreases-loop-line
decreases-loop-line g l = length l.rest
