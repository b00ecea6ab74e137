use Rattle.std.proofs.Common.{length}
use Rattle.test_replay.proofs.cases.for_each_case.Given as goal

abbrev pub invariant-loop-case : goal.invariant-loop-case
invariant-loop-case g l = goal.F-IsAlwaysCallable g l.answer

abbrev pub decreases-loop-case : goal.decreases-loop-case
decreases-loop-case g l = length l.rest
