use mathlib.Core.Path.{◌≡◌}
use lib.ListN.{length}
use Rattle.laws.specs.Loop.{upto}
use Rattle.frame.proofs.laws.Numbers.{plus_number, plus_scaled, run_turn, two_turns}
use Rattle.frame.proofs.buffer.add_to_three.Given as goal

abbrev pub invariant-loop-i : goal.invariant-loop-i
invariant-loop-i l = (length l.to ≡ length l.initial.to)
    × (length l.other ≡ length l.initial.other)
    × (l.to ≡ upto (run_turn 0 (plus_number l.from)) l.i l.initial.to)
    × (l.other ≡ upto (two_turns l.first l.second (plus_scaled l.from l.factor) (plus_scaled l.from l.then)) l.i l.initial.other)
