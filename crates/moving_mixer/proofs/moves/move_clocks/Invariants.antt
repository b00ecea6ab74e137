use Rattle.std.proofs.Common.{◌≡◌}
use Rattle.laws.specs.Loop.{changed}
use Rattle.clock.specs.Clock.{updated}
use Rattle.moving_mixer.proofs.moves.move_clocks.Given as goal

abbrev pub invariant-loop-i : goal.invariant-loop-i
invariant-loop-i l = l.list ≡ changed (λ i c. updated c l.dt) l.i l.initial.list
