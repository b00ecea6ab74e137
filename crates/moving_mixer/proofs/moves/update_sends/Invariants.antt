use Rattle.std.proofs.Common.{◌≡◌}
use Rattle.laws.specs.Loop.{changed}
use Rattle.moving_mixer.specs.Moves.{parameter_moved}
use Rattle.moving_mixer.proofs.moves.update_sends.Given as goal

abbrev pub invariant-loop-i : goal.invariant-loop-i
invariant-loop-i l = l.sends ≡ changed (λ i p. parameter_moved p l.dt l.clocks) l.i l.initial.sends
