use mathlib.Core.Path.{◌≡◌}
use Prim.Native.Nat.{◌+◌, ◌*◌}
use lib.Ieee.{to_unsigned}
use Rattle.clock.specs.Clock.{taken, Timer, span, one_span}
use Rattle.clock.proofs.clock.take_ticks.Given as goal

abbrev pub invariant-loop-tick_timer : goal.invariant-loop-tick_timer
invariant-loop-tick_timer l = Timer l.tick_timer × (l.ticks * one_span + span l.tick_timer ≡ l.before * one_span + span l.timer) × (taken l.ticks l.tick_timer ≡ taken l.before l.timer)

abbrev pub decreases-loop-tick_timer : goal.decreases-loop-tick_timer
decreases-loop-tick_timer l = to_unsigned 64 l.tick_timer
