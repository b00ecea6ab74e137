use mathlib.Core.Path.{◌≡◌}
use mathlib.Core.List.{List}
use Prim.Native.Nat.{ℕ}
use lib.ListN.{get_or, replicate}
use Rattle.limits.specs.Limits.{clock_lines}
use Rattle.laws.specs.Loop.{changed}
use Rattle.scene.specs.declared.scene.ClockLine.{ClockLine}
use Rattle.clock.specs.declared.clock.Clock.{Clock}
use Rattle.clock.specs.Clock.{new_clock}
use Rattle.mixer.specs.Mixer.{empty_clock}
use Rattle.accepted.specs.Lines.{absent_clock_line}
use Rattle.mixer.proofs.mixer.new_clocks.Given as goal

abbrev pub made : List ClockLine → ℕ → Clock → Clock
made lines i x = new_clock (get_or lines i absent_clock_line).speed (get_or lines i absent_clock_line).ticking

abbrev pub invariant-loop-i : goal.invariant-loop-i
invariant-loop-i l = l.clocks ≡ changed (made l.scene.clocks) l.i (replicate clock_lines empty_clock)
