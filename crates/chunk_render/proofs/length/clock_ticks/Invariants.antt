use Rattle.std.proofs.Common.{◌≡◌, ℕ, List, get_or, replicate}
use Rattle.limits.specs.Limits.{clock_lines}
use Rattle.laws.specs.Loop.{changed}
use Rattle.clock.specs.declared.clock.Clock.{Clock}
use Rattle.clock.specs.Clock.{ticks_of}
use Rattle.clock.specs.WhenToStart.{absent_clock}
use Rattle.chunk_render.proofs.length.clock_ticks.Given as goal

abbrev pub tick_of : List Clock → ℕ → ℕ → ℕ
tick_of all i x = ticks_of (get_or all i absent_clock).state

abbrev pub invariant-loop-i : goal.invariant-loop-i
invariant-loop-i l = l.ticks ≡ changed (tick_of l.clocks.clocks) l.i (replicate clock_lines 0)
