-- `clock_ticks` meets its contract. The invariant: the first i clocks' ticks stand there. Assumes nothing.
use Rattle.std.proofs.Common.{set, replicate, ap, ◌∙◌}
use Rattle.limits.specs.Limits.{clock_lines}
use Rattle.laws.proofs.laws.Loop.{changed_turn_any}
use Rattle.clock.specs.declared.clock_time.ClockTime as time
use Rattle.clock.specs.Clock.{time_of}
use Rattle.chunk_render.proofs.length.clock_ticks.Invariants.{tick_of}
use Rattle.chunk_render.proofs.length.clock_ticks.Goals as goal

pub loop-i-preserved : goal.loop-i-preserved
unfolding time_of
loop-i-preserved c =
    ap (λ (t : time.ClockTime). set c.loop-i.ticks c.loop-i.i t.ticks) c.time.ensures
    ∙ changed_turn_any (tick_of c.args.clocks.now.clocks) c.loop-i.i (replicate clock_lines 0) 0 c.loop-i.invariant
