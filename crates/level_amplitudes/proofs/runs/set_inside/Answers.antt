-- `set_inside` meets its contract. The invariant is that of `set_each`. Assumes nothing.
use mathlib.Core.Path.{sym, subst}
use native.Mathlib.Omega.{arith}
use lib.Dec.{T}
use lib.Ieee.{Float}
use Rattle.level_amplitudes.specs.Amplitudes.{value_at}
use Rattle.level_amplitudes.proofs.laws.Amplitudes.{with_run_none, with_run_turn, with_run_end}
use Rattle.gain_segment.specs.Segment.{contains}
use Rattle.level_amplitudes.proofs.runs.set_inside.Goals as goal

pub loop-i-init : goal.loop-i-init
loop-i-init c = with_run_none c.args.before c.args.after c.args.parts.now c.args.first c.args.factors.now

pub amplitude_of-amplitude-requires : goal.amplitude_of-amplitude-requires
unfolding value_at
amplitude_of-amplitude-requires c = record { segment_of_the_table = c.requires.segment_of_the_table; level_in_segment = subst (λ (v : Float). T (contains c.args.segment v)) (sym c.value_by-value.ensures) (c.requires.values_in_segment c.loop-i.i (omega (arith, c.loop-i.auto.i)) (omega (arith, c.loop-i-test.true))) }

pub loop-i-preserved : goal.loop-i-preserved
unfolding value_at
loop-i-preserved c = with_run_turn c.args.before c.args.after c.args.parts.now c.args.first c.loop-i.i c.args.factors.now c.loop-i.auto.i c.loop-i.invariant c.value_by-value.ensures c.amplitude_of-amplitude.ensures

pub returns : goal.returns
returns c = with_run_end c.args.before c.args.after c.args.parts.now c.args.first c.args.factors.now (omega (arith, c.loop-i-test.false, c.loop-i.auto.i-end (omega (arith, c.requires.run_in_chunk.0)))) c.loop-i.invariant
