-- `set_each` meets its contract. The invariant: the factors from `first` up to i are set. Assumes nothing.
use mathlib.Core.Path.{sym, subst}
use native.Mathlib.Omega.{arith}
use lib.Dec.{T}
use lib.Ieee.{Float}
use Rattle.decibels.specs.Decibels.{admitted}
use Rattle.level_amplitudes.specs.Amplitudes.{value_at}
use Rattle.level_amplitudes.proofs.laws.Amplitudes.{with_run_none, with_run_turn, with_run_end}
use Rattle.level_amplitudes.proofs.runs.set_each.Goals as goal

pub loop-i-init : goal.loop-i-init
loop-i-init c = with_run_none c.args.before c.args.after c.args.parts.now c.args.first c.args.factors.now

pub as_amplitude_in-amplitude-requires : goal.as_amplitude_in-amplitude-requires
unfolding value_at
as_amplitude_in-amplitude-requires c = record { gain_table = c.requires.gain_table; admitted = subst (λ (v : Float). T (admitted v)) (sym c.value_by-value.ensures) (c.requires.admitted c.loop-i.i (omega (arith, c.loop-i-test.true))) }

pub loop-i-preserved : goal.loop-i-preserved
unfolding value_at
loop-i-preserved c = with_run_turn c.args.before c.args.after c.args.parts.now c.args.first c.loop-i.i c.args.factors.now c.loop-i.auto.i c.loop-i.invariant c.value_by-value.ensures c.as_amplitude_in-amplitude.ensures

pub returns : goal.returns
returns c = with_run_end c.args.before c.args.after c.args.parts.now c.args.first c.args.factors.now (omega (arith, c.loop-i-test.false, c.loop-i.auto.i-end (omega (arith, c.requires.run_in_chunk.0)))) c.loop-i.invariant
