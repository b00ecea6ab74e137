-- `set_runs` meets its contract. The invariant: the factors of the first `first` frames are set. Assumes nothing.
use native.Mathlib.Nat.{le_trans, le_of_lt}
use native.Mathlib.Omega.{arith}
use borrow.Author.Rules.{rules}
use Rattle.level_amplitudes.proofs.laws.Amplitudes.{with_amplitudes_none, with_amplitudes_run, with_amplitudes_end, monotone_less}
use Rattle.level_amplitudes.proofs.runs.set_runs.Goals as goal

pub loop-first-init : goal.loop-first-init
loop-first-init c = (search rules, with_amplitudes_none c.args.before c.args.after c.args.parts.now c.args.factors.now)

pub set_run-requires : goal.set_run-requires
set_run-requires c = record { gain_table = c.requires.gain_table; nonempty_run_in_chunk = search rules; admitted = λ i h. c.requires.admitted i (le_trans h c.run_end-to.ensures.1); monotone = monotone_less c.args.before c.args.after c.args.parts.now c.run_end-to.ensures.1 c.requires.monotone }

pub loop-first-preserved : goal.loop-first-preserved
loop-first-preserved c = (omega arith, with_amplitudes_run c.args.before c.args.after c.args.parts.now c.loop-first.first c.run_end-to.result c.args.factors.now (le_of_lt c.run_end-to.ensures.0) c.loop-first.invariant.1 c.set_run.ensures)

pub returns : goal.returns
returns c = with_amplitudes_end c.args.before c.args.after c.args.parts.now c.args.factors.now (omega arith) c.loop-first.invariant.1
