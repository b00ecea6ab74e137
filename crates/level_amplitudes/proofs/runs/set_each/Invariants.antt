use mathlib.Core.Path.{◌≡◌}
use Rattle.level_amplitudes.specs.Amplitudes.{with_run}
use Rattle.level_amplitudes.proofs.runs.set_each.Given as goal

abbrev pub invariant-loop-i : goal.invariant-loop-i
invariant-loop-i l = l.factors ≡ with_run l.before l.after l.parts l.first l.i l.initial.factors
