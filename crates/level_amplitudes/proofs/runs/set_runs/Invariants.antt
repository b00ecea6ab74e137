use mathlib.Core.Path.{◌≡◌}
use Prim.Native.Nat.{◌-◌, ◌≤◌}
use Rattle.level_amplitudes.specs.Amplitudes.{with_amplitudes}
use Rattle.level_amplitudes.proofs.runs.set_runs.Given as goal

abbrev pub invariant-loop-first : goal.invariant-loop-first
invariant-loop-first l = (l.first ≤ l.frames) × (l.factors ≡ with_amplitudes l.before l.after l.parts l.first l.initial.factors)

abbrev pub decreases-loop-first : goal.decreases-loop-first
decreases-loop-first l = l.frames - l.first
