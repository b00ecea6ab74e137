-- `value_by` meets its contract. Assumes nothing.
use mathlib.Core.Path.{refl}
use Rattle.laws.specs.Interpolate.{interpolate}
use Rattle.level_amplitudes.proofs.runs.value_by.Goals as goal

pub returns : goal.returns
unfolding interpolate
returns c = refl
