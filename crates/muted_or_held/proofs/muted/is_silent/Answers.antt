-- `is_silent` meets its contract. Assumes nothing.
use mathlib.Core.Path.{refl}
use Rattle.noninterference.specs.Silent.{silent_volume}
use Rattle.muted_or_held.proofs.muted.is_silent.Goals as goal

pub returns : goal.returns
unfolding silent_volume
returns c = refl
