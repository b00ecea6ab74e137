-- `same` meets its contract. Assumes nothing.
use mathlib.Core.Path.{◌∙◌}
use Rattle.scene_file.proofs.laws.Numbers.{same_pointwise}
use Rattle.scene_file.proofs.numbers.same.Goals as goal

pub returns : goal.returns
returns c = c.eq.ensures ∙ same_pointwise _ _
