-- `small` meets its contract. Assumes nothing.
use mathlib.Core.Path.{◌∙◌}
use Rattle.aiff_rate.specs.Rate.{unit}
use Rattle.aiff_rate.proofs.laws.Whole.{own_is}
use Rattle.aiff_rate.proofs.rate.small.Goals as goal

pub returns : goal.returns
returns c = c.ok.ensures.value ∙ own_is unit c.args.digits c.try_from.result c.try_from.ensures
