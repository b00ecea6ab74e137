-- `refused` meets its contract. Assumes nothing.
use mathlib.Core.Path.{ap}
use Rattle.month.specs.declared.totals.Totals.{Totals}
use Rattle.month_reader.proofs.reading.refused.Goals as goal

pub returns : goal.returns
returns c = ap (λ (t : Totals). record { number = c.args.number; totals = t; samples = c.args.samples }) c.none.ensures
