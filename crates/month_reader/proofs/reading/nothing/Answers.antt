-- `nothing` meets its contract. Assumes nothing.
use mathlib.Core.Path.{ap, ◌∙◌}
use Rattle.month.specs.declared.totals.Totals.{Totals}
use Rattle.month_reader.proofs.laws.Reading.{nothing_read}
use Rattle.month_reader.proofs.reading.nothing.Goals as goal

pub returns : goal.returns
returns c = ap (λ (t : Totals). record { number = 0; totals = t; samples = 0 }) c.none.ensures ∙ nothing_read
