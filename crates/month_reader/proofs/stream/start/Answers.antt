-- `start` meets its contract. Assumes nothing.
use mathlib.Core.List.{[]}
use Rattle.month_reader.proofs.laws.Stream.{mix_ended}
use Rattle.month_reader.proofs.stream.start.Goals as goal

pub returns : goal.returns
returns c = mix_ended [] c.nothing.ensures
