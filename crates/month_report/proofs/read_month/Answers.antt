-- `read_month` meets its contract. Assumes nothing.
use mathlib.Core.Path.{ap}
use Rattle.month_files.specs.Lines.{answer_number}
use Rattle.month_files.proofs.laws.Read.{lines_formed}
use Rattle.month_report.proofs.read_month.Goals as goal

pub read_mixes-requires : goal.read_mixes-requires
read_mixes-requires g c = (lines_formed c.args.lines c.args.head.now c.questions.ensures (ap answer_number c.in-Ok.is), c.requires)
