-- `stream_of` keeps what the functions that it calls ask. Assumes nothing.
use mathlib.Core.Path.{ap}
use Rattle.month_files.specs.Lines.{answer_number}
use Rattle.month_files.proofs.laws.Read.{lines_formed}
use Rattle.test_month.proofs.stream_of.Goals as goal

pub hand_mixes-requires : goal.hand_mixes-requires
hand_mixes-requires c = (lines_formed c.args.lines c.args.head.now c.questions.ensures (ap answer_number c.in-Ok.is), c.requires)
