-- `hand_mixes` keeps what the functions that it calls ask: the first i mixes were handed over. Assumes nothing.
use Rattle.month_files.specs.Lines.{channels_of}
use Rattle.month_files.proofs.laws.Read.{ended_none}
use Rattle.test_month.proofs.hand_mixes.Goals as goal

pub loop-i-init : goal.loop-i-init
loop-i-init c = ended_none (channels_of c.args.head.now) c.start-all.result c.start-all.ensures
