-- `read_mixes` meets its contract: the first i mixes were read to their ends. Assumes nothing.
use borrow.Author.Rules.{rules}
use Rattle.month_files.specs.Lines.{channels_of}
use Rattle.month_files.proofs.laws.Read.{ended_none, ended_all}
use Rattle.month_report.proofs.read_mixes.Goals as goal

pub loop-i-init : goal.loop-i-init
loop-i-init g c = ended_none (channels_of c.args.head.now) c.start-all.result c.start-all.ensures

pub returns : goal.returns
returns g c = ended_all c.args.head.now c.loop-i.i c.loop-i.all (search rules) c.loop-i.invariant
