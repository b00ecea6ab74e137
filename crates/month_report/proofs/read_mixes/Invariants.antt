use lib.ListN.{take}
use Rattle.month_files.specs.Lines.{channels_of}
use Rattle.month_files.specs.Read.{Ended}
use Rattle.month_report.proofs.read_mixes.Given as goal

abbrev pub invariant-loop-i : goal.invariant-loop-i
invariant-loop-i g l = Ended (take l.i (channels_of l.head)) l.all
