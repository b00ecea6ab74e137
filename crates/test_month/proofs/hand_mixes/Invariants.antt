use lib.ListN.{take}
use Rattle.month_files.specs.Lines.{channels_of}
use Rattle.month_files.specs.Read.{Ended}
use Rattle.test_month.proofs.hand_mixes.Given as goal

abbrev pub invariant-loop-i : goal.invariant-loop-i
invariant-loop-i l = Ended (take l.i (channels_of l.head)) l.all
