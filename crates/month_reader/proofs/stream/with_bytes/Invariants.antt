use lib.ListN.{take}
use Rattle.month_reader.specs.Reading.{WithBytes}
use Rattle.month_reader.proofs.stream.with_bytes.Given as goal

abbrev pub invariant-loop-byte : goal.invariant-loop-byte
invariant-loop-byte l = WithBytes l.initial.all (take l.byte-index l.piece) l.all
