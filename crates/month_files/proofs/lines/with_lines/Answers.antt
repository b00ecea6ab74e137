use borrow.Author.Rules.{rules}
use Rattle.month_files.proofs.laws.Lines.{lines_next, lines_end}
use Rattle.month_files.proofs.lines.with_lines.Goals as goal

pub loop-byte-preserved : goal.loop-byte-preserved
loop-byte-preserved c = lines_next c.loop-byte.all c.args.piece.now c.loop-byte.byte-index (search rules) c.with_line_byte-all.ensures c.loop-byte.invariant

pub returns : goal.returns
returns c = lines_end c.loop-byte.all c.args.piece.now c.loop-byte.byte-index (search rules) c.loop-byte.invariant
