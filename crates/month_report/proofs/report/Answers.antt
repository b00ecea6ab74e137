-- `report` meets its contract: the text is that of what was read. Assumes nothing.
use lib.ListN.{length-take}
use Rattle.month_files.proofs.laws.Read.{text_of_read}
use borrow.Author.Rules.{rules}
use Rattle.month_report.proofs.report.Goals as goal

pub all_lines-lines-requires : goal.all_lines-lines-requires
all_lines-lines-requires g c = simp length-take (search rules)

pub read_month-stream-requires : goal.read_month-stream-requires
read_month-stream-requires g c = simp length-take (search rules)

pub returns : goal.returns
returns g c = record { text = text_of_read c.read_full-n.new.buffer c.read_full-n.result c.all_lines-lines.result c.read_month-stream.result c.all_lines-lines.ensures c.read_month-stream.ensures c.month_text.ensures.text; within = c.month_text.ensures.within }
