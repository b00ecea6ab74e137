-- `put_reading` meets its contract. Assumes nothing.
use Rattle.text_output.proofs.laws.Print.{same_text}
use Rattle.month_files.proofs.laws.Text.{reading_refused, reading_printed}
use Rattle.month_files.proofs.print.put_reading.Goals as goal

pub returns-then-number-ne0 : goal.returns-then-number-ne0
returns-then-number-ne0 c = same_text c.args.text.now (reading_refused c.args.reading c.if-number-ne0.true) (c.put_refusal.ensures.length, c.put_refusal.ensures.text)

pub returns : goal.returns
returns c = same_text c.args.text.now (reading_printed c.args.reading c.if-number-ne0.false) c.put_totals.ensures
