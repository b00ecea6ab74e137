-- `put_number` meets its contract. Assumes nothing.
use Rattle.text_output.specs.Text.{decimal}
use Rattle.render_files.proofs.print.put_number.Goals as goal

pub returns : goal.returns
unfolding decimal
returns c = record { place = c.put_number.ensures.place; text = c.put_number.ensures.text }
