-- `put_files` meets its contract. Assumes nothing.
use Rattle.render_files.proofs.laws.Program.{samples_again}
use Rattle.render_files.proofs.files.put_files.Goals as goal

pub put_answer-requires : goal.put_answer-requires
put_answer-requires c = record { samples_fit = (c.requires.room_for_samples.0, c.requires.room_for_visitor.0); samples_of_raw = (samples_again c.args.raw.now c.read_samples.new.samples _ c.read_samples.ensures, samples_again c.args.visitor_raw.now c.read_samples-2.new.samples _ c.read_samples-2.ensures); room_for_output = c.requires.room_for_output }
