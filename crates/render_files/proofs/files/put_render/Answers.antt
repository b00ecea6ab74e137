-- `put_render` meets its contract: what is printed is what the scene renders to. Assumes nothing.
use mathlib.Core.Path.{ap}
use Rattle.recordings.specs.Recordings.{recordings}
use Rattle.text_output.proofs.laws.Print.{same_text}
use Rattle.render_files.specs.Program.{printed_output}
use Rattle.render_files.proofs.laws.Program.{render_again}
use Rattle.render_files.proofs.files.put_render.Goals as goal

pub returns : goal.returns
returns c =
    let whole = same_text c.args.text.now
    (ap (printed_output c.args.width) (render_again c.args.file.now (recordings c.args.samples.now c.args.visitor.now) c.args.output.now c.render.new.output _ c.args.count c.requires.room_for_output.1 c.requires.not_refused c.render.ensures.output c.render.auto.output))
    (c.put_output.ensures.length, c.put_output.ensures.text) in record { length = whole.0; text = whole.1 }
