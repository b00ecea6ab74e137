-- `render_read` meets its contract: the first bytes of the files decide. Assumes nothing.
use Rattle.render_files.proofs.laws.FirstBytes.{read_text}
use Rattle.render_files.proofs.files.render_read.Goals as goal

pub returns : goal.returns
returns c = record { text = read_text c.args.scene.now c.args.samples.now c.args.visitor.now c.args.text.now _ c.args.m c.args.n c.args.v _ c.requires.buffers_sized.0 c.requires.buffers_sized.1 c.requires.buffers_sized.2 (c.render_text.ensures.length, c.render_text.ensures.text); within = c.render_text.ensures.within }
