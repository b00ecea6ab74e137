-- `write` meets its contract. Assumes nothing.
use mathlib.Core.Path.{sym, ◌∙◌}
use Rattle.wave_writer.proofs.laws.Write.{write_by, write_other}
use Rattle.wave_writer.proofs.file.write.Goals as goal

pub returns-in-Some : goal.returns-in-Some
returns-in-Some c = write_by c.args.rate c.args.channels c.args.bits c.args.samples.now c.args.file.now c.write_known.ensures (sym c.kind_of.ensures ∙ c.in-Some.is)

pub returns-in-None : goal.returns-in-None
returns-in-None c = write_other c.args.rate c.args.channels c.args.bits c.args.samples.now c.args.file.now c.other_kind.ensures (sym c.kind_of.ensures ∙ c.in-None.is)
