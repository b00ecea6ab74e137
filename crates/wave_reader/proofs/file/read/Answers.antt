-- `read` meets its contract. Assumes nothing.
use mathlib.Core.Path.{sym, ◌∙◌}
use Rattle.wave_sound.proofs.laws.Holds.{holds_inside}
use Rattle.wave_reader.proofs.laws.Read.{read_is}
use Rattle.wave_reader.proofs.file.read.Goals as goal

pub read_found-requires : goal.read_found-requires
read_found-requires c = λ s e. holds_inside c.args.file.now s (sym c.sound_in.ensures ∙ e)

pub returns : goal.returns
returns c = cc (read_is c.args.file.now c.args.samples.now c.args.rate.now)
