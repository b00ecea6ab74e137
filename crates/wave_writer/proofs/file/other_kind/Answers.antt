-- `other_kind` meets its contract. Assumes nothing.
use mathlib.Core.Path.{sym, ◌∙◌}
use Rattle.laws.proofs.laws.Choice.{cond-true, cond-false}
use Rattle.wave_sound.specs.Sound.{rate_ok}
use Rattle.wave_writer.proofs.file.other_kind.Goals as goal

pub returns-then-rate_ok : goal.returns-then-rate_ok
returns-then-rate_ok c = sym (cond-true (rate_ok c.args.rate) 15 4 (sym c.rate_ok.ensures ∙ c.if-rate_ok.true))

pub returns-else-rate_ok : goal.returns-else-rate_ok
returns-else-rate_ok c = sym (cond-false (rate_ok c.args.rate) 15 4 (sym c.rate_ok.ensures ∙ c.if-rate_ok.false))
