-- `write_amplitude` meets its contract: it passes on what `as_amplitude` answers.
-- Assumes nothing.
use mathlib.Core.Path.{sym, ap, ◌∙◌}
use Rattle.decibels.specs.Answer.{Answer, answered, written_over}
use Rattle.decibels.proofs.write.write_amplitude.Goals as goal

pub returns-in-Some : goal.returns-in-Some
unfolding answered written_over
returns-in-Some c =
    let e = ap answered (sym c.in-Some.is) ∙ c.as_amplitude.ensures in
    record { number = ap (λ (z : Answer). z.number) e; written = ap (λ (z : Answer). written_over z.value c.args.amplitude.now) e }

pub returns-in-None : goal.returns-in-None
unfolding answered written_over
returns-in-None c =
    let e = ap answered (sym c.in-None.is) ∙ c.as_amplitude.ensures in
    record { number = ap (λ (z : Answer). z.number) e; written = ap (λ (z : Answer). written_over z.value c.args.amplitude.now) e }
