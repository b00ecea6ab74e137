-- `month_text` meets its contract. Assumes nothing.
use mathlib.Core.Path.{◌≡◌, sym, ap, ◌∙◌}
use native.Mathlib.Omega.{arith}
use Rattle.text_output.proofs.laws.Print.{same_text, begun_within}
use Rattle.text_output.specs.Text.{printed_refusal}
use Rattle.month_files.specs.declared.lines.LinesRefusal.{LinesRefusal}
use Rattle.month_files.specs.declared.lines.LinesRefusal.TheVariants.{TooMany, Malformed}
use Rattle.month_files.specs.Lines.{refusal_number, answer_number}
use Rattle.month_files.specs.Text.{printed_reading}
use Rattle.month_files.proofs.laws.Month.{refusal_read, mixes_read}
use Rattle.month_files.proofs.report.month_text.Goals as goal

refuses : (r : LinesRefusal) → refusal_number r ≡ 0 → ⊥
refuses TooMany e = omega (arith, e)
refuses Malformed e = omega (arith, e)

pub returns-in-Ok-clause-text : goal.returns-in-Ok-clause-text
returns-in-Ok-clause-text c =
    λ input files W.
    same_text c.args.text.now (mixes_read input files c.args.head.now c.args.lines c.args.stream W c.questions.ensures (ap answer_number c.in-Ok.is)) c.put_reading.ensures

pub returns-in-Ok-clause-within : goal.returns-in-Ok-clause-within
returns-in-Ok-clause-within c = begun_within (printed_reading c.args.stream.reading) c.args.text.now c.put_reading.ensures

pub returns-in-Err-clause-text : goal.returns-in-Err-clause-text
returns-in-Err-clause-text c =
    λ input files W.
    same_text c.args.text.now
    (refusal_read input files c.args.head.now c.args.lines c.args.stream W (c.into.ensures ∙ sym (ap answer_number c.in-Err.is) ∙ c.questions.ensures) (λ z. refuses c.in-Err.refusal (sym c.into.ensures ∙ z)))
    (c.put_refusal.ensures.length, c.put_refusal.ensures.text)

pub returns-in-Err-clause-within : goal.returns-in-Err-clause-within
returns-in-Err-clause-within c = begun_within (printed_refusal c.into.result) c.args.text.now (c.put_refusal.ensures.length, c.put_refusal.ensures.text)
