-- `put_number` meets its contract. Assumes nothing.
use native.Mathlib.Omega.{arith}
use borrow.Author.Rules.{rules}
use Rattle.text_output.specs.Text.{decimal_within}
use Rattle.text_output.proofs.laws.Print.{put_last, decimal_length}
use Rattle.text_output.proofs.put_number.Goals as goal

pub bounds-text-end : goal.bounds-text-end
bounds-text-end c = omega (arith, c.requires, c.put_decimal-end.ensures.place, c.put_decimal-end.auto.text, decimal_length c.args.steps c.args.n)

pub overflow_add-result : goal.overflow_add-result
overflow_add-result c = omega (arith, c.requires, c.put_decimal-end.ensures.place, c.put_decimal-end.auto.text, decimal_length c.args.steps c.args.n)

pub returns : goal.returns
returns c =
    let whole = put_last c.args.at (decimal_within c.args.steps c.args.n) c.args.text.now c.args.after (search rules)
    (omega (arith, c.requires, c.put_decimal-end.ensures.place, c.put_decimal-end.auto.text, decimal_length c.args.steps c.args.n)) c.put_decimal-end.ensures.place c.put_decimal-end.ensures.text in record { place = whole.0; text = whole.1 }
