-- `put_line` meets its contract: three numbers, one after another. Assumes nothing.
use native.Mathlib.Omega.{arith}
use borrow.Author.Rules.{rules}
use Rattle.render_files.proofs.laws.Print.{put_line, number_length}
use Rattle.render_files.proofs.print.put_line.Goals as goal

pub put_number-third-requires : goal.put_number-third-requires
put_number-third-requires c = omega (arith, c.requires, c.put_number-second.ensures.place, c.put_number-second.auto.text, number_length c.args.block 32)

pub put_number-requires : goal.put_number-requires
put_number-requires c = omega (arith, c.requires, c.put_number-second.ensures.place, c.put_number-second.auto.text, c.put_number-third.ensures.place, c.put_number-third.auto.text, number_length c.args.block 32, number_length c.args.place 32)

pub returns : goal.returns
returns c =
    let whole = put_line c.args.at c.args.block c.args.place c.args.bits c.args.text.now (search rules)
    (c.put_number-second.ensures.place, c.put_number-second.ensures.text)
    (c.put_number-third.ensures.place, c.put_number-third.ensures.text)
    (c.put_number.ensures.place, c.put_number.ensures.text) in record { place = whole.0; text = whole.1 }
