-- `put_three` meets its contract. Assumes nothing.
use native.Mathlib.Omega.{arith}
use Rattle.text_output.specs.Text.{steps64}
use Rattle.text_output.proofs.laws.Print.{number_length}
use Rattle.month_files.proofs.laws.Text.{three_put}
use Rattle.month_files.proofs.print.put_three.Goals as goal

pub put_number-third-requires : goal.put_number-third-requires
put_number-third-requires c = omega (arith, c.requires, c.put_number-second.ensures.place, c.put_number-second.auto.text, number_length steps64 c.args.a 32)

pub put_number-requires : goal.put_number-requires
put_number-requires c = omega (arith, c.requires, c.put_number-second.ensures.place, c.put_number-second.auto.text, number_length steps64 c.args.a 32, c.put_number-third.ensures.place, c.put_number-third.auto.text, number_length steps64 c.args.b 32)

pub returns : goal.returns
returns c = three_put c.args.at c.args.a c.args.b c.args.c c.args.text.now (omega (arith, c.requires)) (c.put_number-second.ensures.place, c.put_number-second.ensures.text) (c.put_number-third.ensures.place, c.put_number-third.ensures.text) (c.put_number.ensures.place, c.put_number.ensures.text)
