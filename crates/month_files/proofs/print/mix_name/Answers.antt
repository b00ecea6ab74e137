-- `mix_name` meets its contract. Assumes nothing.
use native.Mathlib.Omega.{arith}
use Rattle.scene_tables.specs.Bytes.{bytes_of}
use Rattle.text_output.specs.Text.{steps64}
use Rattle.text_output.proofs.laws.Print.{decimal_length}
use Rattle.month_files.proofs.laws.Text.{name_put}
use Rattle.month_files.proofs.laws.Names.{name_utf8}
use Rattle.month_files.proofs.print.mix_name.Goals as goal

pub put_text-requires : goal.put_text-requires
put_text-requires c = omega (arith, c.put_text-start.ensures.place, c.put_text-start.auto.text, c.put_decimal-end.ensures.place, c.put_decimal-end.auto.text, decimal_length steps64 c.args.mix)

pub returns : goal.returns
unfolding bytes_of
returns c = let whole = name_put c.args.mix c.args.name.now (c.put_text-start.ensures.place, c.put_text-start.ensures.text) (c.put_decimal-end.ensures.place, c.put_decimal-end.ensures.text) (c.put_text.ensures.place, c.put_text.ensures.text) in record { written = whole.0; within = whole.1; utf8 = name_utf8 c.args.mix c.args.name.now whole.0 }
