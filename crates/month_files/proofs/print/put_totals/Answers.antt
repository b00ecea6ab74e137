-- `put_totals` meets its contract. Assumes nothing.
use native.Mathlib.Omega.{arith}
use Rattle.scene_tables.specs.Bytes.{bytes_of}
use Rattle.month_files.proofs.laws.Text.{three_most, totals_put}
use Rattle.month_files.proofs.print.put_totals.Goals as goal

pub put_three-squares-requires : goal.put_three-squares-requires
put_three-squares-requires c = omega (arith, c.requires, c.put_text-counts.ensures.place, c.put_text-counts.auto.text, c.put_three-place.ensures.0, c.put_three-place.auto.text, three_most c.args.totals.mixes c.args.totals.frames c.args.totals.full)

pub put_number-requires : goal.put_number-requires
put_number-requires c = omega (arith, c.requires, c.put_text-counts.ensures.place, c.put_text-counts.auto.text, c.put_three-place.ensures.0, c.put_three-place.auto.text, three_most c.args.totals.mixes c.args.totals.frames c.args.totals.full, c.put_three-squares.ensures.0, c.put_three-squares.auto.text, three_most c.args.totals.peak.bits c.args.totals.peak.mix c.args.totals.peak.sample)

pub returns : goal.returns
unfolding bytes_of
returns c = totals_put c.args.totals c.args.text.now (c.put_text-counts.ensures.place, c.put_text-counts.ensures.text) c.put_three-place.ensures c.put_three-squares.ensures (c.put_number.ensures.place, c.put_number.ensures.text)
