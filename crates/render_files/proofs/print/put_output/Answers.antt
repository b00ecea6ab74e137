-- `put_output` meets its contract: i lines stand after the names line. Assumes nothing.
use mathlib.Core.Path.{◌≡◌, refl, ap, subst}
use Prim.Native.Nat.{ℕ, ◌+◌, ◌/◌, ◌%◌}
use native.Mathlib.Nat.{div-le_self, mod-le}
use native.Mathlib.Omega.{arith}
use lib.ListN.{length}
use borrow.Author.Rules.{rules}
use Rattle.laws.specs.Pieces.{put_at}
use Rattle.laws.proofs.laws.Pieces.{pieces_zero, put_zero}
use Rattle.scene_tables.specs.Bytes.{bytes_of}
use Rattle.text_output.proofs.laws.Print.{put_piece}
use Rattle.render_files.specs.Program.{line}
use Rattle.render_files.proofs.laws.Print.{line_at, lines_length, output_whole}
use Rattle.render_files.proofs.print.put_output.Goals as goal

pub loop-i-init : goal.loop-i-init
loop-i-init c = (search rules, refl, omega (arith, ap length (pieces_zero (line_at c.args.width c.args.output.now))), put_zero _ _ _)

pub overflow_cast-block : goal.overflow_cast-block
overflow_cast-block c = omega (arith, div-le_self c.loop-i.i c.args.width)

pub overflow_cast-place : goal.overflow_cast-place
overflow_cast-place c = omega (arith, mod-le c.loop-i.i c.args.width)

pub put_line-at-requires : goal.put_line-at-requires
put_line-at-requires c = omega (arith, c.requires.output_within_most, c.requires.room_for_text, c.loop-i.invariant.1, c.loop-i.invariant.2, lines_length c.args.width c.args.output.now c.loop-i.i, c.loop-i-test.true, c.put_text-at.ensures.place, c.put_text-at.auto.text)

pub loop-i-preserved : goal.loop-i-preserved
loop-i-preserved c =
    let put = subst (λ (b : ℕ). (c.put_line-at.result ≡ c.loop-i.at + length (line (c.loop-i.i / c.args.width) (c.loop-i.i % c.args.width) b)) × (c.put_line-at.new.text ≡ put_at c.loop-i.at (line (c.loop-i.i / c.args.width) (c.loop-i.i % c.args.width) b) c.loop-i.text)) c.f32_bits.ensures (c.put_line-at.ensures.place, c.put_line-at.ensures.text) in
    let next = put_piece (line_at c.args.width c.args.output.now) c.put_text-at.result c.loop-i.i c.put_text-at.new.text (search rules) c.loop-i.invariant.2 c.loop-i.invariant.3 put in
    (search rules, search rules, next.0, next.1)

pub returns : goal.returns
unfolding bytes_of
returns c = let whole = output_whole c.args.width c.args.output.now c.args.text.now (c.put_text-at.ensures.place, c.put_text-at.ensures.text) (search rules) (c.loop-i.invariant.2, c.loop-i.invariant.3) in record { length = whole.0; text = whole.1 }
