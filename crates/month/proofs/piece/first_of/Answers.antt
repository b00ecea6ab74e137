-- `first_of` meets its contract: none of the first i samples is of the magnitude. Assumes nothing.
use Prim.Native.Nat.{◌*◌}
use Rattle.byte_order.specs.declared.bytes.ByteOrder.TheVariants.{Little}
use Rattle.byte_order.specs.Bytes.{number_at}
use Rattle.month.specs.Piece.{words_of}
use Rattle.month.proofs.laws.Words.{first_zero, first_here, first_later, first_none}
use borrow.Author.Rules.{rules}
use native.Mathlib.Omega.{arith}
use Rattle.month.proofs.piece.first_of.Goals as goal

pub loop-i-init : goal.loop-i-init
loop-i-init c = first_zero _ _ _

pub returns-then-magnitude_at-m : goal.returns-then-magnitude_at-m
unfolding words_of
returns-then-magnitude_at-m c = (search rules, first_here (λ j. number_at Little c.args.piece.now (4 * j) 4) _ c.args.m c.loop-i.i (search rules) c.magnitude_at.ensures c.if-magnitude_at-m.true c.loop-i.invariant)

pub loop-i-preserved : goal.loop-i-preserved
loop-i-preserved c = first_later (λ j. number_at Little c.args.piece.now (4 * j) 4) _ c.args.m c.loop-i.i (search rules) c.magnitude_at.ensures c.if-magnitude_at-m.false c.loop-i.invariant

pub returns : goal.returns
unfolding words_of
returns c = (search rules, omega (arith, c.loop-i-test.false, c.loop-i.auto.i-end, first_none (λ j. number_at Little c.args.piece.now (4 * j) 4) _ c.args.m c.loop-i.i (search rules) c.loop-i.invariant))
