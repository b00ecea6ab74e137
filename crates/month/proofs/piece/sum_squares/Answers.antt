-- `sum_squares` meets its contract: the squares of the first i samples. Assumes nothing.
use mathlib.Core.Path.{ap, ◌∙◌}
use mathlib.Core.List.{[], ◌∷◌}
use Prim.Native.Nat.{ℕ, ◌*◌, ◌/◌}
use lib.ListN.{length}
use Rattle.laws.specs.Pieces.{pieces}
use Rattle.byte_order.specs.declared.bytes.ByteOrder.TheVariants.{Little}
use Rattle.byte_order.specs.Bytes.{number_at}
use Rattle.month.specs.Month.{square, sum_of, squares}
use Rattle.month.specs.Piece.{words_of}
use Rattle.month.proofs.laws.Words.{sum_zero, sum_next, in_at}
use borrow.Author.Rules.{rules}
use Rattle.month.proofs.piece.sum_squares.Goals as goal

pub loop-i-init : goal.loop-i-init
loop-i-init c = (search rules, sum_zero _ _)

pub square_at-sum-requires : goal.square_at-sum-requires
unfolding words_of
square_at-sum-requires c = record { sample_in_piece = search rules; sample_in_range = in_at (λ j. number_at Little c.args.piece.now (4 * j) 4) (length c.args.piece.now / 4) c.loop-i.i (search rules) c.requires.1 }

pub loop-i-preserved : goal.loop-i-preserved
loop-i-preserved c = (search rules, sum_next (λ j. number_at Little c.args.piece.now (4 * j) 4) square c.loop-i.i c.loop-i.invariant.1 c.square_at-sum.ensures.1)

pub returns : goal.returns
unfolding words_of squares
returns c = (search rules, c.loop-i.invariant.1 ∙ ap (λ (k : ℕ). sum_of square (pieces (λ j. number_at Little c.args.piece.now (4 * j) 4 ∷ []) k)) (search rules))
