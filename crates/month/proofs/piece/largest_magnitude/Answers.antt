-- `largest_magnitude` meets its contract: the largest of the first i samples. Assumes nothing.
use mathlib.Core.Path.{ap, ◌∙◌}
use mathlib.Core.List.{[], ◌∷◌}
use Prim.Native.Nat.{ℕ, ◌*◌}
use Rattle.laws.specs.Pieces.{pieces}
use Rattle.byte_order.specs.declared.bytes.ByteOrder.TheVariants.{Little}
use Rattle.byte_order.specs.Bytes.{number_at}
use Rattle.month.specs.Piece.{words_of, largest}
use Rattle.month.proofs.laws.Words.{largest_zero, largest_next}
use borrow.Author.Rules.{rules}
use Rattle.month.proofs.piece.largest_magnitude.Goals as goal

pub loop-i-init : goal.loop-i-init
loop-i-init c = largest_zero _

pub loop-i-preserved : goal.loop-i-preserved
loop-i-preserved c = largest_next (λ j. number_at Little c.args.piece.now (4 * j) 4) c.loop-i.i c.loop-i.invariant c.magnitude_at.ensures (search rules)

pub returns : goal.returns
unfolding words_of
returns c = c.loop-i.invariant ∙ ap (λ (k : ℕ). largest (pieces (λ j. number_at Little c.args.piece.now (4 * j) 4 ∷ []) k)) (search rules)
