-- `count_full` meets its contract: the full ones of the first i samples. Assumes nothing.
use mathlib.Core.Path.{◌≡◌, refl, ap, ◌∙◌}
use mathlib.Core.Bool.{Bool, true, false}
use mir.Val.{bool_byte}
use mathlib.Core.List.{[], ◌∷◌}
use Prim.Native.Nat.{ℕ, ◌*◌}
use Rattle.laws.specs.Pieces.{pieces}
use Rattle.byte_order.specs.declared.bytes.ByteOrder.TheVariants.{Little}
use Rattle.byte_order.specs.Bytes.{number_at}
use lib.Dec.{eqb}
use Rattle.laws.specs.Count.{if_picked}
use Rattle.month.specs.Month.{is_full, one_bits, sum_of, full}
use Rattle.month.specs.Piece.{words_of}
use Rattle.month.proofs.laws.Words.{sum_zero, sum_next}
use borrow.Author.Rules.{rules}
use Rattle.month.proofs.piece.count_full.Goals as goal

one_or_none : (b : Bool) → bool_byte b ≡ if_picked b
one_or_none true = refl
one_or_none false = refl

pub loop-i-init : goal.loop-i-init
loop-i-init c = (search rules, sum_zero _ _)

pub loop-i-preserved : goal.loop-i-preserved
unfolding is_full
loop-i-preserved c = (search rules, sum_next (λ j. number_at Little c.args.piece.now (4 * j) 4) (λ w. if_picked (is_full w)) c.loop-i.i c.loop-i.invariant.1 (c.from-count.ensures ∙ one_or_none (eqb c.magnitude_at.result one_bits) ∙ ap (λ (m : ℕ). if_picked (eqb m one_bits)) c.magnitude_at.ensures))

pub returns : goal.returns
unfolding words_of full
returns c = (search rules, c.loop-i.invariant.1 ∙ ap (λ (k : ℕ). sum_of (λ w. if_picked (is_full w)) (pieces (λ j. number_at Little c.args.piece.now (4 * j) 4 ∷ []) k)) (search rules))
