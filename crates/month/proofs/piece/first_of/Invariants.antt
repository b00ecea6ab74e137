use mathlib.Core.Path.{◌≡◌}
use mathlib.Core.List.{[], ◌∷◌}
use Prim.Native.Nat.{◌+◌, ◌*◌}
use Rattle.laws.specs.Pieces.{pieces}
use Rattle.byte_order.specs.declared.bytes.ByteOrder.TheVariants.{Little}
use Rattle.byte_order.specs.Bytes.{number_at}
use lib.ListN.{drop}
use Rattle.month.specs.Piece.{first_of}
use Rattle.month.proofs.piece.first_of.Given as goal

abbrev pub invariant-loop-i : goal.invariant-loop-i
invariant-loop-i l = first_of l.m (pieces (λ j. number_at Little l.piece (4 * j) 4 ∷ []) l.n) ≡ l.i + first_of l.m (drop l.i (pieces (λ j. number_at Little l.piece (4 * j) 4 ∷ []) l.n))
