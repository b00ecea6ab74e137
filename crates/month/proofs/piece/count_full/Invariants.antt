use mathlib.Core.Path.{◌≡◌}
use mathlib.Core.List.{[], ◌∷◌}
use Prim.Native.Nat.{◌*◌, ◌≤◌}
use Rattle.laws.specs.Pieces.{pieces}
use Rattle.byte_order.specs.declared.bytes.ByteOrder.TheVariants.{Little}
use Rattle.byte_order.specs.Bytes.{number_at}
use Rattle.laws.specs.Count.{if_picked}
use Rattle.month.specs.Month.{is_full, sum_of}
use Rattle.month.proofs.piece.count_full.Given as goal

abbrev pub invariant-loop-i : goal.invariant-loop-i
invariant-loop-i l = (l.count ≤ l.i) × (l.count ≡ sum_of (λ w. if_picked (is_full w)) (pieces (λ j. number_at Little l.piece (4 * j) 4 ∷ []) l.i))
