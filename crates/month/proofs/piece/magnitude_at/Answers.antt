-- `magnitude_at` meets its contract. Assumes nothing.
use mathlib.Core.Path.{ap}
use Prim.Native.Nat.{ℕ, ◌%◌, ◌^◌}
use Rattle.month.specs.Month.{magnitude}
use Rattle.month.proofs.piece.magnitude_at.Goals as goal

pub returns : goal.returns
unfolding magnitude
returns c = ap (λ (w : ℕ). w % 2 ^ 31) c.number4_at.ensures
