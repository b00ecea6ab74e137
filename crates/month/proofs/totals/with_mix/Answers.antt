-- `with_mix` meets its contract. Assumes nothing.
use mathlib.Core.Path.{refl}
use native.Mathlib.Nat.{div-le_self}
use native.Mathlib.Omega.{arith}
use Rattle.month.specs.Piece.{with_mix}
use Rattle.month.proofs.totals.with_mix.Goals as goal

pub overflow_add-result-2 : goal.overflow_add-result-2
overflow_add-result-2 c = omega (arith, c.requires.2, div-le_self c.args.samples c.args.channels)

pub returns : goal.returns
unfolding with_mix
returns c = refl
