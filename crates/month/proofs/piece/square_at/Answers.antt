-- `square_at` meets its contract. Assumes nothing.
use mathlib.Core.Path.{ap, ap₂, ◌∙◌}
use Prim.Native.Nat.{ℕ, ◌*◌}
use native.Mathlib.Omega.{arith}
use lib.IntN.{nat_abs}
use lib.Ieee.{binary32, of_bits}
use Rattle.pcm.specs.Sample.{nearest16}
use Rattle.month.specs.Month.{sample_in, square}
use Rattle.month.proofs.laws.Range.{in_range, in_not_nan, square_room}
use Rattle.month.proofs.piece.square_at.Goals as goal

pub float_from_bits-number4_at : goal.float_from_bits-number4_at
float_from_bits-number4_at c = in_not_nan c.number4_at.result (ap sample_in c.number4_at.ensures ∙ c.requires.sample_in_range)

pub distance_16-distance-requires : goal.distance_16-distance-requires
distance_16-distance-requires c = in_range c.number4_at.result (ap sample_in c.number4_at.ensures ∙ c.requires.sample_in_range)

pub overflow_mul-result : goal.overflow_mul-result
overflow_mul-result c = omega (arith, square_room c.distance_16-distance.result c.distance_16-distance.ensures.0)

pub returns : goal.returns
unfolding square
returns c =
    let e = c.distance_16-distance.ensures.1 ∙ ap (λ (w : ℕ). nat_abs (nearest16 (of_bits binary32 w))) c.number4_at.ensures in
    (square_room c.distance_16-distance.result c.distance_16-distance.ensures.0, ap₂ ◌*◌ e e)
