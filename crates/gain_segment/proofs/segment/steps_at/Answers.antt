-- `segment::steps_at` meets its contract: an entry's number is one that an f64 holds. Assumes nothing.
use mathlib.Core.Path.{refl}
use Prim.Native.Nat.{ℕ, ◌^◌, ◌≤◌}
use native.Mathlib.Nat.{le_trans}
use lib.IntN.{pos}
use lib.Dec.{T, le→leb, lit≤}
use lib.Ieee.{binary64, of_int, of_bits, in_float}
use Rattle.gain_segment.specs.Segment.{steps_at}
use Rattle.gain_segment.proofs.segment.steps_at.Goals as goal

in_float_lem : (k : ℕ) → k ≤ 1344 → T (in_float binary64 (pos k))
unfolding in_float
in_float_lem k h = le→leb k (2 ^ 53) (le_trans h (lit≤ tt))

pub int_to_float-result : goal.int_to_float-result
int_to_float-result c = in_float_lem c.args.entry c.requires

pub returns : goal.returns
unfolding steps_at of_int of_bits
returns c = refl
