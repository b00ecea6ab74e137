-- `are_distances` meets its contract. Assumes nothing.
use mathlib.Core.Bool.{false≢true}
use Rattle.test_spatial.proofs.are_distances.Goals as goal

pub returns-then-is_distance-2 : goal.returns-then-is_distance-2
returns-then-is_distance-2 c = λ e. record { min = c.is_distance.ensures c.if-is_distance.true; max = c.is_distance-then-is_distance.ensures c.if-is_distance-2.true; apart = e }

pub returns-else-is_distance-2 : goal.returns-else-is_distance-2
returns-else-is_distance-2 c = λ e. absurd (false≢true e)

pub returns-else-is_distance : goal.returns-else-is_distance
returns-else-is_distance c = λ e. absurd (false≢true e)
