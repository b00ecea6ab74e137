-- `is_position` meets its contract. Assumes nothing.
use mathlib.Core.Bool.{false≢true}
use Rattle.test_spatial.proofs.is_position.Goals as goal

pub returns-then-is_coordinate-2 : goal.returns-then-is_coordinate-2
returns-then-is_coordinate-2 c = λ e. record { x = c.is_coordinate.ensures c.if-is_coordinate.true; y = c.is_coordinate-then-is_coordinate.ensures c.if-is_coordinate-2.true; z = c.is_coordinate-then-is_coordinate-2.ensures e }

pub returns-else-is_coordinate-2 : goal.returns-else-is_coordinate-2
returns-else-is_coordinate-2 c = λ e. absurd (false≢true e)

pub returns-else-is_coordinate : goal.returns-else-is_coordinate
returns-else-is_coordinate c = λ e. absurd (false≢true e)
