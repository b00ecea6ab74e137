-- `is_distance` meets its contract. Assumes nothing.
use mathlib.Core.Bool.{true, false, false≢true}
use lib.Dec.{lit<}
use lib.Ieee.{binary32, le, fits, of_bits, round}
use Rattle.laws.specs.FloatRound.{integer}
use Rattle.laws.proofs.laws.Choice.{true-T}
use Rattle.laws.proofs.laws.FloatRound.{at_integer, between_widens}
use Rattle.test_spatial.proofs.is_distance.Goals as goal

pub returns-then-x : goal.returns-then-x
unfolding le of_bits round
returns-then-x c =
    let x = c.args.x in
    let from = integer binary32 false 0 in
    let to = integer binary32 false 1000 in
    let low = (at_integer binary32 false 0 (lit< tt)).0 in
    let high = (at_integer binary32 false 1000 (lit< tt)).0 in
    λ e. between_widens binary32 from to (integer binary32 true 0) to x low high (at_integer binary32 true 0 (lit< tt)).0 high tt tt
    (record { held = true-T (fits binary32 x) c.well_formed.0.1; least = true-T (le from x) c.if-x.true; most = true-T (le x to) e })

pub returns : goal.returns
returns c = λ e. absurd (false≢true e)
