-- `is_coordinate` meets its contract. Assumes nothing.
use mathlib.Core.Bool.{true, false, false≢true}
use lib.Ieee.{binary32, neg, le, fits, of_bits, round}
use Rattle.laws.specs.FloatRound.{integer}
use Rattle.laws.proofs.laws.Choice.{true-T}
use Rattle.test_spatial.proofs.is_coordinate.Goals as goal

pub returns-then-x : goal.returns-then-x
unfolding neg of_bits round
returns-then-x c =
    let x = c.args.x in
    λ e. record { held = true-T (fits binary32 x) c.well_formed.0.1; least = true-T (le (integer binary32 true 1000) x) c.if-x.true; most = true-T (le x (integer binary32 false 1000)) e }

pub returns : goal.returns
returns c = λ e. absurd (false≢true e)
