-- `reaches` meets its contract: its test in f64 is exact, by the law `square_test`. Assumes nothing.
use native.Mathlib.Omega.{arith}
use mathlib.Core.Bool.{not, ◌&&◌}
use lib.Dec.{T}
use lib.Ieee.{Float, binary32, binary64, fits, is_nan}
use lib.Ieee.Fits.{and_i, fits_widens}
use Rattle.laws.specs.FloatOrder.{Number}
use Rattle.laws.proofs.laws.FloatOrder.{not_nan}
use Rattle.root.proofs.laws.Patterns.{pattern_number, pattern_no_nan}
use Rattle.root.proofs.laws.SquareTest.{square_test}
use Rattle.root.proofs.reaches.Goals as goal

-- an f32 is an f64
widens : (x : Float) → Number binary32 x → T (fits binary64 x && not (is_nan x))
widens x N = and_i (fits binary64 x) (not (is_nan x)) (fits_widens x N.held) (not_nan x N.is_finite)

pub float_from_bits-twice : goal.float_from_bits-twice
float_from_bits-twice c = pattern_no_nan _ (omega arith)

pub float_to_float-twice : goal.float_to_float-twice
float_to_float-twice c = widens _ (pattern_number _ (omega arith))

pub float_from_bits-twice-2 : goal.float_from_bits-twice-2
float_from_bits-twice-2 c = pattern_no_nan c.args.k c.requires.below_infinity

pub float_to_float-twice-2 : goal.float_to_float-twice-2
float_to_float-twice-2 c = widens _ (pattern_number c.args.k c.requires.below_infinity)

pub float_to_float-result : goal.float_to_float-result
float_to_float-result c = widens c.args.x c.requires.finite_from_zero.number

pub returns : goal.returns
returns c = square_test c.args.x c.args.k c.requires.finite_from_zero c.requires.not_zero c.requires.below_infinity
