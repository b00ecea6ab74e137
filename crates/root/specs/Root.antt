-- The square root of an f32 from 0 up: the nearest f32, found by comparing squares of whole numbers.
use Rattle.std.specs.Prelude.{Bool, cond, ℕ, zero, suc, ◌+◌, ◌-◌, ◌*◌, ◌/◌, ◌^◌, T, leb, Float}
use Rattle.std.specs.Float.{binary32}
use Rattle.std.specs.Float.Ieee.{le, of_bits}
use Rattle.laws.specs.Float.{pos_zero}
use Rattle.laws.specs.FloatOrder.{Number, plus}

-- a finite f32 from 0 up
pub record FromZero (x : Float) : Type 0 where
  pub number : Number binary32 x
  pub least : T (le pos_zero x)

-- The bit patterns of the f32 from 0 up are in their order, 0 and then 1, the smallest, which is 2 ^ -149: the unit. The infinity's comes behind them.
abbrev pub infinity : ℕ
infinity = 255 * 2 ^ 23

-- how many units pattern k stands for
unfoldable pub units : ℕ → ℕ
units k = plus binary32 (of_bits binary32 k)

-- twice the middle of patterns k - 1 and k
abbrev pub twice_middle : ℕ → ℕ
twice_middle k = units (k - 1) + units k

-- The root of v units is no less than the middle of patterns k - 1 and k, so that k is as near as any pattern below:
-- the square of twice the middle is at most 4 * v units, and a unit is 2 ^ 149 squares of a unit.
unfoldable pub reaches : ℕ → ℕ → Bool
reaches v k = leb (twice_middle k * twice_middle k) (4 * (v * 2 ^ 149))

-- the last pattern from low on and before high that passes the test: the interval is halved n times
unfoldable pub last : (ℕ → Bool) → ℕ → ℕ → ℕ → ℕ
last test zero low high = low
last test (suc n) low high =
    let middle = (low + high) / 2 in
    let passes = test middle in
    last test n (cond passes middle low) (cond passes high middle)

unfoldable pub root : Float → Float
root x = of_bits binary32 (last (reaches (plus binary32 x)) 31 0 infinity)
