-- decibels.rs: `Decibels::as_amplitude`, with the gain table in place of `powf`.
use Rattle.std.specs.Prelude.{Bool, true, false, cond, not, ◌&&◌, ℕ, suc, ◌+◌, ◌-◌, ◌*◌, ◌/◌, ◌%◌, ◌^◌, Float}
use Rattle.std.specs.Float.{nan, inf, fin, binary64}
use Rattle.std.specs.Float.Ieee.{up, down, round, neg, add, sub, mul, div, eq, le, is_nan}
use Rattle.laws.specs.Float.{whole}
use Rattle.rounding.specs.Narrow.{narrowed}
use Rattle.gain_table.specs.GainTable.{entry}

-- the largest number of decibels that has an amplitude, 23.0
abbrev pub limit_decibels : ℕ
limit_decibels = 23

abbrev pub limit : Float
limit = whole limit_decibels

-- `Decibels::SILENCE`, -60.0
abbrev pub silence : Float
silence = neg (whole 60)

-- question 11: is the number not NaN and at most the limit?
unfoldable pub admitted : Float → Bool
admitted n = not (is_nan n) && le n limit

-- 960 + 16 n, where n is ±a / c, as a fraction over c
abbrev pub sixteenths : Bool → ℕ → ℕ → ℕ
sixteenths false a c = 960 * c + 16 * a
sixteenths true a c = 960 * c - 16 * a

-- the entry at or below n: 960 + k, k being the whole part (downward) of 16 n
unfoldable pub entry_below : Float → ℕ
entry_below nan = 0
entry_below (inf s) = 0
entry_below (fin s m e) = sixteenths s (m * up e) (down e) / down e

-- the rest of 16 n, rounded to f64
unfoldable pub rest_above : Float → Float
rest_above nan = nan
rest_above (inf s) = nan
rest_above (fin s m e) = round binary64 false (sixteenths s (m * up e) (down e) % down e) (down e)

-- the entry of the limit: two more are above each entry that is read first
abbrev pub last_entry : ℕ
last_entry = 960 + 16 * limit_decibels

-- entry n, and of the straight line to the next one the part `rest`, in f64
unfoldable pub line_at : ℕ → Float → Float
line_at n rest = add binary64 (whole (entry n)) (mul binary64 (sub binary64 (whole (entry (suc n))) (whole (entry n))) rest)

-- entry n + 2, less twice entry n + 1, plus entry n, in f64
unfoldable pub second_difference : ℕ → Float
second_difference n = add binary64 (sub binary64 (whole (entry (suc (suc n)))) (mul binary64 (whole 2) (whole (entry (suc n))))) (whole (entry n))

-- rest (rest - 1) / 2 times the second difference, in f64
unfoldable pub correction_at : ℕ → Float → Float
correction_at n rest = mul binary64 (div binary64 (mul binary64 rest (sub binary64 rest (whole 1))) (whole 2)) (second_difference n)

-- the line with its correction; with no rest only entry n counts
unfoldable pub curve_at : ℕ → Float → Float
curve_at n rest = cond (eq rest (whole 0)) (whole (entry n)) (add binary64 (line_at n rest) (correction_at n rest))

-- the gain table's part: what it gives at 16 n, divided by 2^40 in f64 and rounded to f32
unfoldable pub curve : Float → Float
curve n = narrowed (div binary64 (curve_at (entry_below n) (rest_above n)) (whole (2 ^ 40)))

unfoldable pub amplitude : Float → Float
amplitude n = cond (eq n (whole 0)) (whole 1) (cond (le n silence) (whole 0) (curve n))
