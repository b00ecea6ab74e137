-- Units of time.
use Rattle.std.specs.Prelude.{ℕ, ◌*◌, ◌/◌, ◌%◌, ◌^◌, pos, T, Float}
use Rattle.std.specs.Float.{nan, inf, fin, binary64}
use Rattle.std.specs.Float.Ieee.{up, down, add, div, le, of_int}
use Rattle.rounding.specs.Nearest.{nearest_quotient}

-- 0 to 3,600 seconds
pub record InAnHour (x : Float) : Type 0 where
  pub not_below : T (le (of_int binary64 (pos 0)) x)
  pub not_above : T (le x (of_int binary64 (pos 3600)))

-- The nearest nanosecond of the exact value, ties to even (`Duration::from_secs_f64`).
unfoldable pub nanos_from_secs : Float → ℕ
nanos_from_secs nan = 0
nanos_from_secs (inf s) = 0
nanos_from_secs (fin s m e) = nearest_quotient (m * up e * 10 ^ 9) (down e)

-- Whole seconds plus nanoseconds / 1e9, in f64 (`Duration::as_secs_f64`).
unfoldable pub secs_from_millis : ℕ → Float
secs_from_millis n = add binary64 (of_int binary64 (pos (n / 1000))) (div binary64 (of_int binary64 (pos (n % 1000 * 1000000))) (of_int binary64 (pos (10 ^ 9))))
