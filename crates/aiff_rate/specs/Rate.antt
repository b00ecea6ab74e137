-- A whole number that stands as a number of 80 bits: its sign, 15 bits of its power, and 64 digits, the highest byte first.
use Rattle.std.specs.Prelude.{Option, Some, None, cond, ◌&&◌, List, ◌++◌, ℕ, ◌+◌, ◌-◌, ◌*◌, ◌/◌, ◌%◌, ◌^◌, eqb, ltb}
use Rattle.byte_order.specs.declared.bytes.ByteOrder.TheVariants.{Big}
use Rattle.byte_order.specs.Bytes.{number_at, bytes_of}

-- The power with which digits are the whole number that they spell: 16383 for the power 0, and 63 digits behind the highest.
abbrev pub unit : ℕ
unit = 16446

-- digits * 2 ^ power / 2 ^ one, where that is a whole number of 32 bits.
unfoldable pub whole_of : ℕ → ℕ → ℕ → Option ℕ
whole_of one power digits =
    let value = digits * 2 ^ power in
    cond (eqb (value % 2 ^ one) 0 && ltb (value / 2 ^ one) 4294967296) (Some (value / 2 ^ one)) None

-- The number that begins at a place: every digit counts, whether or not the highest is 1. A power of 32767 has no number (an infinity, a NaN), and
-- from 32768 on the sign is set.
unfoldable pub whole_at : List ℕ → ℕ → Option ℕ
whole_at bytes at =
    let power = number_at Big bytes at 2 in
    cond (ltb power 32767) (whole_of unit power (number_at Big bytes (at + 2) 8)) None

-- ---- a rate that is written

abbrev pub least_rate : ℕ
least_rate = 8000

abbrev pub most_rate : ℕ
most_rate = 192000

-- How often a rate is doubled until the highest of 64 digits is 1.
unfoldable pub shift_of : ℕ → ℕ
shift_of rate = cond (ltb rate 8192) 51 (cond (ltb rate 16384) 50 (cond (ltb rate 32768) 49 (cond (ltb rate 65536) 48 (cond (ltb rate 131072) 47 46))))

unfoldable pub rate_bytes : ℕ → List ℕ
rate_bytes rate = bytes_of Big 2 (unit - shift_of rate) ++ bytes_of Big 8 (rate * 2 ^ shift_of rate)
