-- A float and a bit pattern, and four bytes as a number.
use Rattle.std.specs.Prelude.{Bool, List, ℕ, ◌+◌, ◌*◌, eqb, get_or, Float}
use Rattle.std.specs.Float.{Format}
use Rattle.std.specs.Float.Ieee.{of_bits, to_bits}

-- whether x is the float that the bits stand for. `to_bits` has one pattern for a NaN
unfoldable pub stands_for : Format → ℕ → Float → Bool
stands_for f b x = eqb (to_bits f x) (to_bits f (of_bits f b))

-- the lowest byte first
unfoldable pub word_from : List ℕ → ℕ → ℕ
word_from bytes at = get_or bytes at 0 + get_or bytes (at + 1) 0 * 256 + (get_or bytes (at + 2) 0 + get_or bytes (at + 3) 0 * 256) * 65536
