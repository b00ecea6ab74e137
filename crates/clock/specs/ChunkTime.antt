-- A chunk's seconds: kira's renderer's `dt` times the chunk's frames.
use Rattle.std.specs.Prelude.{ℕ, Float}
use Rattle.std.specs.Float.{binary64}
use Rattle.std.specs.Float.Ieee.{mul, div}
use Rattle.laws.specs.Float.{whole}

-- (1.0 / rate) * n
abbrev pub chunk_time : ℕ → ℕ → Float
chunk_time rate n = mul binary64 (div binary64 (whole 1) (whole rate)) (whole n)
