-- f64 to f32, ties to even (IEEE 754).
use Rattle.std.specs.Prelude.{◌≡◌, Bool, ℕ, ◌*◌, ◌^◌, ◌≤◌, ◌<◌, Float}
use Rattle.std.specs.Float.{nan, inf, fin, binary32, binary64}
use Rattle.std.specs.Float.Ieee.{up, down, round, of_bits, to_bits}

-- A value of any format, rounded to binary32.
unfoldable pub narrowed : Float → Float
narrowed nan = nan
narrowed (inf s) = inf s
narrowed (fin s m e) = round binary32 s (m * up e) (down e)

-- The same from the bits of a value that is neither negative nor a NaN to those of the result.
unfoldable pub narrowed_bits : ℕ → ℕ
narrowed_bits b = to_bits binary32 (narrowed (of_bits binary64 b))

-- x has the sign s, and is no NaN
abbrev pub Signed : Bool → Float → Type 0
Signed s nan = ⊥
Signed s (inf t) = t ≡ s
Signed s (fin t m e) = t ≡ s

-- a positive number that is normal in both formats, by its bits
pub record IsNormal (x : Float) : Type 0 where
  pub least : 897 * 2 ^ 52 ≤ to_bits binary64 x
  pub most : to_bits binary64 x < 1151 * 2 ^ 52
