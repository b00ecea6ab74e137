-- A float between two whole numbers.
use Rattle.std.specs.Prelude.{ℕ, Bool, T, Float}
use Rattle.std.specs.Float.{Format}
use Rattle.std.specs.Float.Ieee.{round, le, fits}

-- x is a number of the format from lo to hi
pub record Between (f : Format) (lo hi x : Float) : Type 0 where
  pub held : T (fits f x)
  pub least : T (le lo x)
  pub most : T (le x hi)

-- ---- the whole numbers

-- n, or -n where s is true, in the format: `of_int f` of that integer
abbrev pub integer : Format → Bool → ℕ → Float
integer f s n = round f s n 1
