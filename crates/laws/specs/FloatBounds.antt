-- A bound on the size of a float: `Within x a c` says that x is finite and |x| ≤ a / c.
use Rattle.std.specs.Prelude.{ℕ, ◌*◌, ◌≤◌, T, Float}
use Rattle.std.specs.Float.Ieee.Scale.{finite}
use Rattle.std.specs.Float.Ieee.Positive.{num, den}

-- x is finite, and its size `num x / den x` is at most a / c, for a c above 0
pub record Within (x : Float) (a c : ℕ) : Type 0 where
  pub is_finite : T (finite x)
  pub size : num x * c ≤ a * den x
