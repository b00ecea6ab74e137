-- The nearest f32 to a root, in words that need no trust in `root`. Of two numbers t < r from 0 up, r is the nearer to the root of x where their middle is below it:
-- twice the middle is t + r, and the square of that is below 4 x. All is counted in units of the smallest f32, 2 ^ -149, of which squares have 2 ^ 149 to the unit.
use Rattle.std.specs.Prelude.{T, ◌+◌, ◌*◌, ◌^◌, ◌<◌, Float}
use Rattle.std.specs.Float.{binary32}
use Rattle.std.specs.Float.Ieee.{lt}
use Rattle.laws.specs.FloatOrder.{plus}
use Rattle.root.specs.Root.{FromZero}

-- r is an f32 from 0 up, and nearer to the root of x than any other: there is no tie
pub record IsNearestRoot (x r : Float) : Type 0 where
  pub number : FromZero r
  pub below : (t : Float) → FromZero t → T (lt t r) → (plus binary32 t + plus binary32 r) * (plus binary32 t + plus binary32 r) < 4 * (plus binary32 x * 2 ^ 149)
  pub above : (t : Float) → FromZero t → T (lt r t) → 4 * (plus binary32 x * 2 ^ 149) < (plus binary32 r + plus binary32 t) * (plus binary32 r + plus binary32 t)
