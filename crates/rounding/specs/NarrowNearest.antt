-- f64 to f32 in words that need no trust in `round`: no finite f32 is nearer to the value, at a tie the last digit is even,
-- and from 2 ^ 128 - 2 ^ 103 on, half way from the largest f32 to 2 ^ 128, it is an infinity.
use Rattle.std.specs.Prelude.{◌≡◌, ◌⊎◌, ◌≢◌, Bool, cond, ℕ, ◌+◌, ◌-◌, ◌*◌, ◌%◌, ◌^◌, ◌≤◌, ◌<◌, ℤ, T, Float}
use Rattle.std.specs.Bool.{beq}
use Rattle.std.specs.Float.{nan, inf, fin, binary32}
use Rattle.std.specs.Float.Ieee.{up, down, fits}
use Rattle.std.specs.Float.Ieee.Positive.{num, den}
use Rattle.std.specs.Float.Ieee.Scale.{finite}
use Rattle.rounding.specs.Narrow.{Signed}

-- |a - b|, and |±a - ±b|
abbrev pub gap : ℕ → ℕ → ℕ
gap a b = (a - b) + (b - a)

abbrev pub apart : Bool → ℕ → Bool → ℕ → ℕ
apart s a t b = cond (beq s t) (gap a b) (a + b)

-- |x - y| * (den x * den y) of two finite values: each is ±num / den
abbrev pub distance : Float → Float → ℕ
distance nan y = 0
distance (inf s) y = 0
distance (fin s m e) nan = 0
distance (fin s m e) (inf t) = 0
distance (fin s m e) (fin t n d) = apart s (m * up e * down d) t (n * up d * down e)

-- |r| is digits * 2 ^ shift * 2 ^ -149: 24 binary digits, or fewer for the smallest values. The last one is 0.
pub record LastDigitEven (r : Float) : Type 0 where
  pub digits : ℕ
  pub shift : ℕ
  pub value : num r * 2 ^ 149 ≡ digits * 2 ^ shift * den r
  pub most : digits < 2 ^ 24
  pub least : (shift ≡ 0) ⊎ (2 ^ 23 ≤ digits)
  pub even : digits % 2 ≡ 0

-- r is the finite f32 nearest to x: |x - r| ≤ |x - y| for every finite f32 y. Where another is as near, r is the even one.
pub record IsNearestFloat (x r : Float) : Type 0 where
  pub is_finite : T (finite r)
  pub is_float : T (fits binary32 r)
  pub nearest : (y : Float) → T (finite y) → T (fits binary32 y) → distance x r * den y ≤ distance x y * den r
  pub tie : (y : Float) → T (finite y) → T (fits binary32 y) → y ≢ r → distance x r * den y ≡ distance x y * den r → LastDigitEven r

-- r is the value ±m * 2 ^ e as an f32.
pub record Narrows (s : Bool) (m : ℕ) (e : ℤ) (r : Float) : Type 0 where
  pub sign : Signed s r
  pub overflows : (2 ^ 128 - 2 ^ 103) * down e ≤ m * up e → r ≡ inf s
  pub otherwise : m * up e < (2 ^ 128 - 2 ^ 103) * down e → IsNearestFloat (fin s m e) r
