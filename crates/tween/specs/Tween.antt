-- tween.rs: easings, and a tween's value at a time.
use Rattle.std.specs.Prelude.{cond, ℕ, zero, suc, ◌/◌, ◌%◌, eqb, Float}
use Rattle.std.specs.Float.{binary64}
use Rattle.std.specs.Float.Ieee.{add, sub, mul, div, lt}
use Rattle.tween.specs.declared.tween.Easing.{Easing}
use Rattle.tween.specs.declared.tween.Easing.TheVariants.{Linear, InPowi, OutPowi, InOutPowi}
use Rattle.tween.specs.declared.tween.Tween.{Tween}
use Rattle.rounding.specs.Duration.{secs_from_millis}
use Rattle.laws.specs.Float.{half, one, two}

-- The result so far, the base and what is left of the power, with so many bits to go: multiply where the lowest bit is set, then square.
unfoldable pub powi_from : ℕ → Float → Float → ℕ → Float
powi_from zero result base left = result
powi_from (suc bits) result base left = powi_from bits (cond (eqb (left % 2) 1) (mul binary64 result base) result) (mul binary64 base base) (left / 2)

-- `f64::powi`, by squaring: the result is 1 at first, and a u32 has 32 bits
unfoldable pub powi : Float → ℕ → Float
powi x power = powi_from 32 one x power

unfoldable pub in_out_powi : Float → ℕ → Float
in_out_powi x power =
    cond (lt x one)
    (mul binary64 half (powi x power))
    (add binary64 (mul binary64 half (sub binary64 one (powi (sub binary64 two x) power))) half)

unfoldable pub easing_apply : Easing → Float → Float
easing_apply Linear x = x
easing_apply (InPowi power) x = powi x power
easing_apply (OutPowi power) x = sub binary64 one (powi (sub binary64 one x) power)
easing_apply (InOutPowi power) x = in_out_powi (mul binary64 x two) power

unfoldable pub tween_value : Tween → Float → Float
tween_value tween time = easing_apply tween.easing (div binary64 time (secs_from_millis tween.duration))

-- ---- a tween's value
