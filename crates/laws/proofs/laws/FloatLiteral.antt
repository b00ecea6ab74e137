-- The literals 0.0, -0.0, 0.5, 1.0 and 2.0, which both formats hold, and their bit patterns, as which a literal stands in a program's conditions. Assumes nothing.
use mathlib.Core.Path.{◌≡◌, refl, ◌∙◌, subst}
use Prim.Native.Nat.{◌^◌}
use native.Mathlib.Nat.{zero-mul}
use mathlib.Core.Bool.{Bool, true, false}
use lib.IntN.{pos}
use lib.Pow.{pow_pos}
use lib.Ieee.{Float, fin, Format, binary32, binary64, prec, low, round}
use Rattle.laws.specs.Float.{pos_zero, one, half, two}
use Rattle.laws.specs.FloatOrder.{Number, plus, minus}
use Rattle.laws.proofs.laws.FloatRound.{at_integer}

-- each is what a fraction rounds to
pub round-pos_zero : (f : Format) (s : Bool) → round f s 0 1 ≡ fin s 0 (pos 0)
unfolding round
round-pos_zero binary32 false = refl
round-pos_zero binary32 true = refl
round-pos_zero binary64 false = refl
round-pos_zero binary64 true = refl

pub round-half : (f : Format) → round f false 1 2 ≡ half
unfolding round
round-half binary32 = refl
round-half binary64 = refl

pub round-one : (f : Format) → round f false 1 1 ≡ one
unfolding round
round-one binary32 = refl
round-one binary64 = refl

pub round-two : (f : Format) → round f false 2 1 ≡ two
unfolding round
round-two binary32 = refl
round-two binary64 = refl

pub at_pos_zero : (f : Format) → Number f pos_zero × (plus f pos_zero ≡ 0) × (minus f pos_zero ≡ 0)
at_pos_zero f =
    subst (λ (x : Float). Number f x × (plus f x ≡ 0) × (minus f x ≡ 0)) (round-pos_zero f false)
    (let o = at_integer f false 0 (pow_pos (prec f)) in (o.0, o.1 ∙ zero-mul (2 ^ low f), o.2))
