-- The level at a distance lies in -60..0 decibels, so it has an amplitude, and the factor of a placing lies in 0..1. Assumes nothing.
use mathlib.Core.Path.{◌≡◌, refl, sym, ◌∙◌, subst}
use mathlib.Core.Bool.{true, false, not, ◌&&◌}
use Prim.Native.Nat.{ℕ, ◌+◌, ◌*◌, ◌^◌, ◌≤◌, ◌<◌}
use native.Mathlib.Nat.{zero-mul}
use native.Mathlib.Omega.{arith}
use lib.Dec.{T, lit<, lit≤}
use lib.Pow.{pow_pos}
use lib.IntN.{pos}
use lib.Ieee.{fin, Float, Format, binary32, binary64, prec, low, neg, round, sub, le, fits, is_nan, of_int}
use lib.Ieee.Fits.{and_i, fits_widens}
use Rattle.laws.specs.Float.{whole}
use Rattle.laws.specs.FloatOrder.{plus, minus}
use Rattle.laws.specs.FloatBounds.{Within}
use Rattle.laws.specs.FloatRound.{Between, integer}
use Rattle.laws.specs.Interpolate.{interpolate, InRange}
use Rattle.laws.proofs.laws.Amount.{InUnit, amount_number}
use Rattle.laws.proofs.laws.FloatBounds.{within_between}
use Rattle.laws.proofs.laws.FloatOrder.{plus_on_grid, units→le, not_nan}
use Rattle.laws.proofs.laws.FloatRound.{at_integer, sub_exact}
use Rattle.laws.proofs.laws.Interpolate.{range_widens, exact_up}
use Rattle.rounding.specs.Narrow.{narrowed}
use Rattle.rounding.proofs.laws.Narrow.{narrowed_unit}
use Rattle.decibels.specs.declared.decibels.Decibels.{Decibels}
use Rattle.decibels.specs.Decibels.{admitted, silence}
use Rattle.decibels.proofs.laws.Decibels.{amplitude_between, read_admitted}
use Rattle.tween.specs.Tween.{easing_apply}
use Rattle.tween.specs.Tweenable.{interpolated}
use Rattle.spatial.specs.declared.spatial.Position.{Position}
use Rattle.spatial.specs.declared.spatial.Distances.{Distances}
use Rattle.spatial.specs.declared.placing.Placing.{Placing}
use Rattle.spatial.specs.declared.placing.Placing.TheVariants.{Plain, Unheard, Spatial}
use Rattle.spatial.specs.Spatial.{distance, relative_distance, relative_volume, attenuation, factor, PositionIn, DistancesIn, PlacingIn}
use Rattle.spatial.proofs.laws.Distance.{distance_number}
use Rattle.spatial.proofs.laws.Relative.{less_relative}
use Rattle.spatial.proofs.laws.Unity.{amplitude_unity_most}

-- ---- from -p up to 0

module _ (f : Format) (p : ℕ) (P : p < 2 ^ prec f) (t : Float) (A : InUnit f t) where
  rises_to_zero : InRange f p 0 (interpolate f (integer f true p) (integer f false 0) t)
  rises_to_zero =
      let a = integer f true p in
      let b = integer f false 0 in
      let w = integer f false p in
      let N = at_integer f true p P in
      let M = at_integer f false 0 (pow_pos (prec f)) in
      let K = at_integer f false p P in
      let none : 0 * 2 ^ low f ≡ 0 = zero-mul (2 ^ low f) in
      let x = sub_exact f b a false (plus f w) M.0 N.0 (plus_on_grid f w K.0)
      (joined (p * 2 ^ low f) (plus f a) (minus f a) (plus f b) (minus f b) (plus f w) N.1 N.2 (M.1 ∙ none) M.2 K.1) in
      exact_up f a b t N.0 M.0 x.0 A x.1
      (units→le f a b N.0 M.0 (below (plus f a) (minus f a) (plus f b) (minus f b) N.1 M.2))
    where
      joined : (w pa ma pb mb pw : ℕ) → pa ≡ 0 → ma ≡ w → pb ≡ 0 → mb ≡ 0 → pw ≡ w → pw + (mb + pa) ≡ 0 + (pb + ma)
      joined w pa ma pb mb pw h i j k l = omega arith

      below : (pa ma pb mb : ℕ) → pa ≡ 0 → mb ≡ 0 → pa + mb ≤ pb + ma
      below pa ma pb mb h i = omega arith

-- ---- the level

widens : (x : Float) → InUnit binary32 x → T (fits binary64 x && not (is_nan x))
widens x h = and_i (fits binary64 x) (not (is_nan x)) (fits_widens x h.held) (not_nan x (amount_number binary32 x h).is_finite)

sixty_below : integer binary32 true 60 ≡ fin true 15 (pos 2)
unfolding round
sixty_below = refl

silence_below : silence ≡ fin true 15 (pos 2)
unfolding neg of_int round
silence_below = refl

zero_is : integer binary32 false 0 ≡ fin false 0 (pos 0)
unfolding round
zero_is = refl

whole_zero : whole 0 ≡ fin false 0 (pos 0)
unfolding of_int round
whole_zero = refl

-- from silence to 0 dB by an amount
eased_in : (t : Float) → InUnit binary32 t → PlacingIn (Spatial (interpolated (record { 0 = silence }) (record { 0 = whole 0 }) t))
unfolding interpolated
eased_in t h =
    subst (λ (x : Float). InRange binary32 60 0 (interpolate binary32 x (whole 0) (narrowed t))) (sixty_below ∙ sym silence_below)
    (subst (λ (y : Float). InRange binary32 60 0 (interpolate binary32 (integer binary32 true 60) y (narrowed t))) (zero_is ∙ sym whole_zero)
    (rises_to_zero binary32 60 (lit< tt) (narrowed t) (narrowed_unit binary32 t h)))

-- the amount that is interpolated by is 1 less the relative distance
module _ (l p : Position) (d : Distances) (L : PositionIn l) (P : PositionIn p) (D : DistancesIn d) where
  volume_in : InUnit binary32 (sub binary32 (whole 1) (relative_distance d (distance l p)))
  volume_in = less_relative d D (distance l p) (distance_number l p L P)

  relative_volume_in : InUnit binary32 (relative_volume (relative_distance d (distance l p)))
  unfolding relative_volume easing_apply
  relative_volume_in = narrowed_unit binary32 (sub binary32 (whole 1) (relative_distance d (distance l p))) volume_in

  -- what is widened to f64 on the way is a number, and so what it was
  pub volume_widens : (r : Float) → r ≡ relative_distance d (distance l p) → T (fits binary64 (sub binary32 (whole 1) r) && not (is_nan (sub binary32 (whole 1) r)))
  volume_widens r e = widens (sub binary32 (whole 1) r) (subst (λ (x : Float). InUnit binary32 (sub binary32 (whole 1) x)) (sym e) volume_in)

  pub relative_volume_widens : (v : Float) → v ≡ relative_volume (relative_distance d (distance l p)) → T (fits binary64 v && not (is_nan v))
  relative_volume_widens v e = widens v (subst (InUnit binary32) (sym e) relative_volume_in)

  pub attenuation_in : PlacingIn (Spatial (attenuation l p d))
  unfolding attenuation
  attenuation_in = eased_in (relative_volume (relative_distance d (distance l p))) relative_volume_in

-- ---- the factor

pub placing_admitted : (level : Decibels) → PlacingIn (Spatial level) → T (admitted level.0)
placing_admitted level h = read_admitted level.0 (range_widens binary32 60 0 98 20 level.0 (lit< tt) (lit< tt) (lit≤ tt) (lit≤ tt) h)

pub factor_in : (p : Placing) → PlacingIn p → Between binary32 (whole 0) (whole 1) (factor p)
unfolding factor of_int round fits le
factor_in Plain h = record { held = tt; least = tt; most = tt }
factor_in Unheard h = record { held = tt; least = tt; most = tt }
factor_in (Spatial level) h =
    let t = placing_admitted level h in
    let b = amplitude_between level.0 h.held t in
    record { held = b.held; least = b.least; most = amplitude_unity_most level.0 h.held t h.most }

pub factor_within : (p : Placing) → PlacingIn p → Within (factor p) 1 1
unfolding of_int
factor_within p h = let b = factor_in p h in within_between (record { is_finite = tt; size = lit≤ tt }) (record { is_finite = tt; size = lit≤ tt }) b.least b.most
