-- track/sub.rs: `SpatialData::spatialize` with strength 0 and linear attenuation; track/sub/spatial_builder.rs: `relative_distance`.
use Rattle.std.specs.Prelude.{◌≡◌, true, cond, Float}
use Rattle.std.specs.Float.{binary32}
use Rattle.std.specs.Float.Ieee.{add, sub, mul, div, lt}
use Rattle.laws.specs.Float.{whole}
use Rattle.laws.specs.Interpolate.{InRange}
use Rattle.rounding.specs.Narrow.{narrowed}
use Rattle.root.specs.Root.{root}
use Rattle.decibels.specs.declared.decibels.Decibels.{Decibels}
use Rattle.decibels.specs.Decibels.{silence, amplitude}
use Rattle.tween.specs.declared.tween.Easing.TheVariants.{Linear}
use Rattle.tween.specs.Tween.{easing_apply}
use Rattle.tween.specs.Tweenable.{interpolated}
use Rattle.spatial.specs.declared.spatial.Position.{Position}
use Rattle.spatial.specs.declared.spatial.Distances.{Distances}
use Rattle.spatial.specs.declared.placing.Placing.{Placing}
use Rattle.spatial.specs.declared.placing.Placing.TheVariants.{Plain, Unheard, Spatial}

-- x² + y² + z², summed from left to right
unfoldable pub length_squared : Float → Float → Float → Float
length_squared x y z = add binary32 (add binary32 (mul binary32 x x) (mul binary32 y y)) (mul binary32 z z)

-- the length of the listener's position less the track's
unfoldable pub distance : Position → Position → Float
distance listener position =
    root (length_squared (sub binary32 listener.x position.x) (sub binary32 listener.y position.y) (sub binary32 listener.z position.z))

-- `f32::clamp`
unfoldable pub clamp : Float → Float → Float → Float
clamp x min max = cond (lt x min) min (cond (lt max x) max x)

-- how far along a distance is from the nearest, 0, to the farthest, 1
unfoldable pub relative_distance : Distances → Float → Float
relative_distance distances d =
    let min = distances.min_distance in
    let max = distances.max_distance in
    div binary32 (sub binary32 (clamp d min max) min) (sub binary32 max min)

unfoldable pub relative_volume : Float → Float
relative_volume relative = narrowed (easing_apply Linear (sub binary32 (whole 1) relative))

-- from `Decibels::SILENCE` to `Decibels::IDENTITY`
unfoldable pub attenuation : Position → Position → Distances → Decibels
attenuation listener position distances =
    interpolated (record { 0 = silence }) (record { 0 = whole 0 }) (relative_volume (relative_distance distances (distance listener position)))

-- the factor of a track's frames, before its volume
unfoldable pub factor : Placing → Float
factor Plain = whole 1
factor Unheard = whole 0
factor (Spatial level) = amplitude level.0

-- ---- ranges: positions in -1000..1000, distances in 0..1000 and the nearest before the farthest

pub record PositionIn (p : Position) : Type 0 where
  pub x : InRange binary32 1000 1000 p.x
  pub y : InRange binary32 1000 1000 p.y
  pub z : InRange binary32 1000 1000 p.z

pub record DistancesIn (d : Distances) : Type 0 where
  pub min : InRange binary32 0 1000 d.min_distance
  pub max : InRange binary32 0 1000 d.max_distance
  pub apart : lt d.min_distance d.max_distance ≡ true

-- a level of -60 to 0 decibels
abbrev pub PlacingIn : Placing → Type 0
PlacingIn Plain = Unit {0}
PlacingIn Unheard = Unit {0}
PlacingIn (Spatial level) = InRange binary32 60 0 level.0
