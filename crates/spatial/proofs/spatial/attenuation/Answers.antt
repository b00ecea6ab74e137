-- `attenuation` meets its contract. Both widenings lose nothing, since what is widened is an amount. Assumes nothing.
use mathlib.Core.Path.{ap, ◌∙◌}
use lib.Ieee.{Float, binary32, neg, sub, of_bits, of_int}
use Rattle.laws.specs.Float.{whole}
use Rattle.rounding.specs.Narrow.{narrowed}
use Rattle.decibels.specs.Decibels.{silence}
use Rattle.tween.specs.declared.tween.Easing.TheVariants.{Linear}
use Rattle.tween.specs.Tween.{easing_apply}
use Rattle.tween.specs.Tweenable.{interpolated}
use Rattle.spatial.specs.Spatial.{relative_distance, relative_volume, attenuation}
use Rattle.spatial.proofs.laws.Spatial.{volume_widens, relative_volume_widens}
use Rattle.spatial.proofs.spatial.attenuation.Goals as goal

pub float_to_float-relative_distance : goal.float_to_float-relative_distance
unfolding of_bits of_int
float_to_float-relative_distance c = volume_widens c.args.listener c.args.position c.args.distances c.requires.positions_in_range.0 c.requires.positions_in_range.1 c.requires.distances_in_range c.relative_distance-relative_distance.result (c.relative_distance-relative_distance.ensures ∙ ap (relative_distance c.args.distances) c.distance.ensures)

pub float_to_float-relative_volume : goal.float_to_float-relative_volume
unfolding relative_volume of_bits of_int
float_to_float-relative_volume c = relative_volume_widens c.args.listener c.args.position c.args.distances c.requires.positions_in_range.0 c.requires.positions_in_range.1 c.requires.distances_in_range c.f64_to_f32-relative_volume.result (c.f64_to_f32-relative_volume.ensures ∙ ap narrowed (c.apply.ensures ∙ ap (λ (relative : Float). easing_apply Linear (sub binary32 (whole 1) relative)) (c.relative_distance-relative_distance.ensures ∙ ap (relative_distance c.args.distances) c.distance.ensures)))

pub returns : goal.returns
unfolding attenuation neg of_bits of_int relative_volume
returns c = c.interpolate.ensures ∙ ap (interpolated (record { 0 = silence }) (record { 0 = whole 0 })) (c.f64_to_f32-relative_volume.ensures ∙ ap narrowed (c.apply.ensures ∙ ap (λ (relative : Float). easing_apply Linear (sub binary32 (whole 1) relative)) (c.relative_distance-relative_distance.ensures ∙ ap (relative_distance c.args.distances) c.distance.ensures)))
