-- `tweenable::interpolate` meets its contract. Assumes nothing.
use mathlib.Core.Path.{ap}
use lib.Ieee.{Float, binary32}
use Rattle.laws.specs.Interpolate.{interpolate}
use Rattle.decibels.specs.declared.decibels.Decibels.{Decibels}
use Rattle.tween.specs.Tweenable.{interpolated}
use Rattle.tween.proofs.tween.tweenable.interpolate.Goals as goal

-- decibels between two values
at : Decibels → Decibels → Float → Decibels
at a b t = record { 0 = interpolate binary32 a.0 b.0 t }

pub returns : goal.returns
unfolding interpolated interpolate at
returns c = ap (at c.args.a c.args.b) c.f64_to_f32.ensures
