-- What a parameter keeps to: the ranges of its values and of their targets.
use Rattle.std.specs.Prelude.{◌<◌, ◌^◌, Float}
use Rattle.laws.specs.DecibelRange.{TargetRange, ValueRange}
use Rattle.tween.specs.declared.tween.Tween.{Tween}
use Rattle.tween.specs.TimeWithin.{TimeWithin}
use Rattle.parameter.specs.declared.parameter.ParameterState.{ParameterState}
use Rattle.parameter.specs.declared.parameter.ParameterState.TheVariants.{Idle, Tweening}
use Rattle.parameter.specs.declared.parameter.Parameter.{Parameter}

-- what values and their targets keep to
pub record Range : Type 1 where
  pub Value : Float → Type 0
  pub Target : Float → Type 0

-- values from -97 to 19 dB on their way to targets from -96 to 18
abbrev pub value_range : Range
value_range = record { Value = ValueRange; Target = TargetRange }

-- durations that are exact in seconds and milliseconds
abbrev pub Short : Tween → Type 0
Short tween = tween.duration < 2 ^ 53

abbrev pub StateIn : Range → ParameterState → Type 0
StateIn R (Idle value) = R.Value value.0
StateIn R (Tweening start target time tween) = R.Value start.0 × R.Target target.0 × TimeWithin time tween.duration × Short tween

-- a parameter stays within a range
pub record ParameterIn (R : Range) (p : Parameter) : Type 0 where
  pub value : R.Value p.raw_value.0
  pub previous : R.Value p.previous_raw_value.0
  pub state : StateIn R p.state
