-- The ranges of decibels that interpolation keeps to, for amounts that are rounded to f32. Assumes nothing.
use mathlib.Core.Path.{refl}
use lib.Ieee.{Float, binary32, binary64}
use Rattle.laws.proofs.laws.Amount.{InUnit, narrowed_amount}
use Rattle.laws.specs.DecibelRange.{TargetRange, ValueRange}
use Rattle.laws.proofs.laws.DecibelRange.{ReadRange, SilentRange, value_moves, value_read, silent_stays}
use Rattle.rounding.specs.Narrow.{narrowed}
use Rattle.decibels.specs.declared.decibels.Decibels.{Decibels}
use Rattle.tween.specs.Tweenable.{interpolated}

pub narrow_amount : (t : Float) → InUnit binary64 t → InUnit binary32 (narrowed t)
unfolding narrowed
narrow_amount t h = narrowed_amount binary64 binary32 narrowed (λ s m e. refl) t h

module _ (a b : Decibels) (t : Float) (A : InUnit binary64 t) where
  pub interpolated_moves : ValueRange a.0 → TargetRange b.0 → ValueRange (interpolated a b t).0
  unfolding interpolated
  interpolated_moves h k = value_moves a.0 b.0 (narrowed t) (narrow_amount t A) h k

  pub interpolated_read : ValueRange a.0 → ValueRange b.0 → ReadRange (interpolated a b t).0
  unfolding interpolated
  interpolated_read h k = value_read a.0 b.0 (narrowed t) (narrow_amount t A) h k

  pub interpolated_silent : SilentRange a.0 → SilentRange b.0 → SilentRange (interpolated a b t).0
  unfolding interpolated
  interpolated_silent h k = silent_stays a.0 b.0 (narrowed t) (narrow_amount t A) h k
