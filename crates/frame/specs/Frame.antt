-- frame.rs: frames by value, and steps on them.
use Rattle.std.specs.Prelude.{cond, List, ℕ, ◌+◌, ◌*◌, leb, pos, get_or, Float}
use Rattle.std.specs.Float.{nan, binary32}
use Rattle.std.specs.Float.Ieee.{add, mul, lt, neg, of_int}
use Rattle.decibels.specs.declared.decibels.Amplitude.{Amplitude}
use Rattle.frame.specs.declared.frame.Frame.{Frame}

-- 0.0 and 1.0
abbrev pub zero_sample : Float
zero_sample = of_int binary32 (pos 0)

abbrev pub full_scale : Float
full_scale = of_int binary32 (pos 1)

abbrev pub zero_frame : Frame
zero_frame = record { left = zero_sample; right = zero_sample }

unfoldable pub added : Frame → Frame → Frame
added a b = record { left = add binary32 a.left b.left; right = add binary32 a.right b.right }

unfoldable pub scaled : Frame → Amplitude → Frame
scaled a k = record { left = mul binary32 a.left k.0; right = mul binary32 a.right k.0 }

-- held to -1.0..1.0 (`f32::clamp`)
unfoldable pub clamp : Float → Float
clamp x = cond (lt x (neg full_scale)) (neg full_scale) (cond (lt full_scale x) full_scale x)

unfoldable pub clamped : Frame → Frame
clamped a = record { left = clamp a.left; right = clamp a.right }

-- frame k of a sample buffer: left and right in turn
unfoldable pub sample_frame : List Float → ℕ → Frame
sample_frame samples k = record { left = get_or samples (2 * k) nan; right = get_or samples (2 * k + 1) nan }

-- ---- steps on a frame by its number

abbrev pub cleared : ℕ → Frame → Frame
cleared i a = zero_frame

-- other frames are added, or are added scaled
unfoldable pub added_from : (ℕ → Frame) → ℕ → Frame → Frame
added_from from i a = added a (from i)

unfoldable pub added_scaled : (ℕ → Frame) → Amplitude → ℕ → Frame → Frame
added_scaled from factor i a = added a (scaled (from i) factor)

-- scaled by one factor
unfoldable pub scaled_by : Amplitude → ℕ → Frame → Frame
scaled_by factor i a = scaled a factor

-- a step on the frames from `first` on; those before it stay
unfoldable pub from_frame : ℕ → (ℕ → Frame → Frame) → ℕ → Frame → Frame
from_frame first f i a = cond (leb first i) (f i a) a
