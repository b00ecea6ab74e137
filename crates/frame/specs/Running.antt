-- Running sums: what a sum that starts at +0.0 keeps to.
use Rattle.std.specs.Prelude.{◌≡◌, ◌≢◌, List, ℕ, ◌<◌, T, Float}
use Rattle.std.specs.Float.{binary32}
use Rattle.std.specs.Float.Ieee.{fits}
use Rattle.laws.specs.Float.{neg_zero}
use Rattle.frame.specs.declared.frame.Frame.{Frame}
use Rattle.frame.specs.Frame.{zero_frame}
use Rattle.frame.specs.Layout.{scratch, frame_at}

-- ---- both sides of a frame

pub record Both (P : Float → Type 0) (a : Frame) : Type 0 where
  pub left : P a.left
  pub right : P a.right

-- what a sum that starts at +0.0 stays
abbrev pub Running : Float → Type 0
Running x = T (fits binary32 x) × (x ≢ neg_zero)

-- all n frames of a buffer are running sums
abbrev pub AllRunning : ℕ → List Float → Type 0
AllRunning n l = (i : ℕ) → i < n → Both Running (frame_at (scratch 0 n) l i)

-- all n frames of a buffer are zeros
abbrev pub AllZero : ℕ → List Float → Type 0
AllZero n l = (i : ℕ) → i < n → frame_at (scratch 0 n) l i ≡ zero_frame
