-- Running sums. A sum that starts at +0.0 is never -0.0, so that adding zeros leaves it as it is: a track that stands still need not be added.
-- Assumes nothing.
use mathlib.Core.Path.{◌≡◌, refl, sym, ap, ap₂, ◌∙◌, subst}
use mathlib.Core.Bool.{Bool, true, false, cond}
use mathlib.Core.List.{List}
use Prim.Native.Nat.{ℕ, zero, suc, ◌-◌, ◌*◌, ◌≤◌, ◌<◌}
use native.Mathlib.Nat.{le_refl}
use native.Mathlib.Omega.{arith}
use lib.Dec.{T}
use lib.ListN.{length, replicate}
use lib.Ieee.{Float, binary32, add, fits, of_int}
use lib.Ieee.Fits.{add-fits, mul-fits}
use Rattle.recordings.specs.Recordings.{Recordings}
use Rattle.decibels.specs.declared.decibels.Amplitude.{Amplitude}
use Rattle.laws.specs.Float.{pos_zero}
use Rattle.laws.proofs.laws.Float.{Zero, positive_zero}
use Rattle.laws.proofs.laws.FloatZero.{absorb, never_neg_zero, pos_zero_not_neg, pos_zero-fits}
use Rattle.frame.specs.declared.frame.Frame.{Frame}
use Rattle.chunk.specs.declared.chunk.Chunk.{Chunk}
use Rattle.frame.specs.Frame.{zero_frame, added, scaled, added_from, cleared, zero_sample}
use Rattle.frame.specs.Layout.{scratch, frame_at, with_frames}
use Rattle.chunk.specs.Chunk.{amount_at, track_amplitude, track_row}
use Rattle.track.specs.Sub.{placed, track_frame, track_sum}
use Rattle.frame.proofs.laws.Places.{scratch_apart}
use Rattle.frame.proofs.laws.Layout.{first_at, silent_at}
use Rattle.frame.specs.Running.{Both, Running, AllRunning, AllZero}

abbrev pub Fits : Float → Type 0
Fits x = T (fits binary32 x)

module _ {P Q : Float → Type 0} {a b : Frame} where
  pub both_added : (R : Float → Type 0) → ((x y : Float) → P x → Q y → R (add binary32 x y)) → Both P a → Both Q b → Both R (added a b)
  unfolding added
  both_added R h p q = record { left = h a.left b.left p.left q.left; right = h a.right b.right p.right q.right }

-- what holds of +0.0 holds of the frame of zeros
none_is : zero_sample ≡ pos_zero
unfolding of_int
none_is = refl

pub both_zero : (P : Float → Type 0) → P pos_zero → Both P zero_frame
both_zero P p = record { left = subst P (sym none_is) p; right = subst P (sym none_is) p }

pub zeros : Both Zero zero_frame
zeros = both_zero Zero positive_zero

pub running_zero : Both Running zero_frame
running_zero = both_zero Running (pos_zero-fits binary32, pos_zero_not_neg)

pub scaled_fits : (a : Frame) (k : Amplitude) → Both Fits (scaled a k)
unfolding scaled
scaled_fits a k = record { left = mul-fits binary32 a.left k.0; right = mul-fits binary32 a.right k.0 }

pub picked_if : (P : Frame → Type 0) (b : Bool) (x y : Frame) → (T b → P x) → P y → P (cond b x y)
picked_if P true x y p q = p tt
picked_if P false x y p q = q

-- ---- sums

side : Float → Float → Frame
side l r = record { left = l; right = r }

pub absorbed : {x t : Frame} → Both Running x → Both Zero t → added x t ≡ x
unfolding added side
absorbed {x} {t} r z = ap₂ side (absorb binary32 x.left r.left.0 r.left.1 z.left) (absorb binary32 x.right r.right.0 r.right.1 z.right)

pub running_added : {x t : Frame} → Both Running x → Both Fits t → Both Running (added x t)
running_added r f = both_added Running (λ x y p q. (add-fits binary32 x y, never_neg_zero binary32 x y p.0 q p.1)) r f

-- a track's frame fits f32: it is scaled, or zeros
pub track_fits : (d : ℕ) (c : Chunk) (samples : Recordings) (line i : ℕ) → Both Fits (track_frame d c samples line i)
unfolding track_frame
track_fits zero c samples line i = both_zero Fits (pos_zero-fits binary32)
track_fits (suc d) c samples line i =
    let track = track_row c (line - 1) in
    let sum : Frame = placed track.placing (track_sum d c samples line i) in
    let factor : Amplitude = track_amplitude track (amount_at i c.frames) in
    picked_if (Both Fits) track.advancing (scaled sum factor) zero_frame (λ t. scaled_fits sum factor) (both_zero Fits (pos_zero-fits binary32))

-- ---- buffers

pub zero_silent : (m n : ℕ) → 2 * n ≤ m → AllZero n (replicate m zero_sample)
zero_silent m n h i p = silent_at (scratch 0 n) (scratch_apart 0 n) m i p (omega arith)

pub running_silent : (n : ℕ) (l : List Float) → AllZero n l → AllRunning n l
running_silent n l z i p = subst (Both Running) (sym (z i p)) running_zero

module _ (n : ℕ) (l : List Float) {last : List Float} (long : 2 * n ≤ length l) where
  after : (f : ℕ → Frame → Frame) (i : ℕ) → i < n → last ≡ with_frames (scratch 0 n) f l → frame_at (scratch 0 n) last i ≡ f i (frame_at (scratch 0 n) l i)
  after f i p e = ap (λ (r : List Float). frame_at (scratch 0 n) r i) e ∙ first_at (scratch 0 n) (scratch_apart 0 n) f n l i (le_refl n) (omega (arith, long)) p

  pub running_cleared : last ≡ with_frames (scratch 0 n) cleared l → AllRunning n last
  running_cleared e i p = subst (Both Running) (sym (after cleared i p e)) running_zero

  pub running_track : (d : ℕ) (c : Chunk) (samples : Recordings) (line : ℕ) → AllRunning n l → last ≡ with_frames (scratch 0 n) (added_from (track_frame d c samples line)) l → AllRunning n last
  unfolding added_from
  running_track d c samples line r e i p =
      subst (Both Running) (sym (after (added_from (track_frame d c samples line)) i p e)) (running_added (r i p) (track_fits d c samples line i))
