-- Volume times fade: what stands still scales all frames of a chunk by one amplitude, and what moves scales each by the factor that was made for it.
-- Assumes nothing.
use mathlib.Core.Path.{◌≡◌, refl, sym, ap, ap₂, ◌∙◌}
use mathlib.Core.Bool.{true}
use mathlib.Core.List.{List}
use Prim.Native.Nat.{ℕ, ◌≤◌, ◌<◌}
use native.Mathlib.Omega.{arith}
use lib.ListN.{length, get_or}
use lib.Ieee.{Float, nan, binary32, mul}
use Rattle.decibels.specs.declared.decibels.Amplitude.{Amplitude}
use Rattle.frame.specs.declared.frame.Frame.{Frame}
use Rattle.chunk.specs.declared.chunk.Level.{Level}
use Rattle.chunk.specs.declared.chunk.ChunkTrack.{ChunkTrack}
use Rattle.limits.specs.Limits.{chunk_frames_most}
use Rattle.frame.specs.Frame.{scaled, scaled_by}
use Rattle.frame.specs.Layout.{scratch, with_frames}
use Rattle.chunk.specs.Chunk.{amount_at, level_amplitude, track_amplitude, is_steady, steady_amplitude, with_factors, LevelInRange}
use Rattle.track_volume.specs.TrackVolume.{track_scaled}
use Rattle.chunk.proofs.laws.Chunk.{amount_is, factor_at, steady}
use Rattle.frame.proofs.laws.Layout.{first_cong}

-- the product of two amplitudes
abbrev pub product : Amplitude → Amplitude → Amplitude
product x y = record { 0 = mul binary32 x.0 y.0 }

-- ---- the steps of the loops

-- the factor of frame i in an array
abbrev pub factor_of : List Float → ℕ → Amplitude
factor_of factors i = record { 0 = get_or factors i nan }

-- by factors of their own, and by one more
abbrev pub scaled_each_by : List Float → Amplitude → ℕ → Frame → Frame
scaled_each_by factors by i a = scaled a (product (factor_of factors i) by)

-- by two of their own
abbrev pub scaled_twice : List Float → List Float → ℕ → Frame → Frame
scaled_twice factors others i a = scaled a (product (factor_of factors i) (factor_of others i))

-- by the amplitudes of volume and fade
abbrev pub scaled_along : Level → Level → ℕ → ℕ → Frame → Frame
scaled_along volume fade n i a = scaled a (product (level_amplitude volume (amount_at i n)) (level_amplitude fade (amount_at i n)))

pub along_track : (t : ChunkTrack) (n : ℕ) (l : List Float) → with_frames (scratch 0 n) (scaled_along t.volume t.fade n) l ≡ with_frames (scratch 0 n) (track_scaled t n) l
unfolding track_scaled track_amplitude
along_track t n l = refl

-- ---- levels that stand still

module _ (n : ℕ) (short : n ≤ chunk_frames_most) where
  -- at frame i
  pub steady_at : (level : Level) (i : ℕ) → is_steady level ≡ true → LevelInRange level → i < n → level_amplitude level (amount_at i n) ≡ steady_amplitude level
  steady_at level i s h p = steady level (amount_at i n) s h (amount_is i n p short)

  pub track_steady : (t : ChunkTrack) (l : List Float) {x y : Amplitude} → is_steady t.volume ≡ true → is_steady t.fade ≡ true → LevelInRange t.volume → LevelInRange t.fade → x ≡ steady_amplitude t.volume → y ≡ steady_amplitude t.fade → with_frames (scratch 0 n) (scaled_by (product x y)) l ≡ with_frames (scratch 0 n) (track_scaled t n) l
  unfolding scaled_by track_scaled track_amplitude
  track_steady t l {x} {y} s r h k e d = first_cong (scratch 0 n) (scaled_by (product x y)) (track_scaled t n) n l
      (λ i p a. ap (scaled a) (ap₂ product (e ∙ sym (steady_at t.volume i s h p)) (d ∙ sym (steady_at t.fade i r k p))))

  -- ---- levels that move: `empty` is what the factors' array held before they were set

  pub factor_is : (level : Level) (empty : List Float) (i : ℕ) {factors : List Float} → length empty ≡ chunk_frames_most → factors ≡ with_factors level n empty → i < n → factor_of factors i ≡ level_amplitude level (amount_at i n)
  factor_is level empty i w e p = ap (λ (x : Float). record { 0 = x }) (factor_at level n i empty p (omega arith) e)

  -- a moving volume with a fade that stands still
  pub volume_each : (t : ChunkTrack) (l empty : List Float) {factors : List Float} {y : Amplitude} → is_steady t.fade ≡ true → LevelInRange t.fade → y ≡ steady_amplitude t.fade → length empty ≡ chunk_frames_most → factors ≡ with_factors t.volume n empty → with_frames (scratch 0 n) (scaled_each_by factors y) l ≡ with_frames (scratch 0 n) (track_scaled t n) l
  unfolding track_scaled track_amplitude
  volume_each t l empty {factors} {y} s h d w e = first_cong (scratch 0 n) (scaled_each_by factors y) (track_scaled t n) n l
      (λ i p a. ap (scaled a) (ap₂ product (factor_is t.volume empty i w e p) (d ∙ sym (steady_at t.fade i s h p))))

  -- both move
  pub track_each : (t : ChunkTrack) (l empty : List Float) {volumes fades : List Float} → length empty ≡ chunk_frames_most → volumes ≡ with_factors t.volume n empty → fades ≡ with_factors t.fade n empty → with_frames (scratch 0 n) (scaled_twice volumes fades) l ≡ with_frames (scratch 0 n) (track_scaled t n) l
  unfolding track_scaled track_amplitude
  track_each t l empty {volumes} {fades} w e d = first_cong (scratch 0 n) (scaled_twice volumes fades) (track_scaled t n) n l
      (λ i p a. ap (scaled a) (ap₂ product (factor_is t.volume empty i w e p) (factor_is t.fade empty i w d p)))
