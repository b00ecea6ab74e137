-- What a placing makes of a buffer's frames, by its variant, and with volume times fade behind it. Assumes nothing.
use mathlib.Core.Path.{◌≡◌, refl, sym, ap, ◌∙◌}
use mathlib.Core.List.{List}
use Prim.Native.Nat.{ℕ, ◌*◌, ◌≤◌}
use native.Mathlib.Nat.{le_refl}
use native.Mathlib.Omega.{arith}
use lib.ListN.{length}
use lib.Ieee.{Float}
use Rattle.decibels.specs.declared.decibels.Amplitude.{Amplitude}
use Rattle.decibels.specs.declared.decibels.Decibels.{Decibels}
use Rattle.decibels.specs.Decibels.{amplitude}
use Rattle.spatial.specs.declared.placing.Placing.TheVariants.{Plain, Unheard, Spatial}
use Rattle.spatial.specs.Spatial.{factor}
use Rattle.chunk.specs.declared.chunk.ChunkTrack.{ChunkTrack}
use Rattle.frame.specs.Frame.{cleared, scaled_by}
use Rattle.frame.specs.Layout.{scratch, with_frames}
use Rattle.frame.proofs.laws.Places.{scratch_apart}
use Rattle.frame.proofs.laws.Layout.{first_held, first_twice}
use Rattle.track_volume.specs.TrackVolume.{placed, track_placed, track_scaled, track_placed_scaled}

module _ (n : ℕ) (l : List Float) where
  pub placed_plain : l ≡ with_frames (scratch 0 n) (track_placed Plain) l
  unfolding track_placed placed
  placed_plain = sym (first_held (scratch 0 n) (track_placed Plain) n l (λ k p. refl))

  pub placed_unheard : with_frames (scratch 0 n) cleared l ≡ with_frames (scratch 0 n) (track_placed Unheard) l
  unfolding track_placed placed
  placed_unheard = refl

  pub placed_spatial : (level : Decibels) {a : Amplitude} → a.0 ≡ amplitude level.0 → with_frames (scratch 0 n) (scaled_by a) l ≡ with_frames (scratch 0 n) (track_placed (Spatial level)) l
  unfolding track_placed placed factor scaled_by
  placed_spatial level e = ap (λ (x : Float). with_frames (scratch 0 n) (scaled_by (record { 0 = x })) l) e

  -- a spatial track's level first, and then the volume
  pub level_scaled : (t : ChunkTrack) (level : Decibels) (a : Amplitude) {m last : List Float} → a.0 ≡ amplitude level.0 → m ≡ with_frames (scratch 0 n) (scaled_by a) l → last ≡ with_frames (scratch 0 n) (track_scaled t n) m → last ≡ with_frames (scratch 0 n) (track_scaled t n) (with_frames (scratch 0 n) (track_placed (Spatial level)) l)
  level_scaled t level a h e d = d ∙ ap (with_frames (scratch 0 n) (track_scaled t n)) (e ∙ placed_spatial level h)

  -- the placing first, and then the volume
  pub placed_scaled : (t : ChunkTrack) {m last : List Float} → 2 * n ≤ length l → m ≡ with_frames (scratch 0 n) (track_placed t.placing) l → last ≡ with_frames (scratch 0 n) (track_scaled t n) m → last ≡ with_frames (scratch 0 n) (track_placed_scaled t n) l
  unfolding track_placed_scaled
  placed_scaled t w a e =
      let L = scratch 0 n in
      e ∙ ap (with_frames L (track_scaled t n)) a ∙ first_twice L (scratch_apart 0 n) (track_placed t.placing) (track_scaled t n) n l (le_refl n) (omega (arith, w))
