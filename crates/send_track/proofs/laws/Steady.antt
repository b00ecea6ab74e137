-- A level that stands still scales all frames of a chunk by one amplitude, and one that moves scales each by the factor that was made for it. Assumes
-- nothing.
use mathlib.Core.Path.{◌≡◌, sym, ap, ◌∙◌}
use mathlib.Core.Bool.{true}
use mathlib.Core.List.{List}
use Prim.Native.Nat.{ℕ, ◌≤◌}
use lib.ListN.{length}
use lib.Ieee.{Float}
use Rattle.decibels.specs.declared.decibels.Amplitude.{Amplitude}
use Rattle.frame.specs.declared.frame.Frame.{Frame}
use Rattle.chunk.specs.declared.chunk.Level.{Level}
use Rattle.limits.specs.Limits.{chunk_frames_most}
use Rattle.frame.specs.Frame.{zero_frame, added, scaled, scaled_by}
use Rattle.frame.specs.Layout.{scratch, with_frames}
use Rattle.chunk.specs.Chunk.{is_steady, steady_amplitude, with_factors, LevelInRange}
use Rattle.send_track.specs.Send.{send_frame, level_scaled, added_send}
use Rattle.track_volume.proofs.laws.Steady.{factor_of, steady_at, factor_is}
use Rattle.frame.proofs.laws.Layout.{first_cong}

-- ---- the steps of the loops

-- a send track's frames, by one factor
abbrev pub sent : (ℕ → Frame) → Amplitude → ℕ → Frame → Frame
sent input factor i a = added a (scaled (added zero_frame (input i)) factor)

-- by factors of their own
abbrev pub scaled_each : List Float → ℕ → Frame → Frame
scaled_each factors i a = scaled a (factor_of factors i)

abbrev pub sent_each : (ℕ → Frame) → List Float → ℕ → Frame → Frame
sent_each input factors i a = sent input (factor_of factors i) i a

-- ---- levels that stand still

module _ (n : ℕ) (short : n ≤ chunk_frames_most) where
  pub level_steady : (level : Level) (l : List Float) {factor : Amplitude} → is_steady level ≡ true → LevelInRange level → factor ≡ steady_amplitude level → with_frames (scratch 0 n) (scaled_by factor) l ≡ with_frames (scratch 0 n) (level_scaled level n) l
  unfolding scaled_by level_scaled
  level_steady level l {factor} s h e = first_cong (scratch 0 n) (scaled_by factor) (level_scaled level n) n l (λ k p a. ap (scaled a) (e ∙ sym (steady_at n short level k s h p)))

  pub send_steady : (level : Level) (input : ℕ → Frame) (l : List Float) {factor : Amplitude} → is_steady level ≡ true → LevelInRange level → factor ≡ steady_amplitude level → with_frames (scratch 0 n) (sent input factor) l ≡ with_frames (scratch 0 n) (added_send level n input) l
  unfolding added_send send_frame
  send_steady level input l {factor} s h e = first_cong (scratch 0 n) (sent input factor) (added_send level n input) n l
      (λ k p a. ap (λ (x : Amplitude). added a (scaled (added zero_frame (input k)) x)) (e ∙ sym (steady_at n short level k s h p)))

  -- ---- levels that move: `empty` is what the factors' array held before they were set

  pub level_each : (level : Level) (l empty : List Float) {factors : List Float} → length empty ≡ chunk_frames_most → factors ≡ with_factors level n empty → with_frames (scratch 0 n) (scaled_each factors) l ≡ with_frames (scratch 0 n) (level_scaled level n) l
  unfolding level_scaled
  level_each level l empty {factors} w e = first_cong (scratch 0 n) (scaled_each factors) (level_scaled level n) n l (λ k p a. ap (scaled a) (factor_is n short level empty k w e p))

  pub send_each : (level : Level) (input : ℕ → Frame) (l empty : List Float) {factors : List Float} → length empty ≡ chunk_frames_most → factors ≡ with_factors level n empty → with_frames (scratch 0 n) (sent_each input factors) l ≡ with_frames (scratch 0 n) (added_send level n input) l
  unfolding added_send send_frame
  send_each level input l empty {factors} w e = first_cong (scratch 0 n) (sent_each input factors) (added_send level n input) n l
      (λ k p a. ap (λ (x : Amplitude). added a (scaled (added zero_frame (input k)) x)) (factor_is n short level empty k w e p))
