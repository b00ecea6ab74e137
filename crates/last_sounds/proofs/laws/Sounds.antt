-- Two parts added in one pass with what scales each frame: the same as three passes. Assumes nothing.
use mathlib.Core.Path.{◌≡◌, sym, ap, ap₂, ◌∙◌}
use mathlib.Core.List.{List}
use Prim.Native.Nat.{ℕ, ◌*◌, ◌/◌, ◌≤◌, ◌<◌}
use native.Mathlib.Nat.{le_refl, lt_of_lt_of_le}
use native.Mathlib.Omega.{arith}
use lib.ListN.{length}
use lib.Ieee.{Float}
use Rattle.laws.proofs.laws.Choice.{picks_lt}
use Rattle.frame.specs.declared.frame.Frame.{Frame}
use Rattle.frame.specs.Frame.{zero_frame, added, sample_frame}
use Rattle.frame.specs.Layout.{scratch, with_frames}
use Rattle.frame.proofs.laws.Places.{scratch_apart}
use Rattle.frame.proofs.laws.Layout.{Step, first_cong, first_length, first_twice}
use Rattle.sound.specs.Part.{part_frame, added_part}

-- frame i of each part, one and then the other
abbrev pub both_played : List Float → List Float → ℕ → Frame → Frame
both_played first second i a = added (added a (sample_frame first i)) (sample_frame second i)

-- frames that a part has
part_has : (part : List Float) (i : ℕ) → i < length part / 2 → sample_frame part i ≡ part_frame part i
unfolding part_frame
part_has part i h = sym (picks_lt i (length part / 2) (sample_frame part i) zero_frame h)

both_play : (first second : List Float) (i : ℕ) (a : Frame) → i < length first / 2 → i < length second / 2 → both_played first second i a ≡ added_part second i (added_part first i a)
unfolding added_part
both_play first second i a p q = ap₂ added (ap (added a) (part_has first i p)) (part_has second i q)

module _ (first second : List Float) (n : ℕ) (l : List Float) where
  -- three passes
  abbrev pub after_both : List Float
  after_both = with_frames (scratch 0 n) (added_part second) (with_frames (scratch 0 n) (added_part first) l)

  pub both_length : length after_both ≡ length l
  both_length = first_length (scratch 0 n) (added_part second) n (with_frames (scratch 0 n) (added_part first) l) ∙ first_length (scratch 0 n) (added_part first) n l

  pub both_then : (f : Step) {last : List Float} → n ≤ length first / 2 → n ≤ length second / 2 → 2 * n ≤ length l → last ≡ with_frames (scratch 0 n) (λ i a. f i (both_played first second i a)) l → last ≡ with_frames (scratch 0 n) f after_both
  both_then f p q w e =
      let L = scratch 0 n in
      let both : Step = λ i a. added_part second i (added_part first i a) in
      e
      ∙ first_cong L (λ i a. f i (both_played first second i a)) (λ i a. f i (both i a)) n l
      (λ k h a. ap (f k) (both_play first second k a (lt_of_lt_of_le h p) (lt_of_lt_of_le h q)))
      ∙ sym (first_twice L (scratch_apart 0 n) both f n l (le_refl n) (omega (arith, w)))
      ∙ ap (with_frames L f) (sym (first_twice L (scratch_apart 0 n) (added_part first) (added_part second) n l (le_refl n) (omega (arith, w))))
