-- What is left of a sound: how many frames the part has, and which. Then a part's frames in two loops: those that it has, then zeros. Assumes nothing.
use mathlib.Core.Path.{◌≡◌, sym, ap, ◌∙◌}
use mathlib.Core.List.{List}
use Prim.Native.Nat.{ℕ, ◌+◌, ◌-◌, ◌*◌, ◌/◌, ◌≤◌, ◌<◌}
use native.Mathlib.Nat.{lt_of_lt_of_le}
use native.Mathlib.Omega.{arith}
use lib.ListN.{length, drop, get_or, length-drop}
use lib.Seq.{length-take-le, get_or-take, get_or-drop}
use lib.Ieee.{Float, nan}
use Rattle.recordings.specs.Recordings.{Recordings, recording}
use Rattle.frame.specs.declared.frame.Frame.{Frame}
use Rattle.chunk.specs.declared.chunk.ChunkSound.{ChunkSound}
use Rattle.frame.specs.Frame.{zero_frame, added, sample_frame, from_frame}
use Rattle.frame.specs.Layout.{scratch, with_first, with_frames}
use Rattle.frame.proofs.laws.Places.{scratch_apart}
use Rattle.frame.proofs.laws.Layout.{first_cong, first_rest}
use Rattle.laws.proofs.laws.Choice.{picks_lt, leaves_lt}
use Rattle.sound.specs.Part.{remaining_part, part_frame, added_part, added_zero}

half : (n : ℕ) → 2 * n / 2 ≡ n
half n = omega arith

module _ (samples : Recordings) (s : ChunkSound) (held : 2 * (s.start + s.left) ≤ length (recording samples s.from)) where
  -- the buffer that it is from
  abbrev own : List Float
  own = recording samples s.from

  abbrev first : ℕ
  first = 2 * s.start

  abbrev count : ℕ
  count = 2 * (s.start + s.left) - first

  part_length : length (remaining_part samples s) ≡ 2 * s.left
  part_length = length-take-le count (drop first own) (omega (arith, length-drop first own)) ∙ omega arith

  -- the part has the sound's frames
  pub part_frames : length (remaining_part samples s) / 2 ≡ s.left
  part_frames = ap (λ (n : ℕ). n / 2) part_length ∙ half s.left

  part_side : (j : ℕ) → j < 2 * s.left → get_or (remaining_part samples s) j nan ≡ get_or own (first + j) nan
  part_side j h = get_or-take count (drop first own) j nan (omega arith) ∙ get_or-drop first own j nan

  pub part_at : (i : ℕ) → i < s.left → sample_frame (remaining_part samples s) i ≡ sample_frame own (s.start + i)
  unfolding sample_frame
  part_at i h =
      let l : get_or (remaining_part samples s) (2 * i) nan ≡ get_or own (2 * (s.start + i)) nan =
      part_side (2 * i) (omega arith) ∙ ap (λ (k : ℕ). get_or own k nan) (omega arith) in
      let r : get_or (remaining_part samples s) (2 * i + 1) nan ≡ get_or own (2 * (s.start + i) + 1) nan =
      part_side (2 * i + 1) (omega arith) ∙ ap (λ (k : ℕ). get_or own k nan) (omega arith) in
      cc

-- frames of a part added in turn
abbrev pub played : List Float → ℕ → Frame → Frame
played part i a = added a (sample_frame part i)

module _ (part : List Float) (n : ℕ) where
  pub part_plays : (m : ℕ) (l : List Float) → m ≤ length part / 2 → with_first (scratch 0 n) (played part) m l ≡ with_first (scratch 0 n) (added_part part) m l
  unfolding added_part part_frame
  part_plays m l h =
      first_cong (scratch 0 n) (played part) (added_part part) m l
      (λ k p a. ap (added a) (sym (picks_lt k (length part / 2) (sample_frame part k) zero_frame (lt_of_lt_of_le p h))))

  part_silent : (i : ℕ) (a : Frame) → length part / 2 ≤ i → added_zero i a ≡ added_part part i a
  unfolding added_part part_frame
  part_silent i a h = ap (added a) (sym (leaves_lt i (length part / 2) (sample_frame part i) zero_frame h))

  pub part_ends : (l : List Float) {heard last : List Float} → 2 * n ≤ length l → length part / 2 ≤ n → heard ≡ with_first (scratch 0 n) (added_part part) (length part / 2) l → last ≡ with_frames (scratch 0 n) (from_frame (length part / 2) added_zero) heard → last ≡ with_frames (scratch 0 n) (added_part part) l
  part_ends l w h p e =
      e
      ∙ ap (with_frames (scratch 0 n) (from_frame (length part / 2) added_zero)) p
      ∙ first_rest (scratch 0 n) (scratch_apart 0 n) (added_part part) added_zero (length part / 2) l h (omega (arith, w)) (λ k q _ a. part_silent k a q)
