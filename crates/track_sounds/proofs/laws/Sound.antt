-- What a sound adds is what its part of the sample buffer adds. Then a loop that follows the links of a track's sounds: `SoundsLeft` is its invariant.
-- Assumes nothing.
use mathlib.Core.Path.{◌≡◌, sym, ap, ◌∙◌}
use mathlib.Core.Logic.{inl, inr}
use mathlib.Core.Bool.{cond}
use mathlib.Core.List.{List}
use Prim.Native.Nat.{ℕ, ◌+◌, ◌-◌, ◌*◌, ◌≤◌, ◌<◌}
use native.Mathlib.Omega.{arith}
use lib.Dec.{eqb, ltb}
use lib.ListN.{length}
use lib.Ieee.{Float}
use Rattle.recordings.specs.Recordings.{Recordings, recording}
use Rattle.limits.specs.Limits.{track_places}
use Rattle.laws.proofs.laws.Choice.{picks_lt, leaves_lt}
use Rattle.laws.proofs.laws.FloatRound.{below_or_not}
use Rattle.frame.specs.Frame.{zero_frame, added, sample_frame}
use Rattle.frame.specs.Layout.{scratch, with_frames}
use Rattle.frame.proofs.laws.Places.{scratch_apart}
use Rattle.frame.proofs.laws.Layout.{Step, first_cong}
use Rattle.frame.proofs.laws.Turn.{frames_steps, step_picked, step_left}
use Rattle.chunk.specs.declared.chunk.Chunk.{Chunk}
use Rattle.chunk.specs.declared.chunk.ChunkSound.{ChunkSound}
use Rattle.chunk.specs.Chunk.{ChunkOk, sound_row}
use Rattle.links.specs.Links.{last_line, line_before}
use Rattle.links.specs.Walk.{Earlier}
use Rattle.links.proofs.laws.Walk.{earlier}
use Rattle.sound.specs.Part.{remaining_part, part_frame, added_part}
use Rattle.sound.proofs.laws.Part.{part_frames, part_at}
use Rattle.track_sounds.specs.Owners.{sound_links}
use Rattle.track_sounds.specs.Sound.{sound_frame, added_sound, with_sounds}
use Rattle.track_sounds.proofs.laws.Owners.{Follows, Skips, follow_start, follow_less, follow_turn, follow_done}

module _ (samples : Recordings) (s : ChunkSound) (held : 2 * (s.start + s.left) ≤ length (recording samples s.from)) where
  part_plays_sound : (i : ℕ) → part_frame (remaining_part samples s) i ≡ sound_frame samples s i
  unfolding part_frame sound_frame
  part_plays_sound i =
      let part = remaining_part samples s in
      let there = sample_frame (recording samples s.from) (s.start + i) in
      ap (λ (n : ℕ). cond (ltb i n) (sample_frame part i) zero_frame) (part_frames samples s held)
      ∙ elim (below_or_not i s.left) [
        | inl b ↦ picks_lt i s.left (sample_frame part i) zero_frame b ∙ part_at samples s held i b ∙ sym (picks_lt i s.left there zero_frame b)
        | inr b ↦ leaves_lt i s.left (sample_frame part i) zero_frame b ∙ sym (leaves_lt i s.left there zero_frame b)
      ]

  pub sound_added : (n : ℕ) (l : List Float) {part last : List Float} → part ≡ remaining_part samples s → last ≡ with_frames (scratch 0 n) (added_part part) l → last ≡ with_frames (scratch 0 n) (added_sound samples s) l
  unfolding added_part added_sound
  sound_added n l {part} is e =
      e
      ∙ first_cong (scratch 0 n) (added_part part) (added_sound samples s) n l
      (λ k p a. ap (λ (r : List Float). added a (part_frame r k)) is ∙ ap (added a) (part_plays_sound k))

-- ---- the sounds of a track

-- sound k's turn, and its track
abbrev sound_step : Chunk → Recordings → ℕ → ℕ → Step
sound_step c samples line k i a = cond (eqb (sound_row c k).track line) (added_sound samples (sound_row c k) i a) a

abbrev sound_owner : Chunk → ℕ → ℕ
sound_owner c k = (sound_row c k).track

-- the sounds from line k on are still to be added
abbrev pub SoundsLeft : Chunk → Recordings → ℕ → List Float → List Float → ℕ → Type 0
SoundsLeft c samples line begun now k = Follows (with_frames (scratch 0 c.frames)) (sound_step c samples line) c.sound_count (sound_owner c) line begun now k

module _ (c : Chunk) (samples : Recordings) (ok : ChunkOk c samples) (line : ℕ) (begun : List Float) {links : List ℕ} (few : line ≤ track_places) (linked : links ≡ sound_links c) where
  sounds_skip : (x : List Float) → Skips (with_frames (scratch 0 c.frames)) (sound_step c samples line) c.sound_count (sound_owner c) line begun x
  sounds_skip x k b d = step_left (with_frames (scratch 0 c.frames)) (sound_row c k).track line (added_sound samples (sound_row c k)) x (frames_steps (scratch 0 c.frames) (scratch_apart 0 c.frames)) d

  pub sounds_begin : {k : ℕ} → k ≡ last_line links line → SoundsLeft c samples line begun begun k
  unfolding sound_links
  sounds_begin at = follow_start (with_frames (scratch 0 c.frames)) (sound_step c samples line) c.sound_count (sound_owner c) line begun (sounds_skip begun) few linked at

  pub sounds_earlier : Earlier links
  unfolding sound_links
  sounds_earlier = earlier (sound_owner c) c.sound_count ok.sounds linked

  pub sounds_less : (k : ℕ) (now : List Float) {next : ℕ} → next ≡ line_before links k → 0 < k → SoundsLeft c samples line begun now k → next < k
  unfolding sound_links
  sounds_less k now at h f = follow_less (with_frames (scratch 0 c.frames)) (sound_step c samples line) c.sound_count (sound_owner c) line begun k now ok.sounds few linked at h f

  pub sounds_turn : (k : ℕ) (now : List Float) {next : ℕ} {part last : List Float} → next ≡ line_before links k → 0 < k → SoundsLeft c samples line begun now k → part ≡ remaining_part samples (sound_row c (k - 1)) → last ≡ with_frames (scratch 0 c.frames) (added_part part) now → SoundsLeft c samples line begun last next
  unfolding sound_links
  sounds_turn k now at h f is made =
      let sound = sound_row c (k - 1) in
      let held = ok.held (k - 1) (omega (arith, h, f.few)) in
      follow_turn (with_frames (scratch 0 c.frames)) (sound_step c samples line) c.sound_count (sound_owner c) line begun k now (sounds_skip _) ok.sounds few linked at h f
      (sound_added samples sound held c.frames now is made
      ∙ sym (step_picked (with_frames (scratch 0 c.frames)) sound.track line (added_sound samples sound) now (f.own h)))

  pub sounds_end : {k : ℕ} {now : List Float} → 2 * c.frames ≤ length begun → k ≡ 0 → SoundsLeft c samples line begun now k → now ≡ with_frames (scratch 0 c.frames) (with_sounds c samples line) begun
  unfolding with_sounds
  sounds_end long none f = follow_done (with_frames (scratch 0 c.frames)) (sound_step c samples line) c.sound_count (sound_owner c) line begun (frames_steps (scratch 0 c.frames) (scratch_apart 0 c.frames)) (omega (arith, long)) none f
