-- A chunk whose sounds have played n frames more goes on at frame n of the first. Played n and then m frames more is played n + m more. Assumes nothing.
use mathlib.Core.Path.{◌≡◌, refl, sym, ap, ap₂, ◌∙◌}
use mathlib.Core.Logic.{inl, inr}
use mathlib.Core.Bool.{Bool, true, false, cond}
use mathlib.Core.List.{List}
use Prim.Native.Nat.{ℕ, zero, suc, ◌+◌, ◌-◌, ◌≤◌, ◌<◌}
use native.Mathlib.Omega.{arith}
use lib.Dec.{eqb, ltb, eqb→eq}
use lib.ListN.{get_or}
use Rattle.recordings.specs.Recordings.{Recordings, recording}
use Rattle.limits.specs.Limits.{track_depth}
use Rattle.laws.specs.Loop.{downto}
use Rattle.laws.proofs.laws.Choice.{true-T, cond-true, picks_lt, leaves_lt}
use Rattle.laws.proofs.laws.FloatRound.{below_or_not}
use Rattle.laws.proofs.laws.Loop.{downto_cong}
use Rattle.frame.specs.declared.frame.Frame.{Frame}
use Rattle.frame.specs.Frame.{zero_frame, added, scaled, sample_frame}
use Rattle.chunk.specs.declared.chunk.Chunk.{Chunk}
use Rattle.chunk.specs.declared.chunk.ChunkSound.{ChunkSound}
use Rattle.chunk.specs.Chunk.{steady_amplitude, absent_sound_row, track_row, send_row, sound_row}
use Rattle.track_volume.specs.TrackVolume.{placed}
use Rattle.track_sounds.specs.Sound.{sound_frame, added_sound, with_sounds}
use Rattle.track.specs.Sub.{over_sub_tracks, sum_over, with_routes}
use Rattle.still_chunks.proofs.laws.Chunks.{still_track_amplitude, still_track_frame, with_still_track_sends, still_send_input, still_tracks_frame, still_mixed_frame, line_plays, sound_after, Shifted}
use Rattle.still_chunks.proofs.laws.Still.{cond_same, over_cong, frames_cong}

-- ---- the smaller of two: how far a sound that has `left` frames left plays on in n

abbrev pub least : ℕ → ℕ → ℕ
least left n = cond (ltb left n) left n

least_all : (left n : ℕ) → left < n → least left n ≡ left
least_all left n h = picks_lt left n left n h

least_n : (left n : ℕ) → n ≤ left → least left n ≡ n
least_n left n h = leaves_lt left n left n h

-- with what it has left then, all of it
pub least_rest : (left n : ℕ) → least left n + (left - n) ≡ left
least_rest left n = elim (below_or_not left n) [
  | inl h ↦ ap (λ (b : ℕ). b + (left - n)) (least_all left n h) ∙ omega (arith, h)
  | inr h ↦ ap (λ (b : ℕ). b + (left - n)) (least_n left n h) ∙ omega (arith, h)
]

left_then : (b left rest : ℕ) → b + rest ≡ left → left - b ≡ rest
left_then b left rest h = omega arith

least_left : (left n : ℕ) → left - least left n ≡ left - n
least_left left n = left_then (least left n) left (left - n) (least_rest left n)

-- ---- a sound

module _ (samples : Recordings) (s : ChunkSound) (n i : ℕ) where
  abbrev own : ℕ → Frame
  own k = sample_frame (recording samples s.from) k

  pub sound_shifted : sound_frame samples s (n + i) ≡ sound_frame samples (sound_after n s) i
  unfolding sound_frame sound_after
  sound_shifted =
      let by = least s.left n in
      let rest : s.left - by ≡ s.left - n = least_left s.left n in
      let here = own (s.start + (n + i)) in
      let there = own (s.start + by + i) in
      elim (below_or_not (n + i) s.left) [
        | inl b ↦ picks_lt (n + i) s.left here zero_frame b
            ∙ ap own (omega (arith, least_n s.left n (omega (arith, b))))
            ∙ sym (picks_lt i (s.left - by) there zero_frame (omega (arith, b, rest)))
        | inr b ↦ leaves_lt (n + i) s.left here zero_frame b ∙ sym (leaves_lt i (s.left - by) there zero_frame (omega (arith, b, rest)))
      ]

-- ---- chunks that differ in their frames and sounds only

abbrev pub chunk_with : Chunk → ℕ → List ChunkSound → Chunk
chunk_with c frames sounds = record {
  frames = frames;
  track_count = c.track_count;
  tracks = c.tracks;
  send_count = c.send_count;
  sends = c.sends;
  route_count = c.route_count;
  routes = c.routes;
  sound_count = c.sound_count;
  sounds = sounds;
  main = c.main;
}

shifted_is : (n : ℕ) (c d : Chunk) → Shifted n c d → chunk_with d d.frames d.sounds ≡ chunk_with c d.frames d.sounds
shifted_is n c d s = cc (s.track_count, s.tracks, s.send_count, s.sends, s.route_count, s.routes, s.sound_count, s.main)

-- the line of a sound
line_after : (n : ℕ) (b : Bool) (s : ChunkSound) → (cond b (sound_after n s) s).track ≡ s.track
unfolding sound_after
line_after n true s = refl
line_after n false s = refl

-- a track that advances plays
line_plays_lem : (c : Chunk) (line : ℕ) → (track_row c (line - 1)).advancing ≡ true → line_plays c line ≡ true
unfolding line_plays
line_plays_lem c line e = go (eqb line 0)
  where
    go : (b : Bool) → cond b true (track_row c (line - 1)).advancing ≡ true
    go true = refl
    go false = e

-- ---- the frames of a chunk and of the one that goes on at n. `rows` says what Shifted says of the sounds

module _ (n : ℕ) (c : Chunk) (frames : ℕ) (sounds : List ChunkSound) (samples : Recordings) (i : ℕ) (rows : (k : ℕ) → k < c.sound_count → get_or sounds k absent_sound_row ≡ cond (line_plays c (sound_row c k).track) (sound_after n (sound_row c k)) (sound_row c k)) where
  abbrev after : Chunk
  after = chunk_with c frames sounds

  -- sound k where its line plays
  row_plays : (k : ℕ) → k < c.sound_count → line_plays c (sound_row c k).track ≡ true → sound_row after k ≡ sound_after n (sound_row c k)
  row_plays k h e = rows k h ∙ cond-true (line_plays c (sound_row c k).track) (sound_after n (sound_row c k)) (sound_row c k) e

  row_line : (k : ℕ) → k < c.sound_count → (sound_row after k).track ≡ (sound_row c k).track
  row_line k h = ap (λ (s : ChunkSound). s.track) (rows k h) ∙ line_after n (line_plays c (sound_row c k).track) (sound_row c k)

  row_adds : (line k : ℕ) (x : Frame) → line_plays c line ≡ true → k < c.sound_count → (sound_row c k).track ≡ line → added_sound samples (sound_row c k) (n + i) x ≡ added_sound samples (sound_row after k) i x
  unfolding added_sound
  row_adds line k x e h own =
      ap (added x) (sound_shifted samples (sound_row c k) n i ∙ ap (λ (s : ChunkSound). sound_frame samples s i) (sym (row_plays k h (ap (line_plays c) own ∙ e))))

  row_turn : (line k : ℕ) (x : Frame) → line_plays c line ≡ true → k < c.sound_count → cond (eqb (sound_row c k).track line) (added_sound samples (sound_row c k) (n + i) x) x ≡ cond (eqb (sound_row after k).track line) (added_sound samples (sound_row after k) i x) x
  row_turn line k x e h =
      cond_same (eqb (sound_row c k).track line) (added_sound samples (sound_row c k) (n + i) x) (added_sound samples (sound_row after k) i x) x
      (λ t. row_adds line k x e h (eqb→eq (sound_row c k).track line (true-T (eqb (sound_row c k).track line) t)))
      ∙ ap (λ (o : ℕ). cond (eqb o line) (added_sound samples (sound_row after k) i x) x) (sym (row_line k h))

  sounds_shifted : (line : ℕ) (a : Frame) → line_plays c line ≡ true → with_sounds c samples line (n + i) a ≡ with_sounds after samples line i a
  unfolding with_sounds
  sounds_shifted line a e =
      downto_cong (λ k x. cond (eqb (sound_row c k).track line) (added_sound samples (sound_row c k) (n + i) x) x) (λ k x. cond (eqb (sound_row after k).track line) (added_sound samples (sound_row after k) i x) x) c.sound_count a
      (λ k h x. row_turn line k x e h)

  sum_shifted : (line : ℕ) (f g : ℕ → Frame) → line_plays c line ≡ true → ((below : ℕ) → f below ≡ g below) → sum_over f c samples line (n + i) ≡ sum_over g after samples line i
  unfolding sum_over over_sub_tracks
  sum_shifted line f g e h =
      sounds_shifted line (over_sub_tracks c line (λ below x. added x (f below)) zero_frame) e
      ∙ ap (with_sounds after samples line i) (frames_cong c line f g (λ j b. h (suc j)))

  track_shifted : (d line : ℕ) → still_track_frame d c samples line (n + i) ≡ still_track_frame d after samples line i
  unfolding still_track_frame
  track_shifted zero line = refl
  track_shifted (suc d) line =
      let track = track_row c (line - 1) in
      let sum : Frame = sum_over (λ below. still_track_frame d c samples below (n + i)) c samples line (n + i) in
      let sum_after : Frame = sum_over (λ below. still_track_frame d after samples below i) after samples line i in
      cond_same track.advancing (scaled (placed track.placing sum) (still_track_amplitude track)) (scaled (placed track.placing sum_after) (still_track_amplitude track)) zero_frame
      (λ e. ap (λ (f : Frame). scaled (placed track.placing f) (still_track_amplitude track))
      (sum_shifted line (λ below. still_track_frame d c samples below (n + i)) (λ below. still_track_frame d after samples below i) (line_plays_lem c line e) (track_shifted d)))

  sends_shifted : (d line s : ℕ) (a : Frame) → with_still_track_sends d c samples line s (n + i) a ≡ with_still_track_sends d after samples line s i a
  unfolding with_still_track_sends with_routes over_sub_tracks
  sends_shifted zero line s a = refl
  sends_shifted (suc d) line s a =
      ap₂ (λ (f x : Frame). cond (track_row c (line - 1)).advancing (with_routes c line s f x) a) (track_shifted (suc d) line)
      (over_cong c line (λ below x. with_still_track_sends d c samples below s (n + i) x) (λ below x. with_still_track_sends d after samples below s i x) a
      (λ j b x. sends_shifted d (suc j) s x))

  input_shifted : (s : ℕ) → still_send_input c samples s (n + i) ≡ still_send_input after samples s i
  unfolding still_send_input over_sub_tracks
  input_shifted s =
      over_cong c 0 (λ below x. with_still_track_sends track_depth c samples below s (n + i) x) (λ below x. with_still_track_sends track_depth after samples below s i x) zero_frame
      (λ j b x. sends_shifted track_depth (suc j) s x)

  tracks_shifted : still_tracks_frame c samples (n + i) ≡ still_tracks_frame after samples i
  unfolding still_tracks_frame over_sub_tracks
  tracks_shifted = frames_cong c 0 (λ line. still_track_frame track_depth c samples line (n + i)) (λ line. still_track_frame track_depth after samples line i) (λ j b. track_shifted track_depth (suc j))

  -- the send tracks' frames added, from a chunk's inputs
  abbrev sends_of : (ℕ → Frame) → Frame → Frame
  sends_of inputs a = downto (λ s x. added x (scaled (added zero_frame (inputs (suc s))) (steady_amplitude (send_row c s)))) c.send_count a

  with_sends : sends_of (λ s. still_send_input c samples s (n + i)) (still_tracks_frame c samples (n + i)) ≡ sends_of (λ s. still_send_input after samples s i) (still_tracks_frame after samples i)
  with_sends =
      downto_cong (λ s x. added x (scaled (added zero_frame (still_send_input c samples (suc s) (n + i))) (steady_amplitude (send_row c s)))) (λ s x. added x (scaled (added zero_frame (still_send_input after samples (suc s) i)) (steady_amplitude (send_row c s)))) c.send_count (still_tracks_frame c samples (n + i))
      (λ s b x. ap (λ (f : Frame). added x (scaled (added zero_frame f) (steady_amplitude (send_row c s)))) (input_shifted (suc s)))
      ∙ ap (sends_of (λ s. still_send_input after samples s i)) tracks_shifted

  mixed_shifted : still_mixed_frame c samples (n + i) ≡ still_mixed_frame after samples i
  unfolding still_mixed_frame line_plays
  mixed_shifted =
      ap (λ (f : Frame). scaled f (steady_amplitude c.main))
      (ap (with_sounds c samples 0 (n + i)) with_sends
      ∙ sounds_shifted 0 (sends_of (λ s. still_send_input after samples s i) (still_tracks_frame after samples i)) refl)

pub still_shifted : (n : ℕ) (c d : Chunk) (samples : Recordings) (i : ℕ) → Shifted n c d → still_mixed_frame c samples (n + i) ≡ still_mixed_frame d samples i
still_shifted n c d samples i s =
    mixed_shifted n c d.frames d.sounds samples i s.sounds
    ∙ ap (λ (x : Chunk). still_mixed_frame x samples i) (sym (shifted_is n c d s))
