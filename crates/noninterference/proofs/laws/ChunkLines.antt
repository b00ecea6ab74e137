-- The lines of the chunk that is made of a scene and a mixer. Assumes nothing.
use mathlib.Core.Path.{◌≡◌, refl, sym, ap, ◌∙◌, subst}
use mathlib.Core.Bool.{Bool, true, false, cond}
use Prim.Native.Nat.{ℕ, ◌+◌, ◌-◌, ◌*◌, ◌≤◌, ◌<◌}
use native.Mathlib.Omega.{arith}
use lib.Dec.{T, ltb, ltb→lt}
use lib.ListN.{length, get_or, replicate, length-replicate}
use lib.Ieee.{nan}
use Rattle.recordings.specs.Recordings.{Recordings, recording}
use Rattle.limits.specs.Limits.{route_lines, sound_lines, track_places}
use Rattle.laws.specs.Loop.{changed}
use Rattle.laws.proofs.laws.Loop.{changed_below}
use Rattle.laws.proofs.laws.Float.{positive_zero}
use Rattle.laws.specs.FloatBounds.{Within}
use Rattle.laws.proofs.laws.FloatBounds.{within_zero}
use Rattle.scene.specs.declared.scene.Scene.{Scene}
use Rattle.scene.specs.declared.scene.SoundLine.{SoundLine}
use Rattle.accepted.specs.Lines.{track_line, route_line, sound_line, placing_at}
use Rattle.frame.specs.declared.frame.Frame.{Frame}
use Rattle.chunk.specs.declared.chunk.ChunkSound.{ChunkSound}
use Rattle.frame.specs.Frame.{zero_frame, sample_frame}
use Rattle.track_sounds.specs.Sound.{sound_frame}
use Rattle.mixer.specs.declared.mixer.Mixer.{Mixer}
use Rattle.mixer.specs.Mixer.{state_of, parameter_of}
use Rattle.mixer_chunk.specs.ChunkOf.{chunk_track, chunk_route, chunk_sound, chunk_tracks, chunk_routes, chunk_sounds, chunk_of, empty_track_row, empty_route_row, empty_sound_row}
use Rattle.frame.specs.Running.{Both}
use Rattle.track.proofs.laws.Running.{both_zero, picked_if}
use Rattle.noninterference.proofs.laws.Bounds.{Size}
use Rattle.noninterference.proofs.laws.SceneLeft.{line_frame}
use Rattle.chunk.specs.Chunk as chunk

-- a table that is filled line by line
filled : {A : Type 0} (f : ℕ → A) (n size : ℕ) (x d : A) (i : ℕ) → i < n → i < size → get_or (changed (λ k y. f k) n (replicate size x)) i d ≡ f i
filled f n size x d i a b = changed_below (λ k y. f k) n (replicate size x) i d a (subst (λ (k : ℕ). i < k) (sym (length-replicate size x)) b)

module _ (s : Scene) (n : ℕ) (m : Mixer) where
  pub track_line_lem : (j : ℕ) → j < s.track_count → j < track_places → chunk.track_row (chunk_of s n m) j ≡ chunk_track (track_line s j) (placing_at s j) (state_of m.tracks j)
  unfolding chunk_of chunk_tracks
  track_line_lem j a b = filled (λ t. chunk_track (track_line s t) (placing_at s t) (state_of m.tracks t)) s.track_count track_places empty_track_row chunk.absent_track_row j a b

  pub route_line_lem : (r : ℕ) → r < s.route_count → r < route_lines → chunk.route_row (chunk_of s n m) r ≡ chunk_route (route_line s r) (parameter_of m.routes r)
  unfolding chunk_of chunk_routes
  route_line_lem r a b = filled (λ i. chunk_route (route_line s i) (parameter_of m.routes i)) s.route_count route_lines empty_route_row chunk.absent_route_row r a b

  pub sound_line_lem : (k : ℕ) → k < s.sound_count → k < sound_lines → chunk.sound_row (chunk_of s n m) k ≡ chunk_sound (sound_line s k) (get_or m.played k 0)
  unfolding chunk_of chunk_sounds
  sound_line_lem k a b = filled (λ i. chunk_sound (sound_line s i) (get_or m.played i 0)) s.sound_count sound_lines empty_sound_row chunk.absent_sound_row k a b

-- ---- what a sound plays

where_true : (b b' : Bool) {x x' : Frame} (z : Frame) → b' ≡ b → (T b → x' ≡ x) → cond b' x' z ≡ cond b x z
where_true b b' {x} {x'} z e h = ap (λ (c : Bool). cond c x' z) e ∙ go b h
  where
    go : (c : Bool) → (T c → x' ≡ x) → cond c x' z ≡ cond c x z
    go true p = p tt
    go false p = refl

module _ (samples samples' : Recordings) (line line' : SoundLine) (count : line'.count ≡ line.count)
    (frames : (j : ℕ) → j < line.count → line_frame samples' line' j ≡ line_frame samples line j) (i : ℕ) where
  plays_from : (done : ℕ) → sound_frame samples' (chunk_sound line' done) i ≡ sound_frame samples (chunk_sound line done) i
  unfolding sound_frame chunk_sound
  plays_from done =
      where_true (ltb i (line.count - done)) (ltb i (line'.count - done)) zero_frame (ap (λ (n : ℕ). ltb i (n - done)) count)
      (λ t. ap (sample_frame (recording samples' line'.from)) (moved line'.first done i) ∙ frames (done + i) (inside line.count done i (ltb→lt i (line.count - done) t)) ∙ ap (sample_frame (recording samples line.from)) (sym (moved line.first done i)))
    where
      moved : (a b c : ℕ) → a + b + c ≡ a + (b + c)
      moved a b c = omega arith

      inside : (n d j : ℕ) → j < n - d → d + j < n
      inside n d j h = omega arith

  pub plays_same : {done done' : ℕ} → done' ≡ done → sound_frame samples' (chunk_sound line' done') i ≡ sound_frame samples (chunk_sound line done) i
  plays_same {done} {done'} e = ap (λ (d : ℕ). sound_frame samples' (chunk_sound line' d) i) e ∙ plays_from done

-- samples within 1 are heard within 1
pub heard_within : (samples : Recordings) → ((from j : ℕ) → j < length (recording samples from) → Within (get_or (recording samples from) j nan) 1 1) → (x : ChunkSound) → 2 * (x.start + x.left) ≤ length (recording samples x.from) → (i : ℕ)
    → Both (Size 1) (sound_frame samples x i)
unfolding sound_frame sample_frame
heard_within samples h x b i =
    picked_if (Both (Size 1)) (ltb i x.left) (sample_frame (recording samples x.from) (x.start + i)) zero_frame
    (λ t.
    let l = ltb→lt i x.left t in
    let n = length (recording samples x.from) in
    record { left = h x.from (2 * (x.start + i)) (even x.start x.left i n b l); right = h x.from (2 * (x.start + i) + 1) (odd x.start x.left i n b l) })
    (both_zero (Size 1) (within_zero positive_zero))
  where
    even : (a c j n : ℕ) → 2 * (a + c) ≤ n → j < c → 2 * (a + j) < n
    even a c j n p q = omega arith

    odd : (a c j n : ℕ) → 2 * (a + c) ≤ n → j < c → 2 * (a + j) + 1 < n
    odd a c j n p q = omega arith
