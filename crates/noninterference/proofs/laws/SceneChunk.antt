-- A chunk of the scene, and the chunk of what is left of it: mixing does not tell them apart. Assumes nothing.
use mathlib.Core.Path.{◌≡◌, refl, sym, ap, ap₂, ◌∙◌, subst}
use mathlib.Core.Logic.{◌⊎◌, inl, inr}
use mathlib.Core.Bool.{Bool, false}
use mathlib.Core.List.{List}
use Prim.Native.Nat.{ℕ, ◌≤◌, ◌<◌}
use native.Mathlib.Nat.{lt_of_le_of_lt, lt_of_lt_of_le}
use native.Mathlib.Omega.{arith}
use lib.Dec.{T}
use lib.ListN.{get_or}
use lib.Ieee.Scale.{finite}
use Rattle.recordings.specs.Recordings.{Recordings}
use Rattle.limits.specs.Limits.{chunk_frames_most, route_lines, sound_lines, track_places}
use Rattle.laws.specs.Kept.{rank}
use Rattle.laws.proofs.laws.Kept.{rank_lt, rank_le, rank_cong}
use Rattle.laws.proofs.laws.Float.{Zero}
use Rattle.decibels.proofs.laws.Decibels.{amplitude_within}
use Rattle.parameter.specs.declared.parameter.Parameter.{Parameter}
use Rattle.parameter.specs.Range.{ParameterIn, value_range}
use Rattle.parameter.proofs.laws.Parameter.{value_admitted}
use Rattle.scene.specs.declared.scene.Scene.{Scene}
use Rattle.scene.specs.declared.scene.TrackLine.{TrackLine}
use Rattle.accepted.specs.Lines.{track_line, route_line, sound_line, placing_at}
use Rattle.accepted.specs.SceneOk.{SceneOk, SamplesOk}
use Rattle.chunk.specs.declared.chunk.Chunk.{Chunk}
use Rattle.chunk.specs.declared.chunk.ChunkTrack.{ChunkTrack}
use Rattle.chunk.specs.declared.chunk.ChunkRoute.{ChunkRoute}
use Rattle.chunk.specs.declared.chunk.ChunkSound.{ChunkSound}
use Rattle.chunk.proofs.laws.Chunk.{amount_is}
use Rattle.track_sounds.specs.Sound.{sound_frame}
use Rattle.mixer.specs.declared.mixer.Mixer.{Mixer}
use Rattle.mixer.specs.Mixer.{state_of, parameter_of}
use Rattle.mixer_chunk.specs.ChunkOf.{level_of, chunk_track, chunk_route, chunk_sound, chunk_sends, chunk_of}
use Rattle.noninterference.specs.Removed.{new_line}
use Rattle.noninterference.proofs.laws.Lines.{kept_line, open_line}
use Rattle.noninterference.proofs.laws.Chunk.{new_track, new_route, kept_route, kept_sound, Muted, Without}
use Rattle.noninterference.proofs.laws.Bounds.{level_silent}
use Rattle.noninterference.proofs.laws.SceneLeft.{kept_route_line, kept_sound_line, new_track_line, MutedTrack, SceneLeft}
use Rattle.noninterference.proofs.laws.SilentMoves.{SilentVolume}
use Rattle.noninterference.proofs.laws.Run.{ChunkLeft}
use Rattle.noninterference.proofs.laws.ChunkLines.{track_line_lem, route_line_lem, sound_line_lem, plays_same, heard_within}
use Rattle.chunk.specs.Chunk as chunk

module _ {keep chosen quiet : ℕ → Bool} {s : Scene} {samples : Recordings} {e : Scene} {samples' : Recordings} (ok : SceneOk s) (w : SceneLeft keep chosen quiet s samples e samples')
    (n : ℕ) (few : n ≤ chunk_frames_most) {m m' : Mixer} (r : ChunkLeft keep chosen quiet s m m') where
  abbrev c : Chunk
  c = chunk_of s n m

  abbrev c' : Chunk
  c' = chunk_of e n m'

  -- ---- lines of the scene's chunk

  track_at : (j : ℕ) → j < s.track_count → chunk.track_row c j ≡ chunk_track (track_line s j) (placing_at s j) (state_of m.tracks j)
  track_at j b = track_line_lem s n m j b (lt_of_lt_of_le b ok.track_count)

  route_at : (i : ℕ) → i < s.route_count → chunk.route_row c i ≡ chunk_route (route_line s i) (parameter_of m.routes i)
  route_at i b = route_line_lem s n m i b (lt_of_lt_of_le b ok.route_count)

  sound_at : (k : ℕ) → k < s.sound_count → chunk.sound_row c k ≡ chunk_sound (sound_line s k) (get_or m.played k 0)
  sound_at k b = sound_line_lem s n m k b (lt_of_lt_of_le b ok.sound_count)

  parent_at : (j : ℕ) → j < s.track_count → (chunk.track_row c j).parent ≡ (track_line s j).parent
  unfolding chunk_track
  parent_at j b = ap (λ (x : ChunkTrack). x.parent) (track_at j b)

  route_track : (i : ℕ) → i < s.route_count → (chunk.route_row c i).track ≡ (route_line s i).track
  unfolding chunk_route
  route_track i b = ap (λ (x : ChunkRoute). x.track) (route_at i b)

  sound_track : (k : ℕ) → k < s.sound_count → (chunk.sound_row c k).track ≡ (sound_line s k).track
  unfolding chunk_sound
  sound_track k b = ap (λ (x : ChunkSound). x.track) (sound_at k b)

  -- ---- the same lines are kept

  route_test : (i : ℕ) → i < s.route_count → kept_route_line keep s i ≡ kept_route keep c i
  route_test i b = ap (kept_line keep) (sym (route_track i b))

  sound_test : (k : ℕ) → k < s.sound_count → kept_sound_line keep chosen s k ≡ kept_sound keep chosen c k
  sound_test k b = ap (open_line keep chosen) (sym (sound_track k b))

  route_rank : (i : ℕ) → i ≤ s.route_count → rank (kept_route_line keep s) i ≡ rank (kept_route keep c) i
  route_rank i b = rank_cong (kept_route_line keep s) (kept_route keep c) i (λ j l. route_test j (lt_of_lt_of_le l b))

  sound_rank : (k : ℕ) → k ≤ s.sound_count → rank (kept_sound_line keep chosen s) k ≡ rank (kept_sound keep chosen c) k
  sound_rank k b = rank_cong (kept_sound_line keep chosen s) (kept_sound keep chosen c) k (λ j l. sound_test j (lt_of_lt_of_le l b))

  -- a kept line's place in the other scene
  place : (keep : ℕ → Bool) (i count count' size : ℕ) → i < count → count ≤ size → T (keep i) → count' ≡ rank keep count → (rank keep i < count') × (rank keep i < size)
  place keep i count count' size b room t q =
      (subst (λ (k : ℕ). rank keep i < k) (sym q) (rank_lt keep i count t b), lt_of_le_of_lt (rank_le keep i) (lt_of_lt_of_le b room))

  -- ---- kept lines

  kept_track : (j : ℕ) → j < s.track_count → T (keep j) → chunk.track_row c' (rank keep j) ≡ new_track keep (chosen j) (chunk.track_row c j)
  unfolding chunk_track
  kept_track j b t =
      let p = place keep j s.track_count e.track_count track_places b ok.track_count t w.track_count in
      track_line_lem e n m' (rank keep j) p.0 p.1
      ∙ ap (λ (l : TrackLine). chunk_track l (placing_at e (rank keep j)) (state_of m'.tracks (rank keep j))) (w.tracks j b t)
      ∙ ap₂ (chunk_track (new_track_line keep (track_line s j))) (w.placings j b t) (r.left.tracks.same j b t)
      ∙ sym (ap (new_track keep (chosen j)) (track_at j b))

  kept_route_at : (i : ℕ) → i < s.route_count → T (kept_route_line keep s i) → chunk.route_row c' (rank (kept_route_line keep s) i) ≡ new_route keep (chunk.route_row c i)
  unfolding chunk_route
  kept_route_at i b t =
      let p = place (kept_route_line keep s) i s.route_count e.route_count route_lines b ok.route_count t w.route_count in
      route_line_lem e n m' (rank (kept_route_line keep s) i) p.0 p.1 ∙ ap₂ chunk_route (w.routes i b t) (r.left.routes.same i b t) ∙ sym (ap (new_route keep) (route_at i b))

  kept_sound_at : (k : ℕ) → k < s.sound_count → T (kept_sound_line keep chosen s k)
      → chunk.sound_row c' (rank (kept_sound_line keep chosen s) k) ≡ chunk_sound (sound_line e (rank (kept_sound_line keep chosen s) k)) (get_or m'.played (rank (kept_sound_line keep chosen s) k) 0)
  kept_sound_at k b t =
      let p = place (kept_sound_line keep chosen s) k s.sound_count e.sound_count sound_lines b ok.sound_count t w.sound_count in
      sound_line_lem e n m' (rank (kept_sound_line keep chosen s) k) p.0 p.1

  kept_sound_track : (k : ℕ) → k < s.sound_count → T (kept_sound_line keep chosen s k) → (chunk.sound_row c' (rank (kept_sound_line keep chosen s) k)).track ≡ new_line keep (chunk.sound_row c k).track
  unfolding chunk_sound
  kept_sound_track k b t = ap (λ (x : ChunkSound). x.track) (kept_sound_at k b t) ∙ w.sound_tracks k b t ∙ sym (ap (new_line keep) (sound_track k b))

  kept_sound_frame : (k : ℕ) → k < s.sound_count → T (kept_sound_line keep chosen s k) → (i : ℕ)
      → sound_frame samples' (chunk.sound_row c' (rank (kept_sound_line keep chosen s) k)) i ≡ sound_frame samples (chunk.sound_row c k) i
  kept_sound_frame k b t i =
      let p = rank (kept_sound_line keep chosen s) k in
      ap (λ (x : ChunkSound). sound_frame samples' x i) (kept_sound_at k b t)
      ∙ plays_same samples samples' (sound_line s k) (sound_line e p) (w.sound_counts k b t) (w.sound_frames k b t) i (r.left.played.same k b t)
      ∙ sym (ap (λ (x : ChunkSound). sound_frame samples x i) (sound_at k b))

  -- ---- silent tracks

  muted : (t : ℕ) → t < s.track_count → MutedTrack quiet s t → SilentVolume (state_of m.tracks t) → Muted quiet c t
  unfolding chunk_track level_of chunk_of
  muted t b h p =
      record {
        silent = λ i l.
            subst (λ (x : ChunkTrack). Zero (chunk.level_amplitude x.volume (chunk.amount_at i n)).0) (sym (track_at t b))
            (level_silent (level_of (state_of m.tracks t).volume) (chunk.amount_at i n) p.previous p.value (amount_is i n l few));
        below = λ j l q. h.below j l (sym (parent_at j l) ∙ q);
      }

  silent_track : (t : ℕ) → t < s.track_count → T (chosen t) → ((chunk.track_row c t).advancing ≡ false) ⊎ Muted quiet c t
  unfolding chunk_track
  silent_track t b q =
      elim (r.silent t b q) [
        | inl h ↦ inr (muted t b h.0 h.1)
        | inr h ↦ inl (ap (λ (x : ChunkTrack). x.advancing) (track_at t b) ∙ h.1.1)
      ]

  -- ---- the chunk

  module _ (heard : SamplesOk s samples) (range : chunk.ChunkOk (chunk_of s n m) samples) (routed : (i : ℕ) → i < s.route_count → ParameterIn value_range (parameter_of m.routes i)) where
    route_finite : (i : ℕ) → i < s.route_count → T (finite (chunk.route_row c i).amplitude.0)
    unfolding chunk_route
    route_finite i b =
        let v = (routed i b).value in
        subst (λ (x : ChunkRoute). T (finite x.amplitude.0)) (sym (route_at i b))
        (amplitude_within (parameter_of m.routes i).raw_value.0 v.held (value_admitted (parameter_of m.routes i).raw_value.0 v)).is_finite

    pub without : Without keep chosen quiet (chunk_of s n m) samples (chunk_of e n m') samples'
    unfolding chunk_of
    without =
        record {
          same_frames = refl;
          same_main = ap level_of r.left.main;
          send_count = w.send_count;
          same_sends = λ i b. ap₂ (λ (k : ℕ) (l : List Parameter). get_or (chunk_sends k l) i chunk.absent_level) w.send_count r.left.sends;
          track_count = w.track_count;
          kept_tracks = kept_track;
          route_count = w.route_count ∙ route_rank s.route_count (omega arith);
          kept_routes = λ i b t.
              subst (λ (k : ℕ). chunk.route_row c' k ≡ new_route keep (chunk.route_row c i)) (route_rank i (omega arith)) (kept_route_at i b (subst T (sym (route_test i b)) t));
          sound_count = w.sound_count ∙ sound_rank s.sound_count (omega arith);
          kept_sounds = λ k b t.
              subst (λ (j : ℕ). (chunk.sound_row c' j).track ≡ new_line keep (chunk.sound_row c k).track) (sound_rank k (omega arith)) (kept_sound_track k b (subst T (sym (sound_test k b)) t));
          kept_frames = λ k b t i l.
              subst (λ (j : ℕ). sound_frame samples' (chunk.sound_row c' j) i ≡ sound_frame samples (chunk.sound_row c k) i) (sound_rank k (omega arith))
              (kept_sound_frame k b (subst T (sym (sound_test k b)) t) i);
          tree = λ j b. w.tree j b ∙ sym (ap (open_line keep chosen) (parent_at j b));
          chosen_silent = silent_track;
          quiet_routes = λ j b q i l h. w.quiet_routes j b q i l (sym (route_track i l) ∙ h);
          quiet_below = λ j b q k l h. w.quiet_below j b q k l (sym (parent_at k l) ∙ h);
          in_range = range;
          sound_values = λ k b i l. let h = heard_within samples heard.within (chunk.sound_row c k) (range.held k b) i in (h.left, h.right);
          route_amplitude = route_finite;
        }
