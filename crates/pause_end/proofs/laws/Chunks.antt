-- A chunk, where all have `buffer` frames: how long it is, and what it does to a track right under the mixer. Assumes nothing.
use mathlib.Core.Path.{◌≡◌, refl, sym, ap, ◌∙◌, subst}
use mathlib.Core.Logic.{inl, inr}
use mathlib.Core.Bool.{true}
use mathlib.Core.List.{List}
use Prim.Native.Nat.{ℕ, suc, ◌+◌, ◌-◌, ◌*◌, ◌/◌, ◌%◌, ◌≤◌, ◌<◌}
use native.Mathlib.Nat.{le_trans, le_of_eq, le_antisymm, lt_of_lt_of_le, eq-or-lt_of_le, mul-le-mul_right, div-add-mod'}
use native.Mathlib.Omega.{arith}
use lib.ListN.{length, get_or, length-set, replicate, length-replicate}
use lib.Seq.{get_or-set_same}
use lib.Ieee.{Float}
use Rattle.limits.specs.Limits.{track_places}
use Rattle.laws.proofs.laws.Choice.{leaves_lt}
use Rattle.laws.proofs.laws.FloatRound.{below_or_not}
use Rattle.laws.proofs.laws.Loop.{upto_holds, changed_below}
use Rattle.laws.proofs.laws.Sets.{set_line}
use Rattle.clock.specs.declared.when_to_start.Clocks.{Clocks}
use Rattle.clock.specs.WhenToStart.{clocks_updated}
use Rattle.clock.specs.ChunkTime.{chunk_time}
use Rattle.playback.specs.PlaybackStateManager.{is_advancing, playback_new, playback_update}
use Rattle.scene.specs.declared.scene.Head.{Head}
use Rattle.scene.specs.declared.scene.Scene.{Scene}
use Rattle.scene.specs.declared.scene.TrackLine.{TrackLine}
use Rattle.accepted.specs.Lines.{track_line, absent_track_line}
use Rattle.accepted.specs.SceneOk.{SceneOk}
use Rattle.mixer.specs.declared.sub.Track.{Track}
use Rattle.mixer.specs.declared.mixer.Mixer.{Mixer}
use Rattle.mixer.specs.Sub.{track_new, track_moved, track_update}
use Rattle.mixer.specs.Mixer.{empty_track, absent_track, tracks_new, mixer_new, state_of, live_above, track_step, tracks_update, mixer_update}
use Rattle.mixer.specs.Sounds.{sounds_played}
use Rattle.renderer.specs.Renderer.{chunk_count, chunk_frames, in_chunk, chunk_done}
use Rattle.renderer.proofs.laws.Lengths.{next_place, count_covers, chunk_starts}
use Rattle.pause_end.proofs.laws.Orders.{playback_at}

-- ---- chunks of one length

module _ (h : Head) (some : 1 ≤ h.buffer) (divides : h.block % h.buffer ≡ 0) where
  exact : h.block / h.buffer * h.buffer ≡ h.block
  exact = none (h.block / h.buffer * h.buffer) (h.block % h.buffer) h.block (div-add-mod' h.block h.buffer) divides
    where
      none : (x r B : ℕ) → x + r ≡ B → r ≡ 0 → x ≡ B
      none x r B e z = omega arith

  count_few : chunk_count h ≤ h.block / h.buffer
  count_few = elim (below_or_not (h.block / h.buffer) (chunk_count h)) [
    | inl l ↦ absurd (clash (h.block / h.buffer * h.buffer) h.block exact (chunk_starts h some (h.block / h.buffer) l))
    | inr r ↦ r
  ]
    where
      clash : (x B : ℕ) → x ≡ B → x < B → ⊥
      clash x B e l = omega arith

  pub chunks_fill : chunk_count h * h.buffer ≡ h.block
  chunks_fill = le_antisymm (le_trans (mul-le-mul_right h.buffer count_few) (le_of_eq exact)) (count_covers h some)

  pub frames_all : (k : ℕ) → k < chunk_count h → chunk_frames h k ≡ h.buffer
  unfolding chunk_frames
  frames_all k l =
      leaves_lt (h.block - k * h.buffer) h.buffer (h.block - k * h.buffer) h.buffer
      (room h.block h.buffer (k * h.buffer) (le_trans (next_place h.buffer k (chunk_count h) l) (le_of_eq chunks_fill)))
    where
      room : (B b s : ℕ) → s + b ≤ B → b ≤ B - s
      room B b s h = omega arith

-- ---- a track right under the mixer is always reached

module _ (lines : List TrackLine) (dt : Float) (clocks : Clocks) (t : ℕ) (top : (get_or lines t absent_track_line).parent ≡ 0) (l : List Track) where
  abbrev updated : Track
  updated = track_update (state_of l t) true dt clocks

  record Turns (i : ℕ) (x : List Track) : Type 0 where
    places : length x ≡ track_places
    before : i ≤ t → state_of x t ≡ state_of l t
    after : t < i → state_of x t ≡ updated

  turned : (x : List Track) → t < length x → state_of x t ≡ state_of l t → state_of (track_step lines dt clocks t x) t ≡ updated
  unfolding track_step live_above
  turned x room e =
      get_or-set_same x t (track_update (state_of x t) (live_above x (get_or lines t absent_track_line).parent) dt clocks) absent_track room
      ∙ ap (λ (p : ℕ). track_update (state_of x t) (live_above x p) dt clocks) top
      ∙ ap (λ (y : Track). track_update y true dt clocks) e

  turn : (i : ℕ) → i < track_places → (x : List Track) → Turns i x → Turns (suc i) (track_step lines dt clocks i x)
  unfolding track_step
  turn i b x r =
      let y = track_update (state_of x i) (live_above x (get_or lines i absent_track_line).parent) dt clocks in
      record {
        places = length-set x i y ∙ r.places;
        before = λ h. set_line (λ (z : Track). z ≡ state_of l t) x i t y absent_track (r.before (omega arith)) (λ e. absurd (omega arith));
        after = λ h. elim (eq-or-lt_of_le h) [
          | inl e ↦ subst (λ (k : ℕ). state_of (track_step lines dt clocks k x) t ≡ updated) (same t i e)
              (turned x (subst (λ (n : ℕ). t < n) (sym r.places) (subst (λ (n : ℕ). n < track_places) (sym (same t i e)) b)) (r.before (no_later t i e)))
          | inr k ↦ set_line (λ (z : Track). z ≡ updated) x i t y absent_track (r.after (omega arith)) (λ e. absurd (omega arith))
        ];
      }
    where
      same : (t i : ℕ) → suc t ≡ suc i → t ≡ i
      same t i e = omega arith

      no_later : (t i : ℕ) → suc t ≡ suc i → i ≤ t
      no_later t i e = omega arith

  top_updated : (n : ℕ) → t < n → n ≤ track_places → length l ≡ track_places → state_of (tracks_update lines n dt clocks l) t ≡ updated
  unfolding tracks_update
  top_updated n b c e =
      (upto_holds Turns (track_step lines dt clocks) n l (record { places = e; before = λ h. refl; after = λ h. absurd (omega arith) }) (λ i h x r. turn i (lt_of_lt_of_le h c) x r)).after b

-- ---- in a chunk

module _ {s : Scene} {t : ℕ} (ok : SceneOk s) (there : t < s.track_count) (top : (track_line s t).parent ≡ 0) where
  -- a new one plays
  pub playing_new : playback_at (mixer_new s) t ≡ playback_new
  unfolding mixer_new tracks_new track_new
  playing_new =
      ap (λ (x : Track). x.playback)
      (changed_below (λ j x. track_new (track_line s j).volume) s.track_count (replicate track_places empty_track) t absent_track there
      (subst (λ (n : ℕ). t < n) (sym (length-replicate track_places empty_track)) (lt_of_lt_of_le there ok.track_count)))

  module _ (divides : s.head.block % s.head.buffer ≡ 0) (k : ℕ) (in_block : k < chunk_count s.head) (m : Mixer) (places : length m.tracks ≡ track_places) where
    abbrev dt : Float
    dt = chunk_time s.head.rate s.head.buffer

    abbrev clocks : Clocks
    clocks = clocks_updated m.clocks dt

    in_chunk_lem : state_of (in_chunk s k m).tracks t ≡ track_moved (state_of m.tracks t) dt clocks
    unfolding in_chunk mixer_update track_update
    in_chunk_lem =
        ap (λ (n : ℕ). state_of (mixer_update s (chunk_time s.head.rate n) m).tracks t) (frames_all s.head ok.buffer.0 divides k in_block)
        ∙ top_updated s.tracks dt (clocks_updated m.clocks dt) t top m.tracks s.track_count there ok.track_count places

    pub playback_in : playback_at (in_chunk s k m) t ≡ (playback_update (playback_at m t) dt clocks).manager
    unfolding track_moved
    playback_in = ap (λ (x : Track). x.playback) in_chunk_lem

    pub playback_done : playback_at (chunk_done s k m) t ≡ (playback_update (playback_at m t) dt clocks).manager
    unfolding chunk_done sounds_played
    playback_done = playback_in

    -- it is live where its state advances
    pub live_in : (state_of (in_chunk s k m).tracks t).live ≡ is_advancing (playback_at (in_chunk s k m) t).state
    unfolding track_moved
    live_in = ap (λ (x : Track). x.live) in_chunk_lem ∙ ap (λ (x : Track). is_advancing x.playback.state) (sym in_chunk_lem)
