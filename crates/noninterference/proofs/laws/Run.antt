-- The two mixers in time: at every chunk they share what is kept, and the chosen tracks are silent. Assumes nothing.
use mathlib.Core.Path.{◌≡◌, sym, ap, subst}
use mathlib.Core.Logic.{◌⊎◌, inl, inr}
use mathlib.Core.Bool.{Bool, false}
use Prim.Native.Nat.{ℕ, zero, suc, ◌≤◌, ◌<◌}
use native.Mathlib.Nat.{le_trans, lt_of_le_of_lt, lt_of_lt_of_le}
use lib.Dec.{T, lit<, lit≤}
use lib.ListN.{replicate, length-replicate}
use Rattle.recordings.specs.Recordings.{Recordings}
use Rattle.renderer.proofs.laws.Lengths.{frames_most}
use Rattle.limits.specs.Limits.{chunk_frames_most, track_places}
use Rattle.laws.specs.Loop.{upto}
use Rattle.laws.proofs.laws.Loop.{changed_below}
use Rattle.laws.proofs.laws.Unsigned.{unsigned}
use Rattle.clock.specs.WhenToStart.{clocks_updated}
use Rattle.clock.specs.ChunkTime.{chunk_time}
use Rattle.tween.proofs.laws.ChunkTime.{chunk_unsigned}
use Rattle.parameter.proofs.laws.Parameter.{silent_range, new_in}
use Rattle.playback.specs.PlaybackStateManager.{playback_new}
use Rattle.scene.specs.declared.scene.Head.{Head}
use Rattle.scene.specs.declared.scene.Scene.{Scene}
use Rattle.accepted.specs.Lines.{track_line}
use Rattle.accepted.specs.SceneOk.{SceneOk}
use Rattle.mixer.specs.declared.sub.Track.{Track}
use Rattle.mixer.specs.declared.mixer.Mixer.{Mixer}
use Rattle.mixer.specs.Sub.{track_new}
use Rattle.mixer.specs.Mixer.{empty_track, tracks_new, mixer_new, state_of, mixer_update, absent_track}
use Rattle.mixer.specs.Orders.{mixer_ordered}
use Rattle.mixer.specs.Sounds.{sounds_played}
use Rattle.renderer.specs.Renderer.{chunk_count, chunk_frames, in_chunk, chunk_done, chunks_done, block_done, mixer_at}
use Rattle.noninterference.proofs.laws.SceneLeft.{MutedTrack, HeldTrack, SceneLeft}
use Rattle.noninterference.proofs.laws.State.{MixerLeft, new_left}
use Rattle.noninterference.proofs.laws.Moves.{update_left, played_left}
use Rattle.noninterference.proofs.laws.Orders.{ordered_left}
use Rattle.noninterference.proofs.laws.SilentMoves.{SilentVolume, Holds, silent_update, held_update, updated_once}
use Rattle.noninterference.proofs.laws.SilentOrders.{silent_ordered}
use Rattle.noninterference.proofs.laws.Held.{held_first, held_later}

-- a silent track between chunks, and once a chunk has moved it
abbrev pub SilentTrack : (ℕ → Bool) → Scene → ℕ → Track → Type 0
SilentTrack quiet s t x = (MutedTrack quiet s t × SilentVolume x) ⊎ (HeldTrack s t × Holds x.playback)

abbrev pub SilentNow : (ℕ → Bool) → Scene → ℕ → Track → Type 0
SilentNow quiet s t x = (MutedTrack quiet s t × SilentVolume x) ⊎ (HeldTrack s t × (Holds x.playback × (x.live ≡ false)))

pub record RunLeft (keep chosen quiet : ℕ → Bool) (s : Scene) (m m' : Mixer) : Type 0 where
  pub left : MixerLeft keep chosen s m m'
  pub silent : (t : ℕ) → t < s.track_count → T (chosen t) → SilentTrack quiet s t (state_of m.tracks t)

pub record ChunkLeft (keep chosen quiet : ℕ → Bool) (s : Scene) (m m' : Mixer) : Type 0 where
  pub left : MixerLeft keep chosen s m m'
  pub silent : (t : ℕ) → t < s.track_count → T (chosen t) → SilentNow quiet s t (state_of m.tracks t)

-- ---- a chunk's length

module _ {s : Scene} (ok : SceneOk s) (k : ℕ) where
  pub frames_few : chunk_frames s.head k ≤ chunk_frames_most
  frames_few = le_trans (frames_most s.head k) ok.buffer.1

  step_unsigned : T (unsigned (chunk_time s.head.rate (chunk_frames s.head k)))
  step_unsigned = chunk_unsigned s.head.rate (chunk_frames s.head k) (le_trans (lit≤ tt) ok.rate.0) (lt_of_le_of_lt ok.rate.1 (lit< tt)) frames_few

module _ {keep chosen quiet : ℕ → Bool} {s : Scene} {samples : Recordings} {e : Scene} {samples' : Recordings} (ok : SceneOk s) (w : SceneLeft keep chosen quiet s samples e samples') where
  abbrev Run : Mixer → Mixer → Type 0
  Run m m' = RunLeft keep chosen quiet s m m'

  -- ---- a new mixer, once block 0's orders are read

  state_new : (t : ℕ) → t < s.track_count → state_of (mixer_new s).tracks t ≡ track_new (track_line s t).volume
  unfolding mixer_new tracks_new
  state_new t b =
      changed_below (λ i x. track_new (track_line s i).volume) s.track_count (replicate track_places empty_track) t absent_track b
      (subst (λ (n : ℕ). t < n) (sym (length-replicate track_places empty_track)) (lt_of_lt_of_le b ok.track_count))

  silent_new : (t : ℕ) → t < s.track_count → MutedTrack quiet s t → SilentVolume (state_of (mixer_new s).tracks t)
  unfolding track_new
  silent_new t b h = subst SilentVolume (sym (state_new t b)) (new_in silent_range (track_line s t).volume h.volume)

  playing_new : (t : ℕ) → t < s.track_count → (state_of (mixer_new s).tracks t).playback ≡ playback_new
  unfolding track_new
  playing_new t b = ap (λ (x : Track). x.playback) (state_new t b)

  first_left : Run (mixer_ordered s 0 (mixer_new s)) (mixer_ordered e 0 (mixer_new e))
  first_left =
      record {
        left = ordered_left ok w 0 (new_left ok w);
        silent = λ t b c. elim (w.silent t b c) [
          | inl h ↦ inl (h, silent_ordered ok h 0 (mixer_new s) (silent_new t b h))
          | inr h ↦ inr (h, held_first ok h (lt_of_lt_of_le b ok.track_count) (mixer_new s) (new_left ok w).tracks.places (playing_new t b))
        ];
      }

  -- ---- orders of later blocks

  later_left : (b : ℕ) {m m' : Mixer} → Run m m' → Run (mixer_ordered s (suc b) m) (mixer_ordered e (suc b) m')
  later_left b {m} {m'} r =
      record {
        left = ordered_left ok w (suc b) r.left;
        silent = λ t l c. elim (r.silent t l c) [
          | inl h ↦ inl (h.0, silent_ordered ok h.0 (suc b) m h.1)
          | inr h ↦ inr (h.0, held_later ok h.0 b m h.1)
        ];
      }

  -- ---- a chunk

  module _ (k : ℕ) {m m' : Mixer} (r : Run m m') where
    update_silent : (t : ℕ) → t < s.track_count → SilentTrack quiet s t (state_of m.tracks t) → SilentNow quiet s t (state_of (in_chunk s k m).tracks t)
    unfolding in_chunk mixer_update
    update_silent t b h =
        let dt = chunk_time s.head.rate (chunk_frames s.head k) in
        let clocks = clocks_updated m.clocks dt in
        elim h [
          | inl p ↦ inl (p.0, updated_once s.tracks dt clocks SilentVolume SilentVolume (silent_update dt clocks (step_unsigned ok k)) t s.track_count b ok.track_count m.tracks r.left.tracks.places p.1)
          | inr p ↦ inr (
            p.0,
            updated_once s.tracks dt clocks (λ (x : Track). Holds x.playback) (λ (x : Track). Holds x.playback × (x.live ≡ false)) (held_update dt clocks (step_unsigned ok k)) t
                s.track_count b ok.track_count m.tracks r.left.tracks.places p.1,
          )
        ]

    pub in_chunk_lem : ChunkLeft keep chosen quiet s (in_chunk s k m) (in_chunk e k m')
    unfolding in_chunk
    in_chunk_lem =
        record {
          left = subst (λ (h : Head). MixerLeft keep chosen s (in_chunk s k m) (mixer_update e (chunk_time h.rate (chunk_frames h k)) m')) (sym w.head)
              (update_left ok w r.left (chunk_time s.head.rate (chunk_frames s.head k)));
          silent = λ t b c. update_silent t b (r.silent t b c);
        }

    done_left : Run (chunk_done s k m) (chunk_done e k m')
    unfolding chunk_done sounds_played
    done_left =
        record {
          left = subst (λ (h : Head). MixerLeft keep chosen s (chunk_done s k m) (sounds_played e (chunk_frames h k) (in_chunk e k m'))) (sym w.head)
              (played_left ok w in_chunk_lem.left (chunk_frames s.head k));
          silent = λ t b c. elim (in_chunk_lem.silent t b c) [ inl h ↦ inl h | inr h ↦ inr (h.0, h.1.0) ];
        }

  -- ---- the show

  chunks_left : (k : ℕ) {m m' : Mixer} → Run m m' → Run (chunks_done s k m) (chunks_done e k m')
  unfolding chunks_done upto
  chunks_left zero r = r
  chunks_left (suc k) r = done_left k (chunks_left k r)

  block_left : (b : ℕ) → Run (mixer_ordered s b (mixer_at s b)) (mixer_ordered e b (mixer_at e b))
  unfolding mixer_at block_done upto
  block_left zero = first_left
  block_left (suc b) =
      later_left b
      (subst (λ (h : Head). Run (chunks_done s (chunk_count s.head) (mixer_ordered s b (mixer_at s b))) (chunks_done e (chunk_count h) (mixer_ordered e b (mixer_at e b)))) (sym w.head)
      (chunks_left (chunk_count s.head) (block_left b)))

  -- chunk k of block b
  pub run_left : (b k : ℕ) → ChunkLeft keep chosen quiet s (in_chunk s k (chunks_done s k (mixer_ordered s b (mixer_at s b)))) (in_chunk e k (chunks_done e k (mixer_ordered e b (mixer_at e b))))
  run_left b k = in_chunk_lem k (chunks_left k (block_left b))
