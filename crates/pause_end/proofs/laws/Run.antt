-- From the order chunk by chunk: the track plays until its pause's block, and then its fade's time is the sum of chunk lengths. Assumes nothing.
use mathlib.Core.Path.{◌≡◌, sym, ap, ◌∙◌, subst}
use mathlib.Core.Logic.{inl, inr}
use Prim.Native.Nat.{ℕ, zero, suc, ◌+◌, ◌-◌, ◌*◌, ◌≤◌, ◌<◌}
use native.Mathlib.Nat.{le_refl, lt_of_lt_of_le, add-suc, add-zero, mul-le-mul_right}
use native.Mathlib.Omega.{arith}
use lib.Ieee.{Float}
use Rattle.limits.specs.Limits.{track_places}
use Rattle.laws.specs.Loop.{upto}
use Rattle.laws.proofs.laws.FloatRound.{below_or_not}
use Rattle.clock.specs.declared.when_to_start.Clocks.{Clocks}
use Rattle.clock.specs.ChunkTime.{chunk_time}
use Rattle.clock.specs.WhenToStart.{clocks_updated}
use Rattle.tween.specs.declared.tween.Tween.{Tween}
use Rattle.playback.specs.declared.playback_state_manager.PlaybackStateManager.{PlaybackStateManager}
use Rattle.playback.specs.PlaybackStateManager.{playback_new, playback_update}
use Rattle.scene.specs.declared.scene.Scene.{Scene}
use Rattle.accepted.specs.Lines.{order_line}
use Rattle.accepted.specs.SceneOk.{SceneOk}
use Rattle.mixer.specs.declared.mixer.Mixer.{Mixer}
use Rattle.mixer.specs.MixerOk.{MixerOk}
use Rattle.mixer.specs.Orders.{mixer_ordered}
use Rattle.order_lines.specs.Orders.{tween_of}
use Rattle.mixer_laws.proofs.laws.Ordered.{ordered_ok}
use Rattle.renderer.specs.Renderer.{chunk_count, chunks_done, block_done, mixer_at, mixer_in}
use Rattle.renderer.proofs.laws.Renderer.{chunks_ok, blocks_ok}
use Rattle.pause_end.specs.PauseEnd.{PausedOnce, ChunkSince}
use Rattle.pause_end.proofs.laws.Fade.{playing_stays, fading_starts, ended, over, Stands, stands_next}
use Rattle.pause_end.proofs.laws.Orders.{playback_at, other_block, own_block}
use Rattle.pause_end.proofs.laws.Chunks.{playing_new, playback_in, playback_done}

-- ---- chunks and blocks. c is how many chunks a block has, a the order's block

earlier : (b a : ℕ) → suc b ≤ a → b ≡ a → ⊥
earlier b a h e = omega arith

own : (a b : ℕ) → b ≡ a + 0 → a ≡ b
own a b e = omega arith

later : (a b d : ℕ) → suc b ≡ a + suc d → suc b ≡ a → ⊥
later a b d e h = omega arith

before : (a b d : ℕ) → suc b ≡ a + suc d → b ≡ a + d
before a b d e = omega arith

no_chunk : (c : ℕ) → 0 ≡ 0 * c
no_chunk c = omega arith

next_block : (d c : ℕ) → d * c + c ≡ suc d * c
next_block d c = omega arith

-- chunk n from the order stands in no earlier block
too_early : (x y z c k n : ℕ) → x + c ≡ y → y ≤ z → k < c → 1 ≤ n → x + (k + 1) ≡ z + n → ⊥
too_early x y z c k n e h l some f = omega arith

not_before : (a b c k n : ℕ) → k < c → 1 ≤ n → b * c + (k + 1) ≡ a * c + n → a ≤ b
not_before a b c k n l some e = elim (below_or_not b a) [
  | inl h ↦ absurd (too_early (b * c) (suc b * c) (a * c) c k n (next_block b c) (mul-le-mul_right c h) l some e)
  | inr h ↦ h
]

apart : (a b : ℕ) → a ≤ b → b ≡ a + (b - a)
apart a b h = omega arith

spread : (a d b c : ℕ) → b ≡ a + d → a * c + d * c ≡ b * c
spread a d b c e = rw e (omega arith)

cancel : (x y z k n : ℕ) → x + y ≡ z → z + (k + 1) ≡ x + n → y + suc k ≡ n
cancel x y z k n e f = omega arith

-- and its number is that of the blocks since, and of the chunks in its block
since : (a b c k n : ℕ) → a ≤ b → b * c + (k + 1) ≡ a * c + n → (b - a) * c + suc k ≡ n
since a b c k n h e = cancel (a * c) ((b - a) * c) (b * c) k n (spread a (b - a) b c (apart a b h)) e

module _ {s : Scene} {t i : ℕ} (ok : SceneOk s) (once : PausedOnce s t i) where
  abbrev count : ℕ
  count = chunk_count s.head

  abbrev dt : Float
  dt = chunk_time s.head.rate s.head.buffer

  abbrev tween : Tween
  tween = tween_of (order_line s i)

  -- ---- a block's chunks

  chunks_run : (P : ℕ → PlaybackStateManager → Type 0) → ((k : ℕ) (p : PlaybackStateManager) (clocks : Clocks) → P k p → P (suc k) (playback_update p dt clocks).manager) → (c : ℕ) (m : Mixer)
      → MixerOk s c m → P 0 (playback_at m t) → (k : ℕ) → k ≤ count → P k (playback_at (chunks_done s k m) t)
  unfolding chunks_done upto
  chunks_run P step c m h p zero l = p
  chunks_run P step c m h p (suc k) l =
      let before = chunks_done s k m in
      let places = (chunks_ok s ok k c m h).track_places in
      subst (P (suc k)) (sym (playback_done ok once.there once.top once.divides k l before places))
      (step k (playback_at before t) (clocks_updated before.clocks dt) (chunks_run P step c m h p k (omega arith)))

  -- the mixer at a block's start, once its orders are read
  ordered : (b : ℕ) → MixerOk s (b * count) (mixer_ordered s b (mixer_at s b))
  ordered b = ordered_ok s (b * count) b (mixer_at s b) ok (blocks_ok s ok b)

  room : t < track_places
  room = lt_of_lt_of_le once.there ok.track_count

  -- ---- before the order

  plays : (b : ℕ) → b ≤ (order_line s i).block → playback_at (mixer_at s b) t ≡ playback_new
  unfolding mixer_at block_done upto
  plays zero l = playing_new ok once.there once.top
  plays (suc b) l =
      chunks_run (λ k p. p ≡ playback_new) (λ k p clocks e. ap (λ (x : PlaybackStateManager). (playback_update x dt clocks).manager) e ∙ playing_stays dt clocks) (b * count) (mixer_ordered s b (mixer_at s b)) (ordered b)
      (other_block ok once (λ (p : PlaybackStateManager). p ≡ playback_new) b (λ e. earlier b (order_line s i).block l e) (mixer_at s b) (plays b (omega arith))) count (le_refl count)

  -- ---- from the order on

  -- how it stands n chunks after the order
  abbrev After : ℕ → PlaybackStateManager → Type 0
  After n p = Stands (ended (over dt tween.duration) n) dt tween n p

  after_next : (n k : ℕ) (p : PlaybackStateManager) (clocks : Clocks) → After (n + k) p → After (n + suc k) (playback_update p dt clocks).manager
  unfolding tween_of
  after_next n k p clocks h = subst (λ (j : ℕ). After j (playback_update p dt clocks).manager) (sym (add-suc n k)) (stands_next dt tween once.start (n + k) p clocks h)

  first : After 0 (playback_at (mixer_ordered s (order_line s i).block (mixer_at s (order_line s i).block)) t)
  unfolding ended
  first =
      let b = (order_line s i).block in
      subst (After 0) (sym (own_block ok once room (mixer_at s b) (blocks_ok s ok b).track_places (plays b (le_refl b)))) (fading_starts dt tween)

  -- d blocks after the order's, once orders are read
  block_after : (d b : ℕ) → b ≡ (order_line s i).block + d → After (d * count) (playback_at (mixer_ordered s b (mixer_at s b)) t)
  unfolding mixer_at block_done upto
  block_after zero b e =
      subst (λ (n : ℕ). After n (playback_at (mixer_ordered s b (mixer_at s b)) t)) (no_chunk count)
      (subst (λ (n : ℕ). After 0 (playback_at (mixer_ordered s n (mixer_at s n)) t)) (own (order_line s i).block b e) first)
  block_after (suc d) zero e = absurd (omega arith)
  block_after (suc d) (suc b) e =
      other_block ok once (After (suc d * count)) (suc b) (λ h. later (order_line s i).block b d e h) (mixer_at s (suc b))
      (subst (λ (n : ℕ). After n (playback_at (mixer_at s (suc b)) t)) (next_block d count)
      (chunks_run (λ k p. After (d * count + k) p) (λ k p clocks h. after_next (d * count) k p clocks h) (b * count) (mixer_ordered s b (mixer_at s b)) (ordered b)
      (subst (λ (n : ℕ). After n (playback_at (mixer_ordered s b (mixer_at s b)) t)) (sym (add-zero (d * count))) (block_after d b (before (order_line s i).block b d e)))
      count (le_refl count)))

  -- chunk k of that block, once updated
  in_chunk_after : (d b k : ℕ) → b ≡ (order_line s i).block + d → k < count → After (d * count + suc k) (playback_at (mixer_in s b k) t)
  in_chunk_after d b k e l =
      let start = mixer_ordered s b (mixer_at s b) in
      let before = chunks_done s k start in
      let places = (chunks_ok s ok k (b * count) start (ordered b)).track_places in
      subst (After (d * count + suc k)) (sym (playback_in ok once.there once.top once.divides k l before places))
      (after_next (d * count) k (playback_at before t) (clocks_updated before.clocks dt)
      (chunks_run (λ j p. After (d * count + j) p) (λ j p clocks h. after_next (d * count) j p clocks h) (b * count) start (ordered b)
      (subst (λ (n : ℕ). After n (playback_at start t)) (sym (add-zero (d * count))) (block_after d b e)) k (omega arith)))

  -- chunk n from the order
  pub stands : (n b k : ℕ) → ChunkSince s i n b k → After n (playback_at (mixer_in s b k) t)
  stands n b k h =
      let a = (order_line s i).block in
      let late : a ≤ b = not_before a b count k n h.chunk h.first h.counted in
      subst (λ (j : ℕ). After j (playback_at (mixer_in s b k) t)) (since a b count k n late h.counted) (in_chunk_after (b - a) b k (apart a b late) h.chunk)
