-- What orders do to the one track: the pause's block pauses it, and no other block's orders touch its playback. Assumes nothing.
use mathlib.Core.Path.{◌≡◌, sym, ap, ◌∙◌, subst}
use mathlib.Core.Logic.{◌≢◌, inl, inr}
use Prim.Native.Nat.{ℕ, suc, ◌≤◌, ◌<◌}
use native.Mathlib.Nat.{eq-or-lt_of_le}
use native.Mathlib.Omega.{arith}
use lib.Dec.{T}
use lib.ListN.{length}
use Rattle.limits.specs.Limits.{track_places}
use Rattle.laws.proofs.laws.Choice.{cond-true}
use Rattle.laws.specs.Loop.{upto}
use Rattle.laws.proofs.laws.Loop.{upto_holds}
use Rattle.tween.specs.declared.tween.Tween.{Tween}
use Rattle.playback.specs.declared.playback_state_manager.PlaybackStateManager.{PlaybackStateManager}
use Rattle.playback.specs.PlaybackStateManager.{playback_new, playback_pause}
use Rattle.scene.specs.declared.scene.Scene.{Scene}
use Rattle.scene.specs.declared.scene.OrderKind.{OrderKind}
use Rattle.accepted.specs.Lines.{order_line}
use Rattle.accepted.specs.SceneOk.{SceneOk}
use Rattle.mixer.specs.declared.sub.Track.{Track}
use Rattle.mixer.specs.declared.mixer.Mixer.{Mixer}
use Rattle.mixer.specs.Sub.{track_set, track_pause}
use Rattle.mixer.specs.Mixer.{state_of}
use Rattle.order_lines.specs.Orders.{counts, tween_of}
use Rattle.order_lines.proofs.laws.Orders.{of_block}
use Rattle.mixer.specs.Orders.{ordered_by, resumed_by, mixer_ordered, map_track}
use Rattle.noninterference.proofs.laws.Orders.{acted, passes}
use Rattle.noninterference.proofs.laws.SilentOrders.{ordered_holds, resumed_holds, acted_holds, passes_hold}
use Rattle.noninterference.proofs.laws.Held.{ordered_length, line_changed}
use Rattle.pause_end.specs.PauseEnd.{PausedOnce}
use Rattle.pause_end.proofs.laws.Counts.{pause_counts}

-- a track's playback
abbrev pub playback_at : Mixer → ℕ → PlaybackStateManager
playback_at m t = (state_of m.tracks t).playback

module _ {s : Scene} {t i : ℕ} (ok : SceneOk s) (once : PausedOnce s t i) where
  -- ---- orders that leave it

  other_order : (Q : PlaybackStateManager → Type 0) (block j : ℕ) → j < s.order_count → (T (counts s.orders s.order_count block j) → j ≢ i) → (m : Mixer) → Q (playback_at m t)
      → Q (playback_at (acted ordered_by s block j m) t)
  unfolding track_set
  other_order Q block j b other m q =
      acted_holds (λ (x : Mixer). Q (playback_at x t)) ordered_by s block j m q
      (λ c. ordered_holds (λ (x : Track). Q x.playback) t m q s (order_line s j).kind (order_line s j) (ok.orders j b).index (λ k e. q) (λ k e. absurd (other c (once.only j b k e))))

  no_resume : (Q : PlaybackStateManager → Type 0) (block j : ℕ) → j < s.order_count → (m : Mixer) → Q (playback_at m t) → Q (playback_at (acted resumed_by s block j m) t)
  no_resume Q block j b m q =
      acted_holds (λ (x : Mixer). Q (playback_at x t)) resumed_by s block j m q
      (λ c. resumed_holds (λ (x : Track). Q x.playback) t m q s (order_line s j).kind (order_line s j) (ok.orders j b).index (λ k e. absurd (once.not_resumed j b k e)))

  -- another block's
  pub other_block : (Q : PlaybackStateManager → Type 0) (block : ℕ) → block ≢ (order_line s i).block → (m : Mixer) → Q (playback_at m t) → Q (playback_at (mixer_ordered s block m) t)
  other_block Q block other m q =
      passes_hold (λ (x : Track). Q x.playback) t s block m (λ j b x p. other_order Q block j b (λ c e. other (sym (of_block s block j c) ∙ ap (λ (n : ℕ). (order_line s n).block) e)) x p) (λ j b x p. no_resume Q block j b x p) q

  -- ---- the pause

  abbrev tween : Tween
  tween = tween_of (order_line s i)

  abbrev block : ℕ
  block = (order_line s i).block

  paused_by : (m : Mixer) → acted ordered_by s block i m ≡ map_track (suc t) (λ x. track_pause x tween) m
  unfolding acted ordered_by
  paused_by m =
      let o = order_line s i in
      cond-true (counts s.orders s.order_count block i) (ordered_by o.kind o m) m (pause_counts once)
      ∙ ap (λ (k : OrderKind). ordered_by k o m) once.pause
      ∙ ap (λ (n : ℕ). map_track n (λ x. track_pause x tween) m) once.index

  paused : (m : Mixer) → t < length m.tracks → playback_at m t ≡ playback_new → playback_at (acted ordered_by s block i m) t ≡ playback_pause playback_new tween
  unfolding track_pause
  paused m room e =
      ap (λ (x : Mixer). playback_at x t) (paused_by m) ∙ ap (λ (x : Track). x.playback) (line_changed t (λ x. track_pause x tween) m room)
      ∙ ap (λ (p : PlaybackStateManager). playback_pause p tween) e

  record Pass (j : ℕ) (m : Mixer) : Type 0 where
    places : length m.tracks ≡ track_places
    before : j ≤ i → playback_at m t ≡ playback_new
    after : i < j → playback_at m t ≡ playback_pause playback_new tween

  pass : t < track_places → (j : ℕ) → j < s.order_count → (m : Mixer) → Pass j m → Pass (suc j) (acted ordered_by s block j m)
  pass room j b m r =
      record {
        places = acted_holds (λ (x : Mixer). length x.tracks ≡ track_places) ordered_by s block j m r.places (λ c. ordered_length (order_line s j).kind (order_line s j) m ∙ r.places);
        before = λ h. other_order (λ (p : PlaybackStateManager). p ≡ playback_new) block j b (λ c e. earlier j i h e) m (r.before (omega arith));
        after = λ h. elim (eq-or-lt_of_le h) [
          | inl e ↦ subst (λ (k : ℕ). playback_at (acted ordered_by s block k m) t ≡ playback_pause playback_new tween) (same i j e)
              (paused m (subst (λ (n : ℕ). t < n) (sym r.places) room) (r.before (no_later i j e)))
          | inr k ↦ other_order (λ (p : PlaybackStateManager). p ≡ playback_pause playback_new tween) block j b (λ c e. later j i k e) m (r.after (omega arith))
        ];
      }
    where
      earlier : (j l : ℕ) → suc j ≤ l → j ≡ l → ⊥
      earlier j l h e = omega arith

      later : (j l : ℕ) → suc l < suc j → j ≡ l → ⊥
      later j l h e = omega arith

      same : (l j : ℕ) → suc l ≡ suc j → l ≡ j
      same l j e = omega arith

      no_later : (l j : ℕ) → suc l ≡ suc j → j ≤ l
      no_later l j e = omega arith

  pub own_block : t < track_places → (m : Mixer) → length m.tracks ≡ track_places → playback_at m t ≡ playback_new → playback_at (mixer_ordered s block m) t ≡ playback_pause playback_new tween
  own_block room m e p =
      let Q : PlaybackStateManager → Type 0 = λ (x : PlaybackStateManager). x ≡ playback_pause playback_new tween in
      subst (λ (x : Mixer). Q (playback_at x t)) (sym (passes s block m))
      (upto_holds (λ j x. Q (playback_at x t)) (acted resumed_by s block) s.order_count (upto (acted ordered_by s block) s.order_count m)
      ((upto_holds Pass (acted ordered_by s block) s.order_count m (record { places = e; before = λ h. p; after = λ h. absurd (omega arith) }) (λ j b x r. pass room j b x r)).after once.ordered)
      (λ j b x q. no_resume Q block j b x q))
