-- A held track: one order of block 0 pauses it at once, and no other order pauses or resumes it. Assumes nothing.
use mathlib.Core.Path.{◌≡◌, refl, sym, ap, ◌∙◌, subst}
use mathlib.Core.Logic.{◌≢◌, inl, inr}
use Prim.Native.Nat.{ℕ, suc, ◌-◌, ◌≤◌, ◌<◌}
use native.Mathlib.Nat.{eq-or-lt_of_le, le_of_eq}
use native.Mathlib.Omega.{arith}
use lib.Dec.{T}
use lib.ListN.{length, set, length-set}
use lib.Seq.{get_or-set_same}
use Rattle.limits.specs.Limits.{track_places}
use Rattle.laws.proofs.laws.Choice.{cond-true}
use Rattle.laws.specs.Loop.{upto}
use Rattle.laws.proofs.laws.Loop.{upto_holds}
use Rattle.playback.specs.declared.playback_state_manager.PlaybackStateManager.{PlaybackStateManager}
use Rattle.playback.specs.PlaybackStateManager.{is_stopped, playback_new, playback_pause}
use Rattle.playback.proofs.laws.PlaybackStateManager.{paused_at_once}
use Rattle.scene.specs.declared.scene.Scene.{Scene}
use Rattle.scene.specs.declared.scene.OrderLine.{OrderLine}
use Rattle.scene.specs.declared.scene.OrderKind.{OrderKind}
use Rattle.scene.specs.declared.scene.OrderKind.TheVariants.{MainVolume, TrackVolume, SendVolume, RouteVolume, Pause, Resume}
use Rattle.accepted.specs.Lines.{order_line}
use Rattle.accepted.specs.SceneOk.{SceneOk}
use Rattle.mixer.specs.declared.sub.Track.{Track}
use Rattle.mixer.specs.declared.mixer.Mixer.{Mixer}
use Rattle.mixer.specs.Sub.{track_set, track_pause}
use Rattle.mixer.specs.Mixer.{state_of, absent_track}
use Rattle.order_lines.specs.Orders.{kind_number, is_kind_for, counts, tween_of}
use Rattle.order_lines.proofs.laws.Orders.{kind_for_kind, kind_for_index, of_block, pause_counts}
use Rattle.mixer.specs.Orders.{ordered_by, resumed_by, mixer_ordered, map_track, map_send, map_route, map_main}
use Rattle.noninterference.proofs.laws.SceneLeft.{HeldTrack}
use Rattle.noninterference.proofs.laws.Arrays.{line_of}
use Rattle.noninterference.proofs.laws.Orders.{acted, passes}
use Rattle.noninterference.proofs.laws.SilentMoves.{Holds}
use Rattle.noninterference.proofs.laws.SilentOrders.{ordered_holds, resumed_holds, acted_holds, passes_hold}

abbrev state_at : Mixer → ℕ → Track
state_at m t = state_of m.tracks t

pauses_not : (k : OrderKind) → k ≡ Pause → k ≡ Resume → ⊥
unfolding kind_number
pauses_not k p q = let z : ◌≡◌ {A = ℕ} 4 5 = sym (ap kind_number p) ∙ ap kind_number q in omega arith

-- orders change no array's length
pub ordered_length : (k : OrderKind) (o : OrderLine) (m : Mixer) → length (ordered_by k o m).tracks ≡ length m.tracks
unfolding ordered_by map_track map_send map_route map_main
ordered_length MainVolume o m = refl
ordered_length TrackVolume o m = length-set m.tracks (o.index - 1) (track_set (state_of m.tracks (o.index - 1)) o.target (tween_of o))
ordered_length SendVolume o m = refl
ordered_length RouteVolume o m = refl
ordered_length Pause o m = length-set m.tracks (o.index - 1) (track_pause (state_of m.tracks (o.index - 1)) (tween_of o))
ordered_length Resume o m = refl

-- a track that an order names
pub line_changed : (t : ℕ) (f : Track → Track) (m : Mixer) → t < length m.tracks → state_at (map_track (suc t) f m) t ≡ f (state_at m t)
unfolding map_track
line_changed t f m b =
    ap (λ (k : ℕ). state_of (set m.tracks k (f (state_of m.tracks k))) t) (line_of t) ∙ get_or-set_same m.tracks t (f (state_of m.tracks t)) absent_track b

module _ {s : Scene} {t : ℕ} (ok : SceneOk s) (held : HeldTrack s t) where
  -- an order on another line leaves the track's playback
  other_order : (Q : PlaybackStateManager → Type 0) (block i : ℕ) → i < s.order_count → (T (counts s.orders s.order_count block i) → i ≢ held.line) → (m : Mixer) → Q (state_at m t).playback
      → Q (state_at (acted ordered_by s block i m) t).playback
  unfolding track_set
  other_order Q block i b h m q =
      acted_holds (λ (x : Mixer). Q (state_at x t).playback) ordered_by s block i m q
      (λ c. ordered_holds (λ (x : Track). Q x.playback) t m q s (order_line s i).kind (order_line s i) (ok.orders i b).index (λ k e. q) (λ k e. absurd (h c (held.only i b (inl k) e))))

  no_resume : (Q : PlaybackStateManager → Type 0) (block i : ℕ) → i < s.order_count → (m : Mixer) → Q (state_at m t).playback → Q (state_at (acted resumed_by s block i m) t).playback
  no_resume Q block i b m q =
      acted_holds (λ (x : Mixer). Q (state_at x t).playback) resumed_by s block i m q
      (λ c. resumed_holds (λ (x : Track). Q x.playback) t m q s (order_line s i).kind (order_line s i) (ok.orders i b).index
      (λ k e. absurd (pauses_not (order_line s i).kind (subst (λ (j : ℕ). (order_line s j).kind ≡ Pause) (sym (held.only i b (inr k) e)) held.pause) k)))

  -- ---- later blocks

  not_now : (block i : ℕ) → T (counts s.orders s.order_count (suc block) i) → i ≢ held.line
  not_now block i c e = let z : ◌≡◌ {A = ℕ} 0 (suc block) = sym held.block ∙ ap (λ (j : ℕ). (order_line s j).block) (sym e) ∙ of_block s (suc block) i c in omega arith

  pub held_later : (block : ℕ) (m : Mixer) → Holds (state_at m t).playback → Holds (state_at (mixer_ordered s (suc block) m) t).playback
  held_later block m p =
      passes_hold (λ (x : Track). Holds x.playback) t s (suc block) m (λ i b x q. other_order Holds (suc block) i b (not_now block i) x q) (λ i b x q. no_resume Holds (suc block) i b x q) p

  -- ---- block 0: the pause counts, as it is the only one

  only_pause : (j : ℕ) → j < s.order_count → T (is_kind_for Pause (order_line s held.line) (order_line s j)) → j ≤ held.line
  only_pause j b t =
      let o = order_line s held.line in
      let p = order_line s j in
      le_of_eq (held.only j b (inl (kind_for_kind Pause o p t)) (kind_for_index Pause o p t ∙ held.index))

  pause_done : (m : Mixer) → t < length m.tracks → acted ordered_by s 0 held.line m ≡ map_track (suc t) (λ x. track_pause x (tween_of (order_line s held.line))) m
  unfolding acted ordered_by
  pause_done m b =
      let o = order_line s held.line in
      cond-true (counts s.orders s.order_count 0 held.line) (ordered_by o.kind o m) m
      (pause_counts s.orders s.order_count held.line 0 held.pause held.block only_pause)
      ∙ ap (λ (k : OrderKind). ordered_by k o m) held.pause
      ∙ ap (λ (n : ℕ). map_track n (λ x. track_pause x (tween_of o)) m) held.index

  pause_holds : (m : Mixer) → t < length m.tracks → (state_at m t).playback ≡ playback_new → Holds (state_at (acted ordered_by s 0 held.line m) t).playback
  unfolding track_pause playback_new is_stopped tween_of
  pause_holds m b e =
      let tween = tween_of (order_line s held.line) in
      subst Holds
      (sym (ap (λ (x : Mixer). (state_at x t).playback) (pause_done m b) ∙ ap (λ (x : Track). x.playback) (line_changed t (λ x. track_pause x tween) m b) ∙ ap (λ (p : PlaybackStateManager). playback_pause p tween) e))
      (λ dt clocks u. paused_at_once playback_new tween dt clocks refl held.start held.millis u)

  record Pass (i : ℕ) (m : Mixer) : Type 0 where
    places : length m.tracks ≡ track_places
    before : i ≤ held.line → (state_at m t).playback ≡ playback_new
    after : held.line < i → Holds (state_at m t).playback

  pass : t < track_places → (i : ℕ) → i < s.order_count → (m : Mixer) → Pass i m → Pass (suc i) (acted ordered_by s 0 i m)
  pass room i b m r =
      record {
        places = acted_holds (λ (x : Mixer). length x.tracks ≡ track_places) ordered_by s 0 i m r.places (λ c. ordered_length (order_line s i).kind (order_line s i) m ∙ r.places);
        before = λ h. other_order (λ (p : PlaybackStateManager). p ≡ playback_new) 0 i b (λ c e. earlier i held.line h e) m (r.before (omega arith));
        after = λ h. elim (eq-or-lt_of_le h) [
          | inl e ↦ subst (λ (k : ℕ). Holds (state_at (acted ordered_by s 0 k m) t).playback) (same held.line i e)
              (pause_holds m (subst (λ (n : ℕ). t < n) (sym r.places) room) (r.before (no_later held.line i e)))
          | inr k ↦ other_order Holds 0 i b (λ c e. later i held.line k e) m (r.after (omega arith))
        ];
      }
    where
      earlier : (i l : ℕ) → suc i ≤ l → i ≡ l → ⊥
      earlier i l h e = omega arith

      later : (i l : ℕ) → suc l < suc i → i ≡ l → ⊥
      later i l h e = omega arith

      same : (l i : ℕ) → suc l ≡ suc i → l ≡ i
      same l i e = omega arith

      no_later : (l i : ℕ) → suc l ≡ suc i → i ≤ l
      no_later l i e = omega arith

  pub held_first : t < track_places → (m : Mixer) → length m.tracks ≡ track_places → (state_at m t).playback ≡ playback_new → Holds (state_at (mixer_ordered s 0 m) t).playback
  held_first room m e p =
      subst (λ (x : Mixer). Holds (state_at x t).playback) (sym (passes s 0 m))
      (upto_holds (λ i x. Holds (state_at x t).playback) (acted resumed_by s 0) s.order_count (upto (acted ordered_by s 0) s.order_count m)
      ((upto_holds Pass (acted ordered_by s 0) s.order_count m (record { places = e; before = λ h. p; after = λ h. absurd (omega arith) }) (λ i b x r. pass room i b x r)).after held.there)
      (λ i b x q. no_resume Holds 0 i b x q))
