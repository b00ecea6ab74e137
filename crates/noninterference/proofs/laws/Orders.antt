-- A block's orders change a mixer and the mixer of what is left alike: a removed order changes only lines that are removed. Assumes nothing.
use mathlib.Core.Path.{◌≡◌, refl, sym, ap, subst}
use mathlib.Core.Bool.{Bool, true, false, not, cond}
use mathlib.Core.List.{List}
use Prim.Native.Nat.{ℕ, ◌-◌, ◌<◌}
use lib.Dec.{T}
use lib.ListN.{set}
use Rattle.recordings.specs.Recordings.{Recordings}
use Rattle.limits.specs.Limits.{route_lines, track_places}
use Rattle.laws.specs.Loop.{upto}
use Rattle.laws.specs.Kept.{rank}
use Rattle.laws.proofs.laws.Kept.{upto_kept}
use Rattle.parameter.specs.declared.parameter.Parameter.{Parameter}
use Rattle.parameter.specs.Parameter.{parameter_set}
use Rattle.scene.specs.declared.scene.Scene.{Scene}
use Rattle.scene.specs.declared.scene.OrderLine.{OrderLine}
use Rattle.scene.specs.declared.scene.OrderKind.{OrderKind}
use Rattle.scene.specs.declared.scene.OrderKind.TheVariants.{MainVolume, TrackVolume, SendVolume, RouteVolume, Pause, Resume}
use Rattle.accepted.specs.Lines.{order_line}
use Rattle.accepted.specs.SceneOk.{Names, IndexOk, SceneOk}
use Rattle.mixer.specs.declared.sub.Track.{Track}
use Rattle.mixer.specs.declared.mixer.Mixer.{Mixer}
use Rattle.mixer.specs.Sub.{track_set, track_pause, track_resume}
use Rattle.mixer.specs.Mixer.{absent_parameter, state_of, parameter_of, absent_track}
use Rattle.order_lines.specs.Orders.{counts, tween_of, resume_tween_of}
use Rattle.mixer.specs.Orders.{ordered_by, resumed_by, order_step, resume_step, mixer_ordered, map_track, map_send, map_route, map_main}
use Rattle.noninterference.specs.Removed.{new_line}
use Rattle.noninterference.proofs.laws.Lines.{kept_line}
use Rattle.noninterference.proofs.laws.SceneLeft.{kept_route_line, kept_index, kept_order, new_index, SceneLeft}
use Rattle.noninterference.proofs.laws.Frames.{turn_kept}
use Rattle.noninterference.proofs.laws.Arrays.{line_set_kept, line_set_removed}
use Rattle.noninterference.proofs.laws.State.{MixerLeft}
use Rattle.noninterference.proofs.laws.Counts.{counts_same}

-- an order with another index
abbrev named : OrderLine → ℕ → OrderLine
named o index =
    record { block = o.block; kind = o.kind; index = index; target = o.target; start_time = o.start_time; millis = o.millis; easing = o.easing }

-- what an order of a kind does, where it counts
abbrev pub Acts : Type 0
Acts = OrderKind → OrderLine → Mixer → Mixer

unfoldable pub acted : Acts → Scene → ℕ → ℕ → Mixer → Mixer
acted act s block i m = cond (counts s.orders s.order_count block i) (act (order_line s i).kind (order_line s i) m) m

-- both passes are such loops
pub passes : (s : Scene) (block : ℕ) (m : Mixer) → mixer_ordered s block m ≡ upto (acted resumed_by s block) s.order_count (upto (acted ordered_by s block) s.order_count m)
unfolding mixer_ordered order_step resume_step acted
passes s block m = refl

-- ---- one line changed

module _ {keep chosen : ℕ → Bool} {s : Scene} (ok : SceneOk s) {m m' : Mixer} (h : MixerLeft keep chosen s m m') where
  track_kept : (line : ℕ) → Names s.track_count line → T (kept_line keep line) → (f : Track → Track) → MixerLeft keep chosen s (map_track line f m) (map_track (new_line keep line) f m')
  unfolding map_track
  track_kept line there t f =
      record {
        clocks = h.clocks;
        main = h.main;
        sends = h.sends;
        tracks = line_set_kept keep s.track_count track_places absent_track ok.track_count line there.0 there.1 t f h.tracks;
        routes = h.routes;
        played = h.played;
      }

  track_removed : (line : ℕ) → T (not (kept_line keep line)) → (f : Track → Track) → MixerLeft keep chosen s (map_track line f m) m'
  unfolding map_track
  track_removed line t f =
      record {
        clocks = h.clocks;
        main = h.main;
        sends = h.sends;
        tracks = line_set_removed keep s.track_count track_places absent_track ok.track_count line t (f (state_of m.tracks (line - 1))) h.tracks;
        routes = h.routes;
        played = h.played;
      }

  route_kept : (line : ℕ) → Names s.route_count line → T (kept_line (kept_route_line keep s) line) → (f : Parameter → Parameter)
      → MixerLeft keep chosen s (map_route line f m) (map_route (new_line (kept_route_line keep s) line) f m')
  unfolding map_route
  route_kept line there t f =
      record {
        clocks = h.clocks;
        main = h.main;
        sends = h.sends;
        tracks = h.tracks;
        routes = line_set_kept (kept_route_line keep s) s.route_count route_lines absent_parameter ok.route_count line there.0 there.1 t f h.routes;
        played = h.played;
      }

  route_removed : (line : ℕ) → T (not (kept_line (kept_route_line keep s) line)) → (f : Parameter → Parameter) → MixerLeft keep chosen s (map_route line f m) m'
  unfolding map_route
  route_removed line t f =
      record {
        clocks = h.clocks;
        main = h.main;
        sends = h.sends;
        tracks = h.tracks;
        routes = line_set_removed (kept_route_line keep s) s.route_count route_lines absent_parameter ok.route_count line t (f (parameter_of m.routes (line - 1))) h.routes;
        played = h.played;
      }

  send_kept : (line : ℕ) (f : Parameter → Parameter) → MixerLeft keep chosen s (map_send line f m) (map_send line f m')
  unfolding map_send
  send_kept line f =
      record {
        clocks = h.clocks;
        main = h.main;
        sends = ap (λ (l : List Parameter). set l (line - 1) (f (parameter_of l (line - 1)))) h.sends;
        tracks = h.tracks;
        routes = h.routes;
        played = h.played;
      }

  main_kept : (f : Parameter → Parameter) → MixerLeft keep chosen s (map_main f m) (map_main f m')
  unfolding map_main
  main_kept f = record { clocks = h.clocks; main = ap f h.main; sends = h.sends; tracks = h.tracks; routes = h.routes; played = h.played }

  -- ---- one order

  ordered_kept : (k : OrderKind) (o : OrderLine) → IndexOk s k o.index → T (kept_index keep s k o.index) → MixerLeft keep chosen s (ordered_by k o m) (ordered_by k (named o (new_index keep s k o.index)) m')
  unfolding ordered_by kept_index new_index tween_of
  ordered_kept MainVolume o i t = main_kept (λ p. parameter_set p o.target (tween_of o))
  ordered_kept TrackVolume o i t = track_kept o.index i t (λ x. track_set x o.target (tween_of o))
  ordered_kept SendVolume o i t = send_kept o.index (λ p. parameter_set p o.target (tween_of o))
  ordered_kept RouteVolume o i t = route_kept o.index i t (λ p. parameter_set p o.target (tween_of o))
  ordered_kept Pause o i t = track_kept o.index i t (λ x. track_pause x (tween_of o))
  ordered_kept Resume o i t = h

  ordered_removed : (k : OrderKind) (o : OrderLine) → T (not (kept_index keep s k o.index)) → MixerLeft keep chosen s (ordered_by k o m) m'
  unfolding ordered_by kept_index
  ordered_removed MainVolume o t = absurd t
  ordered_removed TrackVolume o t = track_removed o.index t (λ x. track_set x o.target (tween_of o))
  ordered_removed SendVolume o t = absurd t
  ordered_removed RouteVolume o t = route_removed o.index t (λ p. parameter_set p o.target (tween_of o))
  ordered_removed Pause o t = track_removed o.index t (λ x. track_pause x (tween_of o))
  ordered_removed Resume o t = h

  resumed_kept : (k : OrderKind) (o : OrderLine) → IndexOk s k o.index → T (kept_index keep s k o.index) → MixerLeft keep chosen s (resumed_by k o m) (resumed_by k (named o (new_index keep s k o.index)) m')
  unfolding resumed_by kept_index new_index resume_tween_of
  resumed_kept MainVolume o i t = h
  resumed_kept TrackVolume o i t = h
  resumed_kept SendVolume o i t = h
  resumed_kept RouteVolume o i t = h
  resumed_kept Pause o i t = h
  resumed_kept Resume o i t = track_kept o.index i t (λ x. track_resume x o.start_time (resume_tween_of o))

  resumed_removed : (k : OrderKind) (o : OrderLine) → T (not (kept_index keep s k o.index)) → MixerLeft keep chosen s (resumed_by k o m) m'
  unfolding resumed_by kept_index
  resumed_removed MainVolume o t = h
  resumed_removed TrackVolume o t = h
  resumed_removed SendVolume o t = h
  resumed_removed RouteVolume o t = h
  resumed_removed Pause o t = h
  resumed_removed Resume o t = track_removed o.index t (λ x. track_resume x o.start_time (resume_tween_of o))

-- ---- all orders

picked_or_not : {X Y : Type 0} (R : X → Y → Type 0) (b : Bool) {u x : X} {y : Y} → R u y → R x y → R (cond b u x) y
picked_or_not R true p q = p
picked_or_not R false p q = q

module _ {keep chosen quiet : ℕ → Bool} {s : Scene} {samples : Recordings} {e : Scene} {samples' : Recordings} (ok : SceneOk s) (w : SceneLeft keep chosen quiet s samples e samples') where
  abbrev Left : Mixer → Mixer → Type 0
  Left m m' = MixerLeft keep chosen s m m'

  module _ (act : Acts)
      (kept : (m m' : Mixer) → Left m m' → (k : OrderKind) (o : OrderLine) → IndexOk s k o.index → T (kept_index keep s k o.index) → Left (act k o m) (act k (named o (new_index keep s k o.index)) m'))
      (removed : (m m' : Mixer) → Left m m' → (k : OrderKind) (o : OrderLine) → T (not (kept_index keep s k o.index)) → Left (act k o m) m') (block : ℕ) where
    acted_kept : (i : ℕ) → i < s.order_count → T (kept_order keep s i) → (m m' : Mixer) → Left m m' → Left (acted act s block i m) (acted act e block (rank (kept_order keep s) i) m')
    unfolding acted
    acted_kept i b t m m' h =
        turn_kept Left (counts s.orders s.order_count block i) (counts e.orders e.order_count block (rank (kept_order keep s) i)) (counts_same w i b t block) h
        (λ c.
        subst (λ (o : OrderLine). Left (act (order_line s i).kind (order_line s i) m) (act o.kind o m')) (sym (w.orders i b t))
        (kept m m' h (order_line s i).kind (order_line s i) (ok.orders i b).index t))

    acted_removed : (i : ℕ) → T (not (kept_order keep s i)) → (m m' : Mixer) → Left m m' → Left (acted act s block i m) m'
    unfolding acted
    acted_removed i t m m' h = picked_or_not Left (counts s.orders s.order_count block i) (removed m m' h (order_line s i).kind (order_line s i) t) h

    pass_left : {m m' : Mixer} → Left m m' → Left (upto (acted act s block) s.order_count m) (upto (acted act e block) e.order_count m')
    pass_left {m} {m'} h =
        subst (λ (n : ℕ). Left (upto (acted act s block) s.order_count m) (upto (acted act e block) n m')) (sym w.order_count)
        (upto_kept (λ i. Left) (kept_order keep s) (acted act s block) (acted act e block) s.order_count m m' (λ i b t x y r. acted_kept i b t x y r) (λ i b t x y r. acted_removed i t x y r) h)

  pub ordered_left : (block : ℕ) {m m' : Mixer} → Left m m' → Left (mixer_ordered s block m) (mixer_ordered e block m')
  ordered_left block {m} {m'} h =
      subst (λ (x : Mixer). Left x (mixer_ordered e block m')) (sym (passes s block m))
      (subst (λ (x : Mixer). Left (upto (acted resumed_by s block) s.order_count (upto (acted ordered_by s block) s.order_count m)) x) (sym (passes e block m'))
      (pass_left resumed_by (λ x y r. resumed_kept ok r) (λ x y r. resumed_removed ok r) block (pass_left ordered_by (λ x y r. ordered_kept ok r) (λ x y r. ordered_removed ok r) block h)))
