-- Orders: each keeps every value in its range. Assumes nothing.
use mathlib.Core.Bool.{Bool, true, false, cond}
use mathlib.Core.List.{List}
use Prim.Native.Nat.{ℕ, ◌-◌}
use native.Mathlib.Nat.{lt_of_le_of_lt}
use lib.Dec.{lit<}
use lib.ListN.{set}
use Rattle.limits.specs.Limits.{send_lines, route_lines}
use Rattle.laws.specs.Loop.{upto}
use Rattle.laws.proofs.laws.Loop.{upto_holds}
use Rattle.parameter.specs.declared.parameter.Parameter.{Parameter}
use Rattle.parameter.specs.Parameter.{parameter_set}
use Rattle.parameter.specs.Range.{ParameterIn, value_range, Short}
use Rattle.parameter.proofs.laws.Parameter.{set_in}
use Rattle.playback.proofs.laws.PlaybackStateManager.{pause_runs, resume_runs}
use Rattle.scene.specs.declared.scene.Scene.{Scene}
use Rattle.scene.specs.declared.scene.OrderLine.{OrderLine}
use Rattle.scene.specs.declared.scene.OrderKind.{OrderKind}
use Rattle.scene.specs.declared.scene.OrderKind.TheVariants.{MainVolume, TrackVolume, SendVolume, RouteVolume, Pause, Resume}
use Rattle.accepted.specs.Lines.{order_line}
use Rattle.accepted.specs.SceneOk.{SceneOk, OrderOk}
use Rattle.mixer.specs.declared.sub.Track.{Track}
use Rattle.mixer.specs.declared.mixer.Mixer.{Mixer}
use Rattle.mixer.specs.Sub.{track_set, track_pause, track_resume}
use Rattle.mixer.specs.Mixer.{state_of, parameter_of}
use Rattle.order_lines.specs.Orders.{counts, tween_of, resume_tween_of}
use Rattle.mixer.specs.Orders.{ordered_by, resumed_by, order_step, resume_step, mixer_ordered, map_track, map_send, map_route, map_main}
use Rattle.mixer.specs.MixerOk.{TrackOk, MixerOk}
use Rattle.mixer_laws.proofs.laws.Arrays.{set_array}
use Rattle.mixer_laws.proofs.laws.States.{ParametersOk, tracks_of, sends_of, routes_of, played_of, mixer_ok}

-- ---- one value changed, by a step that keeps its range

abbrev Keeps : (Parameter → Parameter) → Type 0
Keeps f = (p : Parameter) → ParameterIn value_range p → ParameterIn value_range (f p)

abbrev KeepsTrack : ℕ → (Track → Track) → Type 0
KeepsTrack clocks f = (t : Track) → TrackOk clocks t → TrackOk clocks (f t)

parameter_set_ok : (count size : ℕ) (l : List Parameter) (i : ℕ) (f : Parameter → Parameter) → ParametersOk count size l → Keeps f → ParametersOk count size (set l i (f (parameter_of l i)))
parameter_set_ok count size l i f h keeps = set_array l i (f (parameter_of l i)) h (λ b. keeps (parameter_of l i) (h.each i b))

module _ (s : Scene) (c : ℕ) (m : Mixer) (h : MixerOk s c m) where
  with_main_ok : (f : Parameter → Parameter) → Keeps f → MixerOk s c (map_main f m)
  unfolding map_main
  with_main_ok f keeps = mixer_ok s c (map_main f m) h.clock_count h.clocks (keeps m.main_volume h.main) (tracks_of s c m h) (sends_of s c m h) (routes_of s c m h) (played_of s c m h)

  with_track_ok : (line : ℕ) (f : Track → Track) → KeepsTrack s.clock_count f → MixerOk s c (map_track line f m)
  unfolding map_track
  with_track_ok line f keeps =
      let old = state_of m.tracks (line - 1) in
      mixer_ok s c (map_track line f m) h.clock_count h.clocks h.main (set_array m.tracks (line - 1) (f old) (tracks_of s c m h) (λ b. keeps old (h.tracks (line - 1) b)))
      (sends_of s c m h) (routes_of s c m h) (played_of s c m h)

  with_send_ok : (line : ℕ) (f : Parameter → Parameter) → Keeps f → MixerOk s c (map_send line f m)
  unfolding map_send
  with_send_ok line f keeps =
      mixer_ok s c (map_send line f m) h.clock_count h.clocks h.main (tracks_of s c m h) (parameter_set_ok s.send_count send_lines m.sends (line - 1) f (sends_of s c m h) keeps)
      (routes_of s c m h) (played_of s c m h)

  with_route_ok : (line : ℕ) (f : Parameter → Parameter) → Keeps f → MixerOk s c (map_route line f m)
  unfolding map_route
  with_route_ok line f keeps =
      mixer_ok s c (map_route line f m) h.clock_count h.clocks h.main (tracks_of s c m h) (sends_of s c m h)
      (parameter_set_ok s.route_count route_lines m.routes (line - 1) f (routes_of s c m h) keeps) (played_of s c m h)

-- ---- one order

module _ (s : Scene) (o : OrderLine) (ok : OrderOk s o) where
  short : Short (tween_of o)
  unfolding tween_of
  short = lt_of_le_of_lt ok.millis (lit< tt)

  resume_short : Short (resume_tween_of o)
  unfolding resume_tween_of
  resume_short = lt_of_le_of_lt ok.millis (lit< tt)

  set_ok : Keeps (λ p. parameter_set p o.target (tween_of o))
  set_ok p h = set_in value_range p o.target (tween_of o) h ok.target short

  track_set_ok : KeepsTrack s.clock_count (λ t. track_set t o.target (tween_of o))
  unfolding track_set
  track_set_ok t h = record { volume = set_ok t.volume h.volume; playback = h.playback }

  track_pause_ok : KeepsTrack s.clock_count (λ t. track_pause t (tween_of o))
  unfolding track_pause
  track_pause_ok t h = record { volume = h.volume; playback = pause_runs s.clock_count t.playback (tween_of o) short h.playback }

  track_resume_ok : KeepsTrack s.clock_count (λ t. track_resume t o.start_time (resume_tween_of o))
  unfolding track_resume
  track_resume_ok t h = record { volume = h.volume; playback = resume_runs s.clock_count t.playback o.start_time (resume_tween_of o) ok.start resume_short h.playback }

  module _ (c : ℕ) (m : Mixer) (h : MixerOk s c m) where
    ordered_by_ok : (k : OrderKind) → MixerOk s c (ordered_by k o m)
    unfolding ordered_by
    ordered_by_ok MainVolume = with_main_ok s c m h (λ p. parameter_set p o.target (tween_of o)) set_ok
    ordered_by_ok TrackVolume = with_track_ok s c m h o.index (λ t. track_set t o.target (tween_of o)) track_set_ok
    ordered_by_ok SendVolume = with_send_ok s c m h o.index (λ p. parameter_set p o.target (tween_of o)) set_ok
    ordered_by_ok RouteVolume = with_route_ok s c m h o.index (λ p. parameter_set p o.target (tween_of o)) set_ok
    ordered_by_ok Pause = with_track_ok s c m h o.index (λ t. track_pause t (tween_of o)) track_pause_ok
    ordered_by_ok Resume = h

    resumed_by_ok : (k : OrderKind) → MixerOk s c (resumed_by k o m)
    unfolding resumed_by
    resumed_by_ok MainVolume = h
    resumed_by_ok TrackVolume = h
    resumed_by_ok SendVolume = h
    resumed_by_ok RouteVolume = h
    resumed_by_ok Pause = h
    resumed_by_ok Resume = with_track_ok s c m h o.index (λ t. track_resume t o.start_time (resume_tween_of o)) track_resume_ok

-- ---- a block's orders

either : (s : Scene) (c : ℕ) (b : Bool) (x y : Mixer) → MixerOk s c x → MixerOk s c y → MixerOk s c (cond b x y)
either s c true x y h k = h
either s c false x y h k = k

pub ordered_ok : (s : Scene) (c block : ℕ) (m : Mixer) → SceneOk s → MixerOk s c m → MixerOk s c (mixer_ordered s block m)
unfolding mixer_ordered order_step resume_step
ordered_ok s c block m ok h =
    upto_holds (λ i x. MixerOk s c x) (resume_step s block) s.order_count (upto (order_step s block) s.order_count m)
    (upto_holds (λ i x. MixerOk s c x) (order_step s block) s.order_count m h
    (λ i b x k. either s c (counts s.orders s.order_count block i) (ordered_by (order_line s i).kind (order_line s i) x) x (ordered_by_ok s (order_line s i) (ok.orders i b) c x k (order_line s i).kind) k))
    (λ i b x k. either s c (counts s.orders s.order_count block i) (resumed_by (order_line s i).kind (order_line s i) x) x (resumed_by_ok s (order_line s i) (ok.orders i b) c x k (order_line s i).kind) k)
