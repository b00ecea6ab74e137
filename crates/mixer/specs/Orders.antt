-- `on_start_processing`: what the orders of a block do to a mixer, at the block's start.
use Rattle.std.specs.Prelude.{cond, ℕ, ◌-◌, set}
use Rattle.laws.specs.Loop.{upto}
use Rattle.parameter.specs.declared.parameter.Parameter.{Parameter}
use Rattle.parameter.specs.Parameter.{parameter_set}
use Rattle.scene.specs.declared.scene.Scene.{Scene}
use Rattle.scene.specs.declared.scene.OrderLine.{OrderLine}
use Rattle.scene.specs.declared.scene.OrderKind.{OrderKind}
use Rattle.scene.specs.declared.scene.OrderKind.TheVariants.{MainVolume, TrackVolume, SendVolume, RouteVolume, Pause, Resume}
use Rattle.mixer.specs.declared.sub.Track.{Track}
use Rattle.mixer.specs.declared.mixer.Mixer.{Mixer}
use Rattle.mixer.specs.Sub.{track_set, track_pause, track_resume}
use Rattle.accepted.specs.Lines.{order_line}
use Rattle.mixer.specs.Mixer.{mixer_of, state_of, parameter_of}
use Rattle.order_lines.specs.Orders.{tween_of, resume_tween_of, counts}

unfoldable pub map_track : ℕ → (Track → Track) → Mixer → Mixer
map_track line f m =
    mixer_of m.clocks m.main_volume (set m.tracks (line - 1) (f (state_of m.tracks (line - 1)))) m.sends m.routes m.played

unfoldable pub map_send : ℕ → (Parameter → Parameter) → Mixer → Mixer
map_send line f m =
    mixer_of m.clocks m.main_volume m.tracks (set m.sends (line - 1) (f (parameter_of m.sends (line - 1)))) m.routes m.played

unfoldable pub map_route : ℕ → (Parameter → Parameter) → Mixer → Mixer
map_route line f m =
    mixer_of m.clocks m.main_volume m.tracks m.sends (set m.routes (line - 1) (f (parameter_of m.routes (line - 1)))) m.played

unfoldable pub map_main : (Parameter → Parameter) → Mixer → Mixer
map_main f m =
    mixer_of m.clocks (f m.main_volume) m.tracks m.sends m.routes m.played

-- volumes and pauses
unfoldable pub ordered_by : OrderKind → OrderLine → Mixer → Mixer
ordered_by MainVolume o m = map_main (λ p. parameter_set p o.target (tween_of o)) m
ordered_by TrackVolume o m = map_track o.index (λ t. track_set t o.target (tween_of o)) m
ordered_by SendVolume o m = map_send o.index (λ p. parameter_set p o.target (tween_of o)) m
ordered_by RouteVolume o m = map_route o.index (λ p. parameter_set p o.target (tween_of o)) m
ordered_by Pause o m = map_track o.index (λ t. track_pause t (tween_of o)) m
ordered_by Resume o m = m

-- resumes
unfoldable pub resumed_by : OrderKind → OrderLine → Mixer → Mixer
resumed_by MainVolume o m = m
resumed_by TrackVolume o m = m
resumed_by SendVolume o m = m
resumed_by RouteVolume o m = m
resumed_by Pause o m = m
resumed_by Resume o m = map_track o.index (λ t. track_resume t o.start_time (resume_tween_of o)) m

-- ---- a block's orders. A track reads volume, routes, pause, then resume (`read_commands`): so resumes come after all others.

unfoldable pub order_step : Scene → ℕ → ℕ → Mixer → Mixer
order_step s block i m = cond (counts s.orders s.order_count block i) (ordered_by (order_line s i).kind (order_line s i) m) m

unfoldable pub resume_step : Scene → ℕ → ℕ → Mixer → Mixer
resume_step s block i m = cond (counts s.orders s.order_count block i) (resumed_by (order_line s i).kind (order_line s i) m) m

unfoldable pub mixer_ordered : Scene → ℕ → Mixer → Mixer
mixer_ordered s block m = upto (resume_step s block) s.order_count (upto (order_step s block) s.order_count m)
