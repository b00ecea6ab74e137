-- When a mixer stands still for a block: an update changes nothing of it but its clocks, and how long it still waits.
use Rattle.std.specs.Prelude.{Bool, true, false, not, cond, ◌&&◌, List, ℕ, eqb, ltb, length, get_or}
use Rattle.std.specs.Bool.{beq}
use Rattle.std.specs.Float.{binary32}
use Rattle.std.specs.Float.Ieee.{to_bits}
use Rattle.decibels.specs.declared.decibels.Decibels.{Decibels}
use Rattle.tween.specs.declared.start_time.StartTime.{StartTime}
use Rattle.tween.specs.declared.start_time.StartTime.TheVariants.{Immediate, Delayed, ClockTime}
use Rattle.parameter.specs.declared.parameter.ParameterState.{ParameterState}
use Rattle.parameter.specs.declared.parameter.ParameterState.TheVariants.{Idle, Tweening}
use Rattle.parameter.specs.declared.parameter.Parameter.{Parameter}
use Rattle.playback.specs.declared.playback_state_manager.PlaybackState.{PlaybackState}
use Rattle.playback.specs.declared.playback_state_manager.PlaybackState.TheVariants.{Playing, Pausing, Paused, WaitingToResume, Resuming, Stopping, Stopped}
use Rattle.playback.specs.PlaybackStateManager.{is_advancing}
use Rattle.mixer.specs.declared.sub.Track.{Track}

-- ---- how far is looked ahead

pub record Ahead : Type 0 where
  -- whether anything may wait
  pub waits : Bool
  -- the block's nanoseconds
  pub nanos : ℕ
  -- of each clock, its ticks at the block's end
  pub ends : List ℕ

abbrev pub ahead : Bool → ℕ → List ℕ → Ahead
ahead waits nanos ends = record { waits = waits; nanos = nanos; ends = ends }

-- a start that does not come within the block
unfoldable pub comes_later : Ahead → StartTime → Bool
comes_later a Immediate = false
comes_later a (Delayed remaining) = ltb a.nanos remaining
comes_later a (ClockTime time) = cond (ltb time.clock (length a.ends)) (ltb (get_or a.ends time.clock 0) time.ticks) false

-- ---- values and states

unfoldable pub same_level : Decibels → Decibels → Bool
same_level a b = eqb (to_bits binary32 a.0) (to_bits binary32 b.0)

-- a motion that waits
unfoldable pub motion_later : Ahead → ParameterState → Bool
motion_later a (Idle value) = false
motion_later a (Tweening start target time tween) = comes_later a tween.start_time

unfoldable pub parameter_steady : Ahead → Parameter → Bool
parameter_steady a p = same_level p.previous_raw_value p.raw_value && cond p.stagnant true (a.waits && motion_later a p.state)

-- all but one change at their fade's end alone
unfoldable pub state_steady : Ahead → PlaybackState → Bool
state_steady a Playing = true
state_steady a Pausing = true
state_steady a Paused = true
state_steady a (WaitingToResume start tween) = a.waits && comes_later a start
state_steady a Resuming = true
state_steady a Stopping = true
state_steady a Stopped = true

-- a fade that waits is that of a pause
unfoldable pub is_pausing : PlaybackState → Bool
is_pausing Playing = false
is_pausing Pausing = true
is_pausing Paused = false
is_pausing (WaitingToResume start tween) = false
is_pausing Resuming = false
is_pausing Stopping = false
is_pausing Stopped = false

abbrev pub fade_ahead : Ahead → PlaybackState → Ahead
fade_ahead a state = ahead (a.waits && is_pausing state) a.nanos a.ends

-- ---- the lines

-- a track that is reached
unfoldable pub reached_steady : Ahead → Track → Bool
reached_steady a t =
    state_steady a t.playback.state
    && (beq t.live (is_advancing t.playback.state) && (parameter_steady a t.volume && parameter_steady (fade_ahead a t.playback.state) t.playback.volume_fade))

-- a track below one that is not live does not move: its flags say so
unfoldable pub steady_where : Ahead → Track → Bool → Bool
steady_where a t reached = beq t.reached reached && cond reached (reached_steady a t) (not t.live)

unfoldable pub route_steady : Ahead → Parameter → Bool → Bool
route_steady a p reached = cond reached (parameter_steady a p) true
