-- playback_state_manager.rs, and which states advance, of sound.rs.
use Rattle.std.specs.Prelude.{Bool, true, false, cond, Float}
use Rattle.laws.specs.Float.{whole}
use Rattle.decibels.specs.declared.decibels.Decibels.{Decibels}
use Rattle.decibels.specs.Decibels.{silence}
use Rattle.clock.specs.declared.when_to_start.Clocks.{Clocks}
use Rattle.tween.specs.declared.start_time.StartTime.{StartTime}
use Rattle.tween.specs.declared.tween.Tween.{Tween}
use Rattle.tween.specs.StartTime.{StartTimeUpdate, is_immediate, start_time_update}
use Rattle.parameter.specs.declared.parameter.Parameter.{Parameter}
use Rattle.playback.specs.declared.playback_state_manager.PlaybackState.{PlaybackState}
use Rattle.playback.specs.declared.playback_state_manager.PlaybackState.TheVariants.{Playing, Pausing, Paused, WaitingToResume, Resuming, Stopping, Stopped}
use Rattle.playback.specs.declared.playback_state_manager.PlaybackStateManager.{PlaybackStateManager}
use Rattle.parameter.specs.Parameter.{parameter_new, interpolated_value, parameter_set, parameter_update}

unfoldable pub is_advancing : PlaybackState → Bool
is_advancing Playing = true
is_advancing Pausing = true
is_advancing Paused = false
is_advancing (WaitingToResume start tween) = false
is_advancing Resuming = true
is_advancing Stopping = true
is_advancing Stopped = false

unfoldable pub is_stopped : PlaybackState → Bool
is_stopped Playing = false
is_stopped Pausing = false
is_stopped Paused = false
is_stopped (WaitingToResume start tween) = false
is_stopped Resuming = false
is_stopped Stopping = false
is_stopped Stopped = true

-- `Decibels::SILENCE` and `Decibels::IDENTITY`
abbrev pub silent : Decibels
silent = record { 0 = silence }

abbrev pub identity : Decibels
identity = record { 0 = whole 0 }

unfoldable pub playback_new : PlaybackStateManager
playback_new = record { state = Playing; volume_fade = parameter_new identity }

unfoldable pub interpolated_fade_volume : PlaybackStateManager → Float → Decibels
interpolated_fade_volume m amount = interpolated_value m.volume_fade amount

unfoldable pub playback_pause : PlaybackStateManager → Tween → PlaybackStateManager
playback_pause m tween = cond (is_stopped m.state) m (record { state = Pausing; volume_fade = parameter_set m.volume_fade silent tween })

-- `resume` at once, and at a later time
unfoldable pub resumed : Parameter → Tween → PlaybackStateManager
resumed fade tween = record { state = Resuming; volume_fade = parameter_set fade identity tween }

unfoldable pub resumed_at : StartTime → Parameter → Tween → PlaybackStateManager
resumed_at start fade tween = cond (is_immediate start) (resumed fade tween) (record { state = WaitingToResume start tween; volume_fade = fade })

unfoldable pub playback_resume : PlaybackStateManager → StartTime → Tween → PlaybackStateManager
playback_resume m start tween = cond (is_stopped m.state) m (resumed_at start m.volume_fade tween)

-- a manager after an update, and whether that changed its state
pub record PlaybackUpdate : Type 0 where
  pub manager : PlaybackStateManager
  pub changed_playback_state : Bool

-- `update`: the fade moves first
abbrev pub unchanged : PlaybackState → Parameter → PlaybackUpdate
unchanged state fade = record { manager = record { state = state; volume_fade = fade }; changed_playback_state = false }

abbrev pub changed_to : PlaybackState → Parameter → PlaybackUpdate
changed_to state fade = record { manager = record { state = state; volume_fade = fade }; changed_playback_state = true }

-- a state that its fade's end takes to the next
unfoldable pub after_fade : Bool → PlaybackState → PlaybackState → Parameter → PlaybackUpdate
after_fade finished state next fade = cond finished (changed_to next fade) (unchanged state fade)

unfoldable pub waited_until : StartTime → Tween → Parameter → PlaybackUpdate
waited_until start tween fade =
    cond (is_immediate start) (record { manager = resumed fade tween; changed_playback_state = true }) (unchanged (WaitingToResume start tween) fade)

unfoldable pub waiting_update : StartTimeUpdate → Tween → Parameter → PlaybackUpdate
waiting_update u tween fade = cond u.will_never_start (changed_to Stopped fade) (waited_until u.start_time tween fade)

unfoldable pub state_update : PlaybackState → Parameter → Bool → Float → Clocks → PlaybackUpdate
state_update Playing fade finished dt clocks = unchanged Playing fade
state_update Pausing fade finished dt clocks = after_fade finished Pausing Paused fade
state_update Paused fade finished dt clocks = unchanged Paused fade
state_update (WaitingToResume start tween) fade finished dt clocks = waiting_update (start_time_update start dt clocks) tween fade
state_update Resuming fade finished dt clocks = after_fade finished Resuming Playing fade
state_update Stopping fade finished dt clocks = after_fade finished Stopping Stopped fade
state_update Stopped fade finished dt clocks = unchanged Stopped fade

unfoldable pub playback_update : PlaybackStateManager → Float → Clocks → PlaybackUpdate
playback_update m dt clocks =
    let faded = parameter_update m.volume_fade dt clocks in
    state_update m.state faded.parameter faded.just_finished_tween dt clocks
