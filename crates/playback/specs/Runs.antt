-- What a playback state manager keeps to along a render.
use Rattle.std.specs.Prelude.{ℕ}
use Rattle.tween.specs.StartTime.{ClockThere}
use Rattle.playback.specs.declared.playback_state_manager.PlaybackState.{PlaybackState}
use Rattle.playback.specs.declared.playback_state_manager.PlaybackState.TheVariants.{Playing, Pausing, Paused, WaitingToResume, Resuming, Stopping, Stopped}
use Rattle.playback.specs.declared.playback_state_manager.PlaybackStateManager.{PlaybackStateManager}
use Rattle.parameter.specs.Range.{ParameterIn, value_range, Short}

-- neither stopping nor stopped; what it waits for will come
abbrev pub StateRuns : ℕ → PlaybackState → Type 0
StateRuns count Playing = Unit {0}
StateRuns count Pausing = Unit {0}
StateRuns count Paused = Unit {0}
StateRuns count (WaitingToResume start tween) = ClockThere count start × Short tween
StateRuns count Resuming = Unit {0}
StateRuns count Stopping = ⊥
StateRuns count Stopped = ⊥

pub record Runs (count : ℕ) (m : PlaybackStateManager) : Type 0 where
  pub state : StateRuns count m.state
  pub fade : ParameterIn value_range m.volume_fade
