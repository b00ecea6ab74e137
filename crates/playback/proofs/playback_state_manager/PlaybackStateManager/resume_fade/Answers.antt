-- `PlaybackStateManager::resume_fade` meets its contract. Assumes nothing.
use mathlib.Core.Path.{ap}
use lib.Ieee.{of_int, of_bits}
use Rattle.parameter.specs.declared.parameter.Parameter.{Parameter}
use Rattle.playback.specs.declared.playback_state_manager.PlaybackState.TheVariants.{Resuming}
use Rattle.playback.specs.declared.playback_state_manager.PlaybackStateManager.{PlaybackStateManager}
use Rattle.playback.specs.PlaybackStateManager.{resumed}
use Rattle.playback.proofs.playback_state_manager.PlaybackStateManager.resume_fade.Goals as goal

resuming : Parameter → PlaybackStateManager
resuming fade = record { state = Resuming; volume_fade = fade }

pub returns : goal.returns
unfolding resumed resuming of_int of_bits
returns c = ap resuming c.set.ensures
