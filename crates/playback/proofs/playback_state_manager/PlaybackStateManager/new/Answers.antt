-- `PlaybackStateManager::new` meets its contract. Assumes nothing.
use mathlib.Core.Path.{ap}
use lib.Ieee.{of_int, of_bits}
use Rattle.parameter.specs.declared.parameter.Parameter.{Parameter}
use Rattle.playback.specs.declared.playback_state_manager.PlaybackState.TheVariants.{Playing}
use Rattle.playback.specs.declared.playback_state_manager.PlaybackStateManager.{PlaybackStateManager}
use Rattle.playback.specs.PlaybackStateManager.{playback_new}
use Rattle.playback.proofs.playback_state_manager.PlaybackStateManager.new.Goals as goal

playing : Parameter → PlaybackStateManager
playing fade = record { state = Playing; volume_fade = fade }

pub returns : goal.returns
unfolding playback_new playing of_int of_bits
returns c = ap playing c.new.ensures
