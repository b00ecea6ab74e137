-- `PlaybackStateManager::pause` meets its contract: the test is the definition's. Assumes nothing.
use mathlib.Core.Path.{sym, ap, ◌∙◌}
use lib.Ieee.{of_int, of_bits, neg}
use Rattle.laws.proofs.laws.Choice.{cond-false}
use Rattle.parameter.specs.declared.parameter.Parameter.{Parameter}
use Rattle.playback.specs.declared.playback_state_manager.PlaybackState.TheVariants.{Pausing}
use Rattle.playback.specs.declared.playback_state_manager.PlaybackStateManager.{PlaybackStateManager}
use Rattle.playback.specs.PlaybackStateManager.{playback_pause}
use Rattle.playback.proofs.playback_state_manager.PlaybackStateManager.pause.Goals as goal

pausing : Parameter → PlaybackStateManager
pausing fade = record { state = Pausing; volume_fade = fade }

pub returns : goal.returns
unfolding playback_pause pausing of_int of_bits neg
returns c = ap pausing c.set.ensures ∙ sym (cond-false _ _ _ (sym c.is_stopped.ensures ∙ c.if-is_stopped.false))
