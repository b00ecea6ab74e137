use Rattle.std.proofs.Common.{◌≡◌}
use Rattle.laws.specs.Loop.{upto}
use Rattle.mixer.specs.Mixer.{track_step}
use Rattle.moving_mixer.proofs.moves.update_tracks.Given as goal

abbrev pub invariant-loop-t : goal.invariant-loop-t
invariant-loop-t l = l.tracks ≡ upto (track_step l.lines l.dt l.clocks) l.t l.initial.tracks
