use Rattle.std.proofs.Common.{◌≡◌}
use Rattle.laws.specs.Loop.{changed}
use Rattle.mixer.specs.Mixer.{route_update}
use Rattle.moving_mixer.proofs.moves.update_routes.Given as goal

abbrev pub invariant-loop-r : goal.invariant-loop-r
invariant-loop-r l = l.routes ≡ changed (route_update l.lines l.dt l.clocks l.tracks) l.r l.initial.routes
