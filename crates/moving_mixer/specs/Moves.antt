-- What a chunk does to a mixer, by the clocks as they stand.
use Rattle.std.specs.Prelude.{Float}
use Rattle.clock.specs.declared.when_to_start.Clocks.{Clocks}
use Rattle.parameter.specs.declared.parameter.Parameter.{Parameter}
use Rattle.parameter.specs.Parameter.{parameter_update}
use Rattle.scene.specs.declared.scene.Scene.{Scene}
use Rattle.mixer.specs.declared.mixer.Mixer.{Mixer}
use Rattle.mixer.specs.Mixer.{mixer_of, tracks_update, routes_update, sends_update}

abbrev pub parameter_moved : Parameter → Float → Clocks → Parameter
parameter_moved p dt clocks = (parameter_update p dt clocks).parameter

-- `mixer_update` with clocks that stay
unfoldable pub levels_update : Scene → Float → Mixer → Mixer
levels_update s dt m =
    let tracks = tracks_update s.tracks s.track_count dt m.clocks m.tracks in
    mixer_of m.clocks (parameter_moved m.main_volume dt m.clocks) tracks (sends_update s.send_count dt m.clocks m.sends)
    (routes_update s.routes s.route_count dt m.clocks tracks m.routes) m.played
