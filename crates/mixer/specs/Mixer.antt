-- backend/resources/mixer.rs: the state that moves, when it is made, and how a chunk moves it.
-- Lines are counted from 0 here; a parent or a track that a line names is a line number from 1, and 0 is the mixer or the main track.
use Rattle.std.specs.Prelude.{Bool, true, false, cond, List, ℕ, ◌-◌, eqb, pos, get_or, set, replicate, Float}
use Rattle.std.specs.Float.{nan, binary32, binary64}
use Rattle.std.specs.Float.Ieee.{of_int}
use Rattle.limits.specs.Limits.{clock_lines, track_places, send_lines, route_lines, sound_lines}
use Rattle.laws.specs.Loop.{upto, changed}
use Rattle.decibels.specs.declared.decibels.Decibels.{Decibels}
use Rattle.clock.specs.declared.clock.Clock.{Clock}
use Rattle.clock.specs.declared.clock_speed.ClockSpeed.TheVariants.{TicksPerSecond}
use Rattle.clock.specs.declared.when_to_start.Clocks.{Clocks}
use Rattle.clock.specs.Clock.{new_clock}
use Rattle.clock.specs.WhenToStart.{clocks_updated}
use Rattle.parameter.specs.declared.parameter.Parameter.{Parameter}
use Rattle.parameter.specs.declared.parameter.ParameterState.TheVariants.{Idle}
use Rattle.parameter.specs.Parameter.{parameter_new, parameter_update}
use Rattle.playback.specs.declared.playback_state_manager.PlaybackState.TheVariants.{Playing}
use Rattle.scene.specs.declared.scene.Scene.{Scene}
use Rattle.scene.specs.declared.scene.TrackLine.{TrackLine}
use Rattle.scene.specs.declared.scene.RouteLine.{RouteLine}
use Rattle.accepted.specs.Lines.{clock_line, track_line, send_line, route_line, absent_track_line, absent_route_line}
use Rattle.mixer.specs.declared.sub.Track.{Track}
use Rattle.mixer.specs.declared.mixer.Mixer.{Mixer}
use Rattle.mixer.specs.Sub.{track_new, track_update}

-- ---- a new mixer

-- what stands in places with no line
abbrev pub zero_decibels : Decibels
zero_decibels = record { 0 = of_int binary32 (pos 0) }

unfoldable pub empty_track : Track
empty_track = track_new zero_decibels

unfoldable pub empty_parameter : Parameter
empty_parameter = parameter_new zero_decibels

unfoldable pub empty_clock : Clock
empty_clock = new_clock (TicksPerSecond (of_int binary64 (pos 0))) false

unfoldable pub clocks_new : Scene → Clocks
clocks_new s = record { clocks = changed (λ i c. new_clock (clock_line s i).speed (clock_line s i).ticking) s.clock_count (replicate clock_lines empty_clock); count = s.clock_count }

unfoldable pub tracks_new : Scene → List Track
tracks_new s = changed (λ t x. track_new (track_line s t).volume) s.track_count (replicate track_places empty_track)

unfoldable pub sends_new : Scene → List Parameter
sends_new s = changed (λ i x. parameter_new (send_line s i).volume) s.send_count (replicate send_lines empty_parameter)

unfoldable pub routes_new : Scene → List Parameter
routes_new s = changed (λ r x. parameter_new (route_line s r).volume) s.route_count (replicate route_lines empty_parameter)

-- a mixer from its parts
abbrev pub mixer_of : Clocks → Parameter → List Track → List Parameter → List Parameter → List ℕ → Mixer
mixer_of clocks main tracks sends routes played = record { clocks = clocks; main_volume = main; tracks = tracks; sends = sends; routes = routes; played = played }

unfoldable pub mixer_new : Scene → Mixer
mixer_new s = mixer_of (clocks_new s) (parameter_new s.head.volume) (tracks_new s) (sends_new s) (routes_new s) (replicate sound_lines 0)

-- ---- states by their lines. Past an array's end stands what the language gives there, which nothing reads.

abbrev pub absent_parameter : Parameter
absent_parameter = record { state = Idle (record { 0 = nan }); raw_value = record { 0 = nan }; previous_raw_value = record { 0 = nan }; stagnant = false }

abbrev pub absent_track : Track
absent_track = record { volume = absent_parameter; playback = record { state = Playing; volume_fade = absent_parameter }; reached = false; live = false }

abbrev pub state_of : List Track → ℕ → Track
state_of tracks t = get_or tracks t absent_track

abbrev pub parameter_of : List Parameter → ℕ → Parameter
parameter_of ps i = get_or ps i absent_parameter

-- ---- one chunk, before its frames are mixed. Clocks move first.

-- Whether a line number, counted from 1, is the mixer or a live track, given the track at its place.
abbrev pub live_at : Track → ℕ → Bool
live_at track line = cond (eqb line 0) true track.live

unfoldable pub live_above : List Track → ℕ → Bool
live_above tracks line = live_at (state_of tracks (line - 1)) line

-- A track is reached where what it stands under is live. That stands on an earlier line, so it has moved already.
unfoldable pub track_step : List TrackLine → Float → Clocks → ℕ → List Track → List Track
track_step lines dt clocks t tracks = set tracks t (track_update (state_of tracks t) (live_above tracks (get_or lines t absent_track_line).parent) dt clocks)

unfoldable pub tracks_update : List TrackLine → ℕ → Float → Clocks → List Track → List Track
tracks_update lines count dt clocks tracks = upto (track_step lines dt clocks) count tracks

unfoldable pub updated_where : Parameter → Bool → Float → Clocks → Parameter
updated_where p moves dt clocks = cond moves (parameter_update p dt clocks).parameter p

-- a route moves where its track is reached, live or not
unfoldable pub route_update : List RouteLine → Float → Clocks → List Track → ℕ → Parameter → Parameter
route_update lines dt clocks tracks r p = updated_where p (state_of tracks ((get_or lines r absent_route_line).track - 1)).reached dt clocks

unfoldable pub routes_update : List RouteLine → ℕ → Float → Clocks → List Track → List Parameter → List Parameter
routes_update lines count dt clocks tracks routes = changed (route_update lines dt clocks tracks) count routes

unfoldable pub sends_update : ℕ → Float → Clocks → List Parameter → List Parameter
sends_update count dt clocks sends = changed (λ i p. (parameter_update p dt clocks).parameter) count sends

unfoldable pub mixer_update : Scene → Float → Mixer → Mixer
mixer_update s dt m =
    let clocks = clocks_updated m.clocks dt in
    let tracks = tracks_update s.tracks s.track_count dt clocks m.tracks in
    mixer_of clocks (parameter_update m.main_volume dt clocks).parameter tracks (sends_update s.send_count dt clocks m.sends)
    (routes_update s.routes s.route_count dt clocks tracks m.routes) m.played
