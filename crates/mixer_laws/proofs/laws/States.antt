-- What a mixer keeps to, array by array. Assumes nothing.
use mathlib.Core.Path.{◌≡◌}
use mathlib.Core.List.{List}
use Prim.Native.Nat.{ℕ, ◌*◌, ◌≤◌}
use Rattle.limits.specs.Limits.{track_places, send_lines, route_lines, sound_lines}
use Rattle.clock.specs.WhenToStart.{ClocksWithin}
use Rattle.parameter.specs.declared.parameter.Parameter.{Parameter}
use Rattle.parameter.specs.Range.{ParameterIn, value_range}
use Rattle.scene.specs.declared.scene.Scene.{Scene}
use Rattle.accepted.specs.Lines.{sound_line}
use Rattle.mixer.specs.declared.sub.Track.{Track}
use Rattle.mixer.specs.declared.mixer.Mixer.{Mixer}
use Rattle.mixer.specs.Mixer.{absent_parameter, absent_track}
use Rattle.mixer.specs.MixerOk.{TrackOk, MixerOk}
use Rattle.mixer_laws.proofs.laws.Arrays.{ArrayOk}

abbrev pub TracksOk : ℕ → ℕ → List Track → Type 0
TracksOk clocks count l = ArrayOk (λ t x. TrackOk clocks x) count track_places absent_track l

abbrev pub ParametersOk : ℕ → ℕ → List Parameter → Type 0
ParametersOk count size l = ArrayOk (λ i p. ParameterIn value_range p) count size absent_parameter l

abbrev pub PlayedOk : Scene → List ℕ → Type 0
PlayedOk s l = ArrayOk (λ k done. done ≤ (sound_line s k).count) s.sound_count sound_lines 0 l

module _ (s : Scene) (c : ℕ) (m : Mixer) where
  pub tracks_of : MixerOk s c m → TracksOk s.clock_count s.track_count m.tracks
  tracks_of h = record { places = h.track_places; each = h.tracks }

  pub sends_of : MixerOk s c m → ParametersOk s.send_count send_lines m.sends
  sends_of h = record { places = h.send_places; each = h.sends }

  pub routes_of : MixerOk s c m → ParametersOk s.route_count route_lines m.routes
  routes_of h = record { places = h.route_places; each = h.routes }

  pub played_of : MixerOk s c m → PlayedOk s m.played
  played_of h = record { places = h.sound_places; each = h.played }

  pub mixer_ok : m.clocks.count ≡ s.clock_count → ClocksWithin (c * 1001) m.clocks → ParameterIn value_range m.main_volume → TracksOk s.clock_count s.track_count m.tracks
      → ParametersOk s.send_count send_lines m.sends → ParametersOk s.route_count route_lines m.routes → PlayedOk s m.played → MixerOk s c m
  mixer_ok count clocks main tracks sends routes played =
      record {
        clock_count = count;
        clocks = clocks;
        main = main;
        track_places = tracks.places;
        send_places = sends.places;
        route_places = routes.places;
        sound_places = played.places;
        tracks = tracks.each;
        sends = sends.each;
        routes = routes.each;
        played = played.each;
      }
