-- What mixing reads of a mixer that has moved: the chunk of `track`.
use Rattle.std.specs.Prelude.{false, List, ℕ, ◌+◌, ◌-◌, pos, get_or, replicate}
use Rattle.std.specs.Float.{binary32}
use Rattle.std.specs.Float.Ieee.{of_int}
use Rattle.limits.specs.Limits.{track_places, send_lines, route_lines, sound_lines}
use Rattle.laws.specs.Loop.{changed}
use Rattle.decibels.specs.Decibels.{amplitude}
use Rattle.parameter.specs.declared.parameter.Parameter.{Parameter}
use Rattle.spatial.specs.declared.placing.Placing.{Placing}
use Rattle.spatial.specs.declared.placing.Placing.TheVariants.{Plain}
use Rattle.scene.specs.declared.scene.Scene.{Scene}
use Rattle.scene.specs.declared.scene.TrackLine.{TrackLine}
use Rattle.scene.specs.declared.scene.TrackPlacing.{TrackPlacing}
use Rattle.scene.specs.declared.scene.RouteLine.{RouteLine}
use Rattle.scene.specs.declared.scene.SoundLine.{SoundLine}
use Rattle.chunk.specs.declared.chunk.Level.{Level}
use Rattle.chunk.specs.declared.chunk.ChunkTrack.{ChunkTrack}
use Rattle.chunk.specs.declared.chunk.ChunkRoute.{ChunkRoute}
use Rattle.chunk.specs.declared.chunk.ChunkSound.{ChunkSound}
use Rattle.chunk.specs.declared.chunk.Chunk.{Chunk}
use Rattle.mixer.specs.declared.sub.Track.{Track}
use Rattle.mixer.specs.declared.mixer.Mixer.{Mixer}
use Rattle.mixer.specs.Mixer.{state_of, parameter_of, zero_decibels}
use Rattle.accepted.specs.Lines.{absent_track_line, absent_track_placing, absent_route_line, absent_sound_line}

-- a parameter before the chunk and at its end
unfoldable pub level_of : Parameter → Level
level_of p = record { before = p.previous_raw_value; now = p.raw_value }

unfoldable pub chunk_track : TrackLine → Placing → Track → ChunkTrack
chunk_track line placing t = record { parent = line.parent; advancing = t.live; placing = placing; volume = level_of t.volume; fade = level_of t.playback.volume_fade }

-- a route by its value at the chunk's end
unfoldable pub chunk_route : RouteLine → Parameter → ChunkRoute
chunk_route line p = record { track = line.track; send = line.send; amplitude = record { 0 = amplitude p.raw_value.0 } }

-- what a sound has left to play
unfoldable pub chunk_sound : SoundLine → ℕ → ChunkSound
chunk_sound line done = record { track = line.track; start = line.first + done; left = line.count - done; from = line.from }

-- ---- places with no line

unfoldable pub empty_level : Level
empty_level = record { before = zero_decibels; now = zero_decibels }

unfoldable pub empty_track_row : ChunkTrack
empty_track_row = record { parent = 0; advancing = false; placing = Plain; volume = empty_level; fade = empty_level }

unfoldable pub empty_route_row : ChunkRoute
empty_route_row = record { track = 0; send = 0; amplitude = record { 0 = of_int binary32 (pos 0) } }

unfoldable pub empty_sound_row : ChunkSound
empty_sound_row = record { track = 0; start = 0; left = 0; from = 0 }

-- ---- the chunk

unfoldable pub chunk_tracks : List TrackLine → List TrackPlacing → ℕ → List Track → List ChunkTrack
chunk_tracks lines placings count tracks = changed (λ t x. chunk_track (get_or lines t absent_track_line) (get_or placings t absent_track_placing).placing (state_of tracks t)) count (replicate track_places empty_track_row)

unfoldable pub chunk_sends : ℕ → List Parameter → List Level
chunk_sends count sends = changed (λ i x. level_of (parameter_of sends i)) count (replicate send_lines empty_level)

unfoldable pub chunk_routes : List RouteLine → ℕ → List Parameter → List ChunkRoute
chunk_routes lines count routes = changed (λ r x. chunk_route (get_or lines r absent_route_line) (parameter_of routes r)) count (replicate route_lines empty_route_row)

unfoldable pub chunk_sounds : List SoundLine → ℕ → List ℕ → List ChunkSound
chunk_sounds lines count played = changed (λ k x. chunk_sound (get_or lines k absent_sound_line) (get_or played k 0)) count (replicate sound_lines empty_sound_row)

unfoldable pub chunk_of : Scene → ℕ → Mixer → Chunk
chunk_of s n m =
    record {
      frames = n;
      track_count = s.track_count;
      tracks = chunk_tracks s.tracks s.placings s.track_count m.tracks;
      send_count = s.send_count;
      sends = chunk_sends s.send_count m.sends;
      route_count = s.route_count;
      routes = chunk_routes s.routes s.route_count m.routes;
      sound_count = s.sound_count;
      sounds = chunk_sounds s.sounds s.sound_count m.played;
      main = level_of m.main_volume;
    }

-- a chunk once its sounds have played on, of n frames: its other lines stay
unfoldable pub chunk_played : Scene → ℕ → Mixer → Chunk → Chunk
chunk_played s n m c =
    record {
      frames = n;
      track_count = c.track_count;
      tracks = c.tracks;
      send_count = c.send_count;
      sends = c.sends;
      route_count = c.route_count;
      routes = c.routes;
      sound_count = c.sound_count;
      sounds = chunk_sounds s.sounds s.sound_count m.played;
      main = c.main;
    }
