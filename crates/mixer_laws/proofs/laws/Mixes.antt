-- A chunk can be made of the mixer, and mixed. Assumes nothing.
use Prim.Native.Nat.{ℕ, ◌+◌, ◌-◌, ◌*◌, ◌^◌, ◌≤◌, ◌<◌}
use native.Mathlib.Omega.{arith}
use lib.Dec.{T}
use lib.ListN.{length, get_or, replicate, length-replicate}
use lib.Ieee.Scale.{finite}
use Rattle.recordings.specs.Recordings.{Recordings, recording}
use Rattle.recordings.proofs.laws.Recordings.{Lent, lent_recording}
use Rattle.limits.specs.Limits.{track_places, send_lines, route_lines, sound_lines, chunk_frames_most}
use Rattle.decibels.proofs.laws.Decibels.{amplitude_within}
use Rattle.parameter.specs.declared.parameter.Parameter.{Parameter}
use Rattle.parameter.specs.Range.{ParameterIn, value_range}
use Rattle.parameter.proofs.laws.Parameter.{value_admitted}
use Rattle.scene.specs.declared.scene.Scene.{Scene}
use Rattle.accepted.specs.Lines.{sound_line, placing_at, absent_track_line, absent_route_line}
use Rattle.accepted.specs.SceneOk.{SceneOk, SamplesOk}
use Rattle.spatial.specs.Spatial.{PlacingIn}
use Rattle.chunk.specs.declared.chunk.ChunkTrack.{ChunkTrack}
use Rattle.chunk.specs.declared.chunk.ChunkRoute.{ChunkRoute}
use Rattle.chunk.specs.Chunk.{LevelInRange, ChunkOk, absent_level, absent_track_row, absent_route_row, absent_sound_row}
use Rattle.mixer.specs.declared.mixer.Mixer.{Mixer}
use Rattle.mixer.specs.Mixer.{state_of, parameter_of}
use Rattle.mixer_chunk.specs.ChunkOf.{level_of, chunk_track, chunk_route, chunk_sound, empty_level, chunk_tracks, chunk_sends, chunk_routes, chunk_sounds, chunk_of, empty_track_row, empty_route_row, empty_sound_row}
use Rattle.mixer.specs.Mixes.{MixerMixes}
use Rattle.mixer.specs.MixerOk.{MixerOk}
use Rattle.mixer_laws.proofs.laws.Arrays.{ArrayOk, changed_array}

-- ---- a sound lies in the samples

counted : (first count len : ℕ) → 2 * (first + count) ≤ len → len < 2 ^ 63 → first + count < 2 ^ 63
counted first count len h k = omega arith

-- what it has played and what it has left
whole : (first count done len : ℕ) → done ≤ count → 2 * (first + count) ≤ len → 2 * (first + done + (count - done)) ≤ len
whole first count done len h k = omega arith

pub mixes : (s : Scene) (samples : Recordings) (c : ℕ) (m : Mixer) → SceneOk s → SamplesOk s samples → Lent samples → MixerOk s c m → MixerMixes s m
mixes s samples c m ok there short h =
    record {
      routes = λ r b. value_admitted (parameter_of m.routes r).raw_value.0 (h.routes r b).value;
      played = h.played;
      room = λ k b. counted (sound_line s k).first (sound_line s k).count (length (recording samples (sound_line s k).from)) (there.sounds k b) (lent_recording samples (sound_line s k).from short);
    }

-- ---- the chunk

level_ok : (p : Parameter) → ParameterIn value_range p → LevelInRange (level_of p)
unfolding level_of
level_ok p h = record { before = h.previous; now = h.value }

record TrackOk (t : ChunkTrack) : Type 0 where
  volume : LevelInRange t.volume
  fade : LevelInRange t.fade
  placing : PlacingIn t.placing

record RouteOk (s : Scene) (r : ChunkRoute) : Type 0 where
  send : (1 ≤ r.send) × (r.send ≤ s.send_count)
  is_finite : T (finite r.amplitude.0)

module _ (s : Scene) (c : ℕ) (m : Mixer) (ok : SceneOk s) (h : MixerOk s c m) where
  tracks_ok : ArrayOk (λ t x. TrackOk x) s.track_count track_places absent_track_row (chunk_tracks s.tracks s.placings s.track_count m.tracks)
  unfolding chunk_tracks chunk_track
  tracks_ok =
      changed_array (replicate track_places empty_track_row) (λ t x. chunk_track (get_or s.tracks t absent_track_line) (placing_at s t) (state_of m.tracks t)) ok.track_count (length-replicate track_places empty_track_row)
      (λ t b. record { volume = level_ok (state_of m.tracks t).volume (h.tracks t b).volume; fade = level_ok (state_of m.tracks t).playback.volume_fade (h.tracks t b).playback.fade; placing = ok.placings t b })

  sends_ok : ArrayOk (λ i l. LevelInRange l) s.send_count send_lines absent_level (chunk_sends s.send_count m.sends)
  unfolding chunk_sends
  sends_ok =
      changed_array (replicate send_lines empty_level) (λ i l. level_of (parameter_of m.sends i)) ok.send_count (length-replicate send_lines empty_level) (λ i b. level_ok (parameter_of m.sends i) (h.sends i b))

  routes_ok : ArrayOk (λ r x. RouteOk s x) s.route_count route_lines absent_route_row (chunk_routes s.routes s.route_count m.routes)
  unfolding chunk_routes chunk_route
  routes_ok =
      changed_array (replicate route_lines empty_route_row) (λ r x. chunk_route (get_or s.routes r absent_route_line) (parameter_of m.routes r)) ok.route_count (length-replicate route_lines empty_route_row)
      (λ r b. let v = (h.routes r b).value in
      record { send = (ok.routes r b).send; is_finite = (amplitude_within (parameter_of m.routes r).raw_value.0 v.held (value_admitted (parameter_of m.routes r).raw_value.0 v)).is_finite })

  sounds_ok : (samples : Recordings) → SamplesOk s samples → ArrayOk (λ k x. 2 * (x.start + x.left) ≤ length (recording samples x.from)) s.sound_count sound_lines absent_sound_row (chunk_sounds s.sounds s.sound_count m.played)
  unfolding chunk_sounds chunk_sound
  sounds_ok samples there =
      changed_array (replicate sound_lines empty_sound_row) (λ k x. chunk_sound (sound_line s k) (get_or m.played k 0)) ok.sound_count (length-replicate sound_lines empty_sound_row)
      (λ k b. whole (sound_line s k).first (sound_line s k).count (get_or m.played k 0) (length (recording samples (sound_line s k).from)) (h.played k b) (there.sounds k b))

pub chunk_ok : (s : Scene) (samples : Recordings) (c n : ℕ) (m : Mixer) → SceneOk s → SamplesOk s samples → MixerOk s c m → n ≤ chunk_frames_most → ChunkOk (chunk_of s n m) samples
unfolding chunk_of
chunk_ok s samples c n m ok there h few =
    record {
      short = few;
      tracks = ok.track_count;
      sends = ok.send_count;
      routes = ok.route_count;
      sounds = ok.sound_count;
      volumes = λ t b. ((tracks_ok s c m ok h).each t b).volume;
      fades = λ t b. ((tracks_ok s c m ok h).each t b).fade;
      placings = λ t b. ((tracks_ok s c m ok h).each t b).placing;
      send_levels = (sends_ok s c m ok h).each;
      main_level = level_ok m.main_volume h.main;
      routed = λ r b. ((routes_ok s c m ok h).each r b).send;
      amplitudes = λ r b. ((routes_ok s c m ok h).each r b).is_finite;
      held = (sounds_ok s c m ok h samples there).each;
      arrays = record { tracks = (tracks_ok s c m ok h).places; sends = (sends_ok s c m ok h).places; routes = (routes_ok s c m ok h).places; sounds = (sounds_ok s c m ok h samples there).places };
    }
