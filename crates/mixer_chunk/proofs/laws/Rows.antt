-- The lines of a mixer's chunk. Assumes nothing.
use Rattle.std.proofs.Common.{◌≡◌, ℕ, ◌<◌, ◌≤◌, get_or, replicate, sym, le_trans, le_of_eq}
use lib.ListN.{length-replicate}
use Rattle.limits.specs.Limits.{track_places, route_lines, sound_lines}
use Rattle.laws.specs.Loop.{changed}
use Rattle.laws.proofs.laws.Loop.{changed_below}
use Rattle.chunk.specs.declared.chunk.ChunkTrack.{ChunkTrack}
use Rattle.chunk.specs.declared.chunk.ChunkRoute.{ChunkRoute}
use Rattle.chunk.specs.declared.chunk.ChunkSound.{ChunkSound}
use Rattle.chunk.specs.declared.chunk.Chunk.{Chunk}
use Rattle.chunk.specs.Chunk.{track_row, route_row, sound_row, absent_track_row, absent_route_row, absent_sound_row}
use Rattle.scene.specs.declared.scene.Scene.{Scene}
use Rattle.accepted.specs.Lines.{absent_track_line, absent_track_placing, absent_route_line, absent_sound_line}
use Rattle.accepted.specs.SceneOk.{SceneOk}
use Rattle.mixer.specs.declared.mixer.Mixer.{Mixer}
use Rattle.mixer.specs.Mixer.{state_of, parameter_of}
use Rattle.mixer_chunk.specs.ChunkOf.{chunk_track, chunk_route, chunk_sound, empty_track_row, empty_route_row, empty_sound_row, chunk_tracks, chunk_routes, chunk_sounds, chunk_of}

-- a line below the count
line_here : {A : Type 0} (F : ℕ → A) (size count : ℕ) (e d : A) → count ≤ size → (j : ℕ) → j < count → get_or (changed (λ i x. F i) count (replicate size e)) j d ≡ F j
line_here F size count e d fits j b = changed_below (λ i x. F i) count (replicate size e) j d b (le_trans b (le_trans fits (le_of_eq (sym (length-replicate size e)))))

module _ (s : Scene) (n : ℕ) (m : Mixer) (ok : SceneOk s) where
  abbrev c : Chunk
  c = chunk_of s n m

  abbrev track_of : ℕ → ChunkTrack
  track_of t = chunk_track (get_or s.tracks t absent_track_line) (get_or s.placings t absent_track_placing).placing (state_of m.tracks t)

  abbrev route_of : ℕ → ChunkRoute
  route_of r = chunk_route (get_or s.routes r absent_route_line) (parameter_of m.routes r)

  abbrev sound_of : ℕ → ChunkSound
  sound_of k = chunk_sound (get_or s.sounds k absent_sound_line) (get_or m.played k 0)

  pub track_here : (t : ℕ) → t < s.track_count → track_of t ≡ track_row c t
  unfolding chunk_of chunk_tracks
  track_here t b = sym (line_here track_of track_places s.track_count empty_track_row absent_track_row ok.track_count t b)

  pub route_here : (r : ℕ) → r < s.route_count → route_of r ≡ route_row c r
  unfolding chunk_of chunk_routes
  route_here r b = sym (line_here route_of route_lines s.route_count empty_route_row absent_route_row ok.route_count r b)

  pub sound_here : (k : ℕ) → k < s.sound_count → sound_of k ≡ sound_row c k
  unfolding chunk_of chunk_sounds
  sound_here k b = sym (line_here sound_of sound_lines s.sound_count empty_sound_row absent_sound_row ok.sound_count k b)
