-- A chunk that was laid from one mixer, and a mixer that came of that one: which of its rows stay.
use Rattle.std.specs.Prelude.{◌≡◌, false, List, ℕ, ◌-◌, ◌<◌, get_or}
use Rattle.laws.specs.Loop.{changed}
use Rattle.scene.specs.declared.scene.Scene.{Scene}
use Rattle.chunk.specs.declared.chunk.ChunkTrack.{ChunkTrack}
use Rattle.chunk.specs.declared.chunk.ChunkRoute.{ChunkRoute}
use Rattle.chunk.specs.declared.chunk.Chunk.{Chunk}
use Rattle.chunk.specs.Chunk.{absent_track_row, absent_route_row}
use Rattle.accepted.specs.Lines.{absent_track_line, absent_track_placing, absent_route_line}
use Rattle.mixer.specs.declared.mixer.Mixer.{Mixer}
use Rattle.mixer.specs.Mixer.{state_of, parameter_of}
use Rattle.mixer.specs.Sub.{track_still}
use Rattle.mixer_chunk.specs.ChunkOf.{chunk_track, chunk_route, chunk_tracks, chunk_routes, chunk_of, chunk_played}

-- all of a chunk but its frames and its sounds is a mixer's
abbrev pub Kept : Scene → Mixer → Chunk → Type 0
Kept s m c = (n : ℕ) → chunk_played s n m c ≡ chunk_of s n m

-- A chunk is that of the mixer before, and what was not reached since stands still.
pub record Follows (s : Scene) (c : Chunk) (m : Mixer) : Type 0 where
  pub before : Mixer
  pub kept : Kept s before c
  pub tracks : (t : ℕ) → t < s.track_count → (state_of m.tracks t).reached ≡ false → state_of m.tracks t ≡ track_still (state_of before.tracks t)
  pub routes : (r : ℕ) → r < s.route_count → (state_of m.tracks ((get_or s.routes r absent_route_line).track - 1)).reached ≡ false → parameter_of m.routes r ≡ parameter_of before.routes r

-- ---- the same, row by row

-- the row of a track that was not reached: its levels stay, and it is not heard
unfoldable pub resting : ChunkTrack → ChunkTrack
resting x = record { parent = x.parent; advancing = false; placing = x.placing; volume = x.volume; fade = x.fade }

abbrev pub track_of : Scene → Mixer → ℕ → ChunkTrack
track_of s m t = chunk_track (get_or s.tracks t absent_track_line) (get_or s.placings t absent_track_placing).placing (state_of m.tracks t)

abbrev pub route_of : Scene → Mixer → ℕ → ChunkRoute
route_of s m r = chunk_route (get_or s.routes r absent_route_line) (parameter_of m.routes r)

-- the rows past the count are those of any chunk of the scene
pub record TracksFollow (s : Scene) (rows : List ChunkTrack) (m : Mixer) : Type 0 where
  pub laid : changed (λ t x. track_of s m t) s.track_count rows ≡ chunk_tracks s.tracks s.placings s.track_count m.tracks
  pub rests : (t : ℕ) → t < s.track_count → (state_of m.tracks t).reached ≡ false → resting (get_or rows t absent_track_row) ≡ track_of s m t

pub record RoutesFollow (s : Scene) (rows : List ChunkRoute) (m : Mixer) : Type 0 where
  pub laid : changed (λ r x. route_of s m r) s.route_count rows ≡ chunk_routes s.routes s.route_count m.routes
  pub rests : (r : ℕ) → r < s.route_count → (state_of m.tracks ((get_or s.routes r absent_route_line).track - 1)).reached ≡ false → get_or rows r absent_route_row ≡ route_of s m r
