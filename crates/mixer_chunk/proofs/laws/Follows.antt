-- The rows of a chunk that was laid from the mixer before. Assumes nothing.
use Rattle.std.proofs.Common.{◌≡◌, ℕ, ◌<◌, List, get_or, replicate, refl, sym, ap, ◌∙◌}
use Rattle.limits.specs.Limits.{track_places, route_lines}
use Rattle.laws.specs.Loop.{changed}
use Rattle.laws.proofs.laws.Loop.{changed_here, changed_twice}
use Rattle.scene.specs.declared.scene.Scene.{Scene}
use Rattle.scene.specs.declared.scene.TrackLine.{TrackLine}
use Rattle.spatial.specs.declared.placing.Placing.{Placing}
use Rattle.chunk.specs.declared.chunk.ChunkTrack.{ChunkTrack}
use Rattle.chunk.specs.declared.chunk.ChunkRoute.{ChunkRoute}
use Rattle.chunk.specs.declared.chunk.Chunk.{Chunk}
use Rattle.chunk.specs.Chunk.{absent_track_row, absent_route_row}
use Rattle.accepted.specs.Lines.{absent_track_line, absent_track_placing, absent_route_line}
use Rattle.accepted.specs.SceneOk.{SceneOk}
use Rattle.mixer.specs.declared.sub.Track.{Track}
use Rattle.mixer.specs.declared.mixer.Mixer.{Mixer}
use Rattle.mixer.specs.Mixer.{state_of}
use Rattle.mixer.specs.Sub.{track_still}
use Rattle.mixer_chunk.specs.ChunkOf.{chunk_track, chunk_route, empty_track_row, empty_route_row, chunk_tracks, chunk_routes, chunk_of, chunk_played}
use Rattle.mixer_chunk.specs.Follows.{Kept, Follows, TracksFollow, RoutesFollow, resting, track_of, route_of}
use Rattle.mixer_chunk.proofs.laws.Rows.{track_here, route_here}

-- rows that are laid over others, whatever those were
laid_over : {A : Type 0} (f : ℕ → A) (g : ℕ → A → A) (n : ℕ) (l : List A) → changed (λ i x. f i) n (changed g n l) ≡ changed (λ i x. f i) n l
laid_over f g n l = changed_twice g (λ i x. f i) n l

-- the row that a loop finds is the one that stood there when it began
pub still_there : {A : Type 0} (f : ℕ → A → A) (i : ℕ) (l : List A) (d : A) {now : List A} → now ≡ changed f i l → get_or now i d ≡ get_or l i d
still_there f i l d e = ap (λ r. get_or r i d) e ∙ changed_here f i l d

resting_still : (line : TrackLine) (place : Placing) (t : Track) → resting (chunk_track line place t) ≡ chunk_track line place (track_still t)
unfolding resting chunk_track track_still
resting_still line place t = refl

module _ (s : Scene) (m : Mixer) (c : Chunk) (kept : Kept s m c) where
  kept_tracks : c.tracks ≡ chunk_tracks s.tracks s.placings s.track_count m.tracks
  unfolding chunk_of chunk_played
  kept_tracks = ap (λ (x : Chunk). x.tracks) (kept 0)

  kept_routes : c.routes ≡ chunk_routes s.routes s.route_count m.routes
  unfolding chunk_of chunk_played
  kept_routes = ap (λ (x : Chunk). x.routes) (kept 0)

  track_kept : SceneOk s → (t : ℕ) → t < s.track_count → get_or c.tracks t absent_track_row ≡ track_of s m t
  unfolding chunk_of
  track_kept ok t b = ap (λ (l : List ChunkTrack). get_or l t absent_track_row) kept_tracks ∙ sym (track_here s 0 m ok t b)

  route_kept : SceneOk s → (r : ℕ) → r < s.route_count → get_or c.routes r absent_route_row ≡ route_of s m r
  unfolding chunk_of
  route_kept ok r b = ap (λ (l : List ChunkRoute). get_or l r absent_route_row) kept_routes ∙ sym (route_here s 0 m ok r b)

-- a chunk of a scene has its counts
pub record CountsOf (s : Scene) (c : Chunk) : Type 0 where
  pub tracks : c.track_count ≡ s.track_count
  pub sends : c.send_count ≡ s.send_count
  pub routes : c.route_count ≡ s.route_count
  pub sounds : c.sound_count ≡ s.sound_count

module _ (s : Scene) (c : Chunk) (m : Mixer) (ok : SceneOk s) (follows : Follows s c m) where
  pub tracks_follow : TracksFollow s c.tracks m
  unfolding chunk_tracks
  tracks_follow =
      record {
        laid =
            ap (changed (λ t x. track_of s m t) s.track_count) (kept_tracks s follows.before c follows.kept)
            ∙ laid_over (track_of s m) (λ t x. track_of s follows.before t) s.track_count (replicate track_places empty_track_row);
        rests = λ t b e.
            let line = get_or s.tracks t absent_track_line in
            let place = (get_or s.placings t absent_track_placing).placing in
            ap resting (track_kept s follows.before c follows.kept ok t b)
            ∙ resting_still line place (state_of follows.before.tracks t)
            ∙ ap (chunk_track line place) (sym (follows.tracks t b e));
      }

  pub routes_follow : RoutesFollow s c.routes m
  unfolding chunk_routes
  routes_follow =
      record {
        laid =
            ap (changed (λ r x. route_of s m r) s.route_count) (kept_routes s follows.before c follows.kept)
            ∙ laid_over (route_of s m) (λ r x. route_of s follows.before r) s.route_count (replicate route_lines empty_route_row);
        rests = λ r b e.
            route_kept s follows.before c follows.kept ok r b
            ∙ ap (chunk_route (get_or s.routes r absent_route_line)) (sym (follows.routes r b e));
      }

  pub counts_follow : CountsOf s c
  unfolding chunk_of chunk_played
  counts_follow =
      let e = follows.kept 0 in
      record {
        tracks = ap (λ (x : Chunk). x.track_count) e;
        sends = ap (λ (x : Chunk). x.send_count) e;
        routes = ap (λ (x : Chunk). x.route_count) e;
        sounds = ap (λ (x : Chunk). x.sound_count) e;
      }
