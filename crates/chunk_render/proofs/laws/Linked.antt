-- The chunks of a scene all have the same links, and room for its lines. Assumes nothing.
use Rattle.std.proofs.Common.{◌≡◌, ℕ, ◌<◌, ◌≤◌, List, sym, refl, ap, ◌∙◌, le_trans, le_of_eq}
use Rattle.limits.specs.Limits.{track_places, route_lines, sound_lines}
use Rattle.scene.specs.declared.scene.Scene.{Scene}
use Rattle.accepted.specs.SceneOk.{SceneOk}
use Rattle.chunk.specs.declared.chunk.ChunkTrack.{ChunkTrack}
use Rattle.chunk.specs.declared.chunk.ChunkRoute.{ChunkRoute}
use Rattle.chunk.specs.declared.chunk.ChunkSound.{ChunkSound}
use Rattle.chunk.specs.declared.chunk.Chunk.{Chunk}
use Rattle.chunk.specs.Chunk.{track_row, route_row, sound_row}
use Rattle.mixer.specs.declared.mixer.Mixer.{Mixer}
use Rattle.mixer_chunk.specs.ChunkOf.{chunk_track, chunk_route, chunk_sound, chunk_of}
use Rattle.mixer_chunk.proofs.laws.Rows.{track_here, route_here, sound_here}
use Rattle.track_sounds.specs.Owners.{LinksOf}
use Rattle.track_sounds.proofs.laws.Owners.{SameOwners, links_kept}

-- its arrays have room for its lines
pub chunk_fits : (s : Scene) (m : Mixer) → SceneOk s → (n : ℕ) {chunk : Chunk} → chunk ≡ chunk_of s n m → (chunk.track_count ≤ track_places) × (chunk.sound_count ≤ sound_lines) × (chunk.route_count ≤ route_lines)
unfolding chunk_of
chunk_fits s m ok n e = (
  le_trans (le_of_eq (ap (λ (c : Chunk). c.track_count) e)) ok.track_count,
  le_trans (le_of_eq (ap (λ (c : Chunk). c.sound_count) e)) ok.sound_count,
  le_trans (le_of_eq (ap (λ (c : Chunk). c.route_count) e)) ok.route_count,
)

module _ (s : Scene) (ok : SceneOk s) (n n' : ℕ) (m m' : Mixer) where
  abbrev here : Chunk
  here = chunk_of s n m

  abbrev there : Chunk
  there = chunk_of s n' m'

  parent_same : (k : ℕ) → k < s.track_count → (track_row here k).parent ≡ (track_row there k).parent
  unfolding chunk_track
  parent_same k b = sym (ap (λ (t : ChunkTrack). t.parent) (track_here s n m ok k b)) ∙ ap (λ (t : ChunkTrack). t.parent) (track_here s n' m' ok k b)

  route_same : (r : ℕ) → r < s.route_count → (route_row here r).track ≡ (route_row there r).track
  unfolding chunk_route
  route_same r b = sym (ap (λ (t : ChunkRoute). t.track) (route_here s n m ok r b)) ∙ ap (λ (t : ChunkRoute). t.track) (route_here s n' m' ok r b)

  sound_same : (k : ℕ) → k < s.sound_count → (sound_row here k).track ≡ (sound_row there k).track
  unfolding chunk_sound
  sound_same k b = sym (ap (λ (t : ChunkSound). t.track) (sound_here s n m ok k b)) ∙ ap (λ (t : ChunkSound). t.track) (sound_here s n' m' ok k b)

  owners_same : SameOwners here there
  unfolding chunk_of
  owners_same = record { parents = parent_same; route_tracks = route_same; sound_tracks = sound_same; track_count = refl; route_count = refl; sound_count = refl }

  -- neither the state nor the frames matter to links
  pub links_same : {a b d : List ℕ} → LinksOf here a b d → LinksOf there a b d
  links_same = links_kept here there owners_same
