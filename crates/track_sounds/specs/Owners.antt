-- A chunk's tracks by their parents, and its sounds by their tracks: links that are followed from the latest line on. Its routes by their tracks, from
-- the first line on. Tracks that nothing is heard from have no links.
use Rattle.std.specs.Prelude.{◌≡◌, Bool, true, List, ℕ, suc, ◌+◌, ◌-◌, ◌<◌, replicate}
use Rattle.links.specs.Links.{owners, links_of}
use Rattle.links.specs.Marks.{is_marked, owners_marked, all_above_marked, used_owner}
use Rattle.chunk.specs.declared.chunk.Chunk.{Chunk}
use Rattle.chunk.specs.Chunk.{track_row, route_row, sound_row}
use Rattle.track_sounds.specs.declared.chunk_links.ChunkLinks.{ChunkLinks}

-- The tracks that are mixed, by their line counted from 1: where a sound names a track it is one of them, and so is the parent of each. The frames of
-- any other are zeros.
pub record UsedTracks (c : Chunk) (used : ℕ → Bool) : Type 0 where
  pub sounds : (k : ℕ) → k < c.sound_count → (sound_row c k).track < owners → used (sound_row c k).track ≡ true
  pub parents : (j : ℕ) → j < c.track_count → used (suc j) ≡ true → used (track_row c j).parent ≡ true

-- the parent of track j, counted from 0, if it is mixed
abbrev pub used_parent : Chunk → (ℕ → Bool) → ℕ → ℕ
used_parent c used = used_owner used (λ j. (track_row c j).parent)

-- the links of such tracks
pub record SubTrackLinks (c : Chunk) (a : List ℕ) : Type 0 where
  pub used : ℕ → Bool
  pub all : UsedTracks c used
  pub links : a ≡ links_of (used_parent c used) c.track_count

unfoldable pub sound_links : Chunk → List ℕ
sound_links c = links_of (λ k. (sound_row c k).track) c.sound_count

-- line k + 1, counted from the end, and its track
unfoldable pub route_links : Chunk → List ℕ
route_links c = links_of (λ k. (route_row c (c.route_count - (k + 1))).track) c.route_count

-- three arrays are a chunk's links
pub record LinksOf (c : Chunk) (a b d : List ℕ) : Type 0 where
  pub sub_tracks : SubTrackLinks c a
  pub sounds : b ≡ sound_links c
  pub routes : d ≡ route_links c

abbrev pub Linked : Chunk → ChunkLinks → Type 0
Linked c l = LinksOf c l.sub_tracks l.sounds l.routes

-- ---- the tracks as they are worked out

-- marks of the tracks that sounds name, and of those above them
unfoldable pub marks_of : Chunk → List ℕ
marks_of c = all_above_marked (λ j. (track_row c j).parent) c.track_count (owners_marked (λ k. (sound_row c k).track) c.sound_count (replicate owners 0))

unfoldable pub used_links : Chunk → List ℕ
used_links c = links_of (used_parent c (is_marked (marks_of c))) c.track_count
