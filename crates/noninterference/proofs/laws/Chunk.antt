-- A chunk c, and the chunk c' that is left of it once what lies inside some silent tracks is removed. Tracks,
-- routes and sounds are counted from 0 here: `keep` says which tracks are kept, `chosen` which of them lose what lies inside, and `quiet` which have no
-- route, nor has any track below them. Of c' and its samples nothing is asked but that they are what is left. Assumes nothing.
use mathlib.Core.Path.{◌≡◌}
use mathlib.Core.Logic.{◌⊎◌}
use mathlib.Core.Bool.{Bool, false, cond}
use Prim.Native.Nat.{ℕ, suc, ◌<◌}
use lib.Dec.{T}
use lib.Ieee.Scale.{finite}
use Rattle.recordings.specs.Recordings.{Recordings}
use Rattle.laws.specs.Kept.{rank}
use Rattle.laws.proofs.laws.Float.{Zero}
use Rattle.laws.specs.FloatBounds.{Within}
use Rattle.spatial.specs.declared.placing.Placing.TheVariants.{Plain}
use Rattle.chunk.specs.declared.chunk.ChunkTrack.{ChunkTrack}
use Rattle.chunk.specs.declared.chunk.ChunkRoute.{ChunkRoute}
use Rattle.chunk.specs.declared.chunk.Chunk.{Chunk}
use Rattle.chunk.specs.Chunk.{amount_at, level_amplitude, ChunkOk, route_row, sound_row, track_row, send_row}
use Rattle.track_sounds.specs.Sound.{sound_frame}
use Rattle.noninterference.specs.Removed.{new_line}
use Rattle.noninterference.proofs.laws.Lines.{kept_line, open_line}

-- a row with its references counted among the lines kept, and without its placing where it is chosen
abbrev pub new_track : (ℕ → Bool) → Bool → ChunkTrack → ChunkTrack
new_track keep chosen t = record { parent = new_line keep t.parent; advancing = t.advancing; placing = cond chosen Plain t.placing; volume = t.volume; fade = t.fade }

abbrev pub new_route : (ℕ → Bool) → ChunkRoute → ChunkRoute
new_route keep r = record { track = new_line keep r.track; send = r.send; amplitude = r.amplitude }

-- a route is kept where its track is, a sound where its track is kept and not chosen
abbrev pub kept_route : (ℕ → Bool) → Chunk → ℕ → Bool
kept_route keep c r = kept_line keep (route_row c r).track

abbrev pub kept_sound : (ℕ → Bool) → (ℕ → Bool) → Chunk → ℕ → Bool
kept_sound keep chosen c k = open_line keep chosen (sound_row c k).track

-- track p's volume is silent throughout the chunk, and the tracks right below it are quiet
pub record Muted (quiet : ℕ → Bool) (c : Chunk) (p : ℕ) : Type 0 where
  pub silent : (i : ℕ) → i < c.frames → Zero (level_amplitude (track_row c p).volume (amount_at i c.frames)).0
  pub below : (j : ℕ) → j < c.track_count → (track_row c j).parent ≡ suc p → T (quiet j)

pub record Without (keep chosen quiet : ℕ → Bool) (c : Chunk) (samples : Recordings) (c' : Chunk) (samples' : Recordings) : Type 0 where
  -- c' is what is left of c
  pub same_frames : c'.frames ≡ c.frames
  pub same_main : c'.main ≡ c.main
  pub send_count : c'.send_count ≡ c.send_count
  pub same_sends : (s : ℕ) → s < c.send_count → send_row c' s ≡ send_row c s
  pub track_count : c'.track_count ≡ rank keep c.track_count
  pub kept_tracks : (j : ℕ) → j < c.track_count → T (keep j) → track_row c' (rank keep j) ≡ new_track keep (chosen j) (track_row c j)
  pub route_count : c'.route_count ≡ rank (kept_route keep c) c.route_count
  pub kept_routes : (r : ℕ) → r < c.route_count → T (kept_route keep c r) → route_row c' (rank (kept_route keep c) r) ≡ new_route keep (route_row c r)
  pub sound_count : c'.sound_count ≡ rank (kept_sound keep chosen c) c.sound_count
  pub kept_sounds : (k : ℕ) → k < c.sound_count → T (kept_sound keep chosen c k) → (sound_row c' (rank (kept_sound keep chosen c) k)).track ≡ new_line keep (sound_row c k).track
  pub kept_frames : (k : ℕ) → k < c.sound_count → T (kept_sound keep chosen c k) → (i : ℕ) → i < c.frames
      → sound_frame samples' (sound_row c' (rank (kept_sound keep chosen c) k)) i ≡ sound_frame samples (sound_row c k) i
  -- a track is kept where it stands right under the mixer, or under a track that is kept and not chosen
  pub tree : (j : ℕ) → j < c.track_count → keep j ≡ open_line keep chosen (track_row c j).parent
  -- each chosen track is silent: it does not advance, or it is muted
  pub chosen_silent : (p : ℕ) → p < c.track_count → T (chosen p) → ((track_row c p).advancing ≡ false) ⊎ Muted quiet c p
  pub quiet_routes : (j : ℕ) → j < c.track_count → T (quiet j) → (r : ℕ) → r < c.route_count → (route_row c r).track ≡ suc j → ⊥
  pub quiet_below : (j : ℕ) → j < c.track_count → T (quiet j) → (k : ℕ) → k < c.track_count → (track_row c k).parent ≡ suc j → T (quiet k)
  -- c's values
  pub in_range : ChunkOk c samples
  pub sound_values : (k : ℕ) → k < c.sound_count → (i : ℕ) → i < c.frames
      → Within (sound_frame samples (sound_row c k) i).left 1 1 × Within (sound_frame samples (sound_row c k) i).right 1 1
  pub route_amplitude : (r : ℕ) → r < c.route_count → T (finite (route_row c r).amplitude.0)
