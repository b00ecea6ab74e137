-- What mixing a chunk reads: the lines, and every level before the chunk and at its end.
use Rattle.std.specs.Prelude.{◌≡◌, Bool, false, List, ℕ, ◌+◌, ◌*◌, ◌≤◌, ◌<◌, T, pos, get_or, length, replicate, Float}
use Rattle.std.specs.Float.{nan, binary32, binary64}
use Rattle.std.specs.Float.Ieee.{div, mul, eq, of_int}
use Rattle.std.specs.Float.Ieee.Scale.{finite}
use Rattle.limits.specs.Limits.{track_places, send_lines, route_lines, sound_lines, chunk_frames_most}
use Rattle.recordings.specs.Recordings.{Recordings, recording}
use Rattle.decibels.specs.declared.decibels.Amplitude.{Amplitude}
use Rattle.decibels.specs.Decibels.{amplitude}
use Rattle.laws.specs.Loop.{changed}
use Rattle.laws.specs.DecibelRange.{ValueRange}
use Rattle.rounding.specs.Narrow.{narrowed}
use Rattle.tween.specs.Tweenable.{interpolated}
use Rattle.spatial.specs.declared.placing.Placing.TheVariants.{Plain}
use Rattle.spatial.specs.Spatial.{PlacingIn}
use Rattle.chunk.specs.declared.chunk.Level.{Level}
use Rattle.chunk.specs.declared.chunk.ChunkTrack.{ChunkTrack}
use Rattle.chunk.specs.declared.chunk.ChunkRoute.{ChunkRoute}
use Rattle.chunk.specs.declared.chunk.ChunkSound.{ChunkSound}
use Rattle.chunk.specs.declared.chunk.Chunk.{Chunk}

-- what stands past the end of an array
abbrev pub absent_level : Level
absent_level = record { before = record { 0 = nan }; now = record { 0 = nan } }

abbrev pub absent_track_row : ChunkTrack
absent_track_row = record { parent = 0; advancing = false; placing = Plain; volume = absent_level; fade = absent_level }

abbrev pub absent_route_row : ChunkRoute
absent_route_row = record { track = 0; send = 0; amplitude = record { 0 = nan } }

abbrev pub absent_sound_row : ChunkSound
absent_sound_row = record { track = 0; start = 0; left = 0; from = 0 }

-- line j of a table, counted from 0
abbrev pub track_row : Chunk → ℕ → ChunkTrack
track_row c j = get_or c.tracks j absent_track_row

abbrev pub route_row : Chunk → ℕ → ChunkRoute
route_row c r = get_or c.routes r absent_route_row

abbrev pub sound_row : Chunk → ℕ → ChunkSound
sound_row c k = get_or c.sounds k absent_sound_row

abbrev pub send_row : Chunk → ℕ → Level
send_row c s = get_or c.sends s absent_level

-- how far into a chunk of n frames frame i is read: (i + 1) / n
unfoldable pub amount_at : ℕ → ℕ → Float
amount_at i n = div binary64 (of_int binary64 (pos (i + 1))) (of_int binary64 (pos n))

unfoldable pub level_amplitude : Level → Float → Amplitude
level_amplitude l amount = record { 0 = amplitude (interpolated l.before l.now amount).0 }

-- volume times fade
unfoldable pub track_amplitude : ChunkTrack → Float → Amplitude
track_amplitude t amount = record { 0 = mul binary32 (level_amplitude t.volume amount).0 (level_amplitude t.fade amount).0 }

-- ---- the same as the loops over a chunk work it out

-- a level stands still: its two values are equal as floats
unfoldable pub is_steady : Level → Bool
is_steady l = eq l.before.0 l.now.0

-- the one amplitude of such a level
unfoldable pub steady_amplitude : Level → Amplitude
steady_amplitude l = record { 0 = amplitude l.now.0 }

-- the part of a chunk of n frames at which frame i is read: its amount rounded to f32
unfoldable pub part_at : ℕ → ℕ → Float
part_at i n = narrowed (amount_at i n)

-- the factors of a level at the first n frames of a chunk of n, in an array
abbrev pub with_factors : Level → ℕ → List Float → List Float
with_factors l n factors = changed (λ i x. (level_amplitude l (amount_at i n)).0) n factors

-- the parts of a chunk of n frames, and zeros behind them
unfoldable pub parts_of : ℕ → List Float
parts_of n = changed (λ i x. part_at i n) n (replicate chunk_frames_most (of_int binary32 (pos 0)))

-- both values of a level lie in -97..19, so that what is read between them lies in -98..20
pub record LevelInRange (l : Level) : Type 0 where
  pub before : ValueRange l.before.0
  pub now : ValueRange l.now.0

-- the tables have as many places as their arrays
pub record ChunkPlaces (c : Chunk) : Type 0 where
  pub tracks : length c.tracks ≡ track_places
  pub sends : length c.sends ≡ send_lines
  pub routes : length c.routes ≡ route_lines
  pub sounds : length c.sounds ≡ sound_lines

pub record ChunkOk (c : Chunk) (samples : Recordings) : Type 0 where
  pub short : c.frames ≤ chunk_frames_most
  pub tracks : c.track_count ≤ track_places
  pub sends : c.send_count ≤ send_lines
  pub routes : c.route_count ≤ route_lines
  pub sounds : c.sound_count ≤ sound_lines
  pub volumes : (j : ℕ) → j < c.track_count → LevelInRange (track_row c j).volume
  pub fades : (j : ℕ) → j < c.track_count → LevelInRange (track_row c j).fade
  pub placings : (j : ℕ) → j < c.track_count → PlacingIn (track_row c j).placing
  pub send_levels : (s : ℕ) → s < c.send_count → LevelInRange (send_row c s)
  pub main_level : LevelInRange c.main
  -- a route's send track is a line, counted from 1
  pub routed : (r : ℕ) → r < c.route_count → (1 ≤ (route_row c r).send) × ((route_row c r).send ≤ c.send_count)
  pub amplitudes : (r : ℕ) → r < c.route_count → T (finite (route_row c r).amplitude.0)
  -- what a sound has left lies within the buffer that it is from
  pub held : (k : ℕ) → k < c.sound_count → 2 * ((sound_row c k).start + (sound_row c k).left) ≤ length (recording samples (sound_row c k).from)
  pub arrays : ChunkPlaces c
