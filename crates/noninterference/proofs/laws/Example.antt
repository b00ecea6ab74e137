-- A chunk that loses what lies inside: the relation has members. Track 0 is chosen and muted, with a placing, a sound and a route of its own; track 1 stands
-- below it, with a placing and a sound. What is left is track 0 and its route. Assumes nothing.
use mathlib.Core.Path.{◌≡◌, refl}
use mathlib.Core.Logic.{◌⊎◌, inr}
use mathlib.Core.Bool.{Bool, true, false}
use mathlib.Core.List.{[], ◌∷◌}
use Prim.Native.Nat.{ℕ, zero, suc, ◌+◌, ◌*◌, ◌≤◌, ◌<◌}
use native.Mathlib.Omega.{arith}
use lib.Dec.{T, lit≤}
use lib.Ieee.{fits, le, of_int, neg}
use lib.Ieee.Scale.{finite}
use lib.ListN.{length, replicate}
use Rattle.recordings.specs.Recordings.{Recordings, recordings, from_visitor, recording}
use Rattle.limits.specs.Limits.{route_lines, send_lines}
use Rattle.laws.specs.Kept.{rank}
use Rattle.laws.specs.Float.{pos_zero, one}
use Rattle.laws.specs.FloatBounds.{Within}
use Rattle.laws.specs.DecibelRange.{ValueRange}
use Rattle.laws.proofs.laws.DecibelRange.{minus_sixty, minus_sixty_silent, pos_zero_target, silent→target, target→value}
use Rattle.spatial.specs.declared.placing.Placing.{Placing}
use Rattle.spatial.specs.declared.placing.Placing.TheVariants.{Plain, Unheard, Spatial}
use Rattle.spatial.specs.Spatial.{PlacingIn}
use Rattle.chunk.specs.declared.chunk.Level.{Level}
use Rattle.chunk.specs.declared.chunk.ChunkTrack.{ChunkTrack}
use Rattle.chunk.specs.declared.chunk.ChunkRoute.{ChunkRoute}
use Rattle.chunk.specs.declared.chunk.ChunkSound.{ChunkSound}
use Rattle.chunk.specs.declared.chunk.Chunk.{Chunk}
use Rattle.frame.specs.Frame.{sample_frame}
use Rattle.chunk.specs.Chunk.{amount_at, LevelInRange, ChunkOk, track_row, route_row, sound_row, send_row}
use Rattle.chunk.proofs.laws.Chunk.{amount_is}
use Rattle.track_sounds.specs.Sound.{sound_frame}
use Rattle.track.specs.Mix.{mixed_frame}
use Rattle.noninterference.specs.Removed.{new_line}
use Rattle.noninterference.proofs.laws.Lines.{kept_line, open_line}
use Rattle.noninterference.proofs.laws.Chunk.{new_track, new_route, kept_route, kept_sound, Muted, Without}
use Rattle.noninterference.proofs.laws.Bounds.{level_silent}
use Rattle.noninterference.proofs.laws.Mix.{mixed_same}

abbrev first : ℕ → Bool
first zero = true
first (suc j) = false

abbrev later : ℕ → Bool
later zero = false
later (suc j) = true

abbrev unity : Level
unity = record { before = record { 0 = pos_zero }; now = record { 0 = pos_zero } }

abbrev silence : Level
silence = record { before = record { 0 = minus_sixty }; now = record { 0 = minus_sixty } }

abbrev near : Placing
near = Spatial (record { 0 = pos_zero })

abbrev muted : Placing → ChunkTrack
muted placing = record { parent = 0; advancing = true; placing = placing; volume = silence; fade = unity }

abbrev inner : ChunkTrack
inner = record { parent = 1; advancing = true; placing = Unheard; volume = unity; fade = unity }

abbrev route : ChunkRoute
route = record { track = 1; send = 1; amplitude = record { 0 = one } }

abbrev sound : ℕ → ChunkSound
sound line = record { track = line; start = 0; left = 1; from = from_visitor }

abbrev samples : Recordings
samples = recordings [] (one ∷ one ∷ [])

abbrev none : Recordings
none = recordings [] []

abbrev whole : Chunk
whole =
    record {
      frames = 1;
      track_count = 2;
      tracks = muted near ∷ inner ∷ replicate 30 inner;
      send_count = 1;
      sends = replicate send_lines unity;
      route_count = 1;
      routes = replicate route_lines route;
      sound_count = 2;
      sounds = sound 1 ∷ sound 2 ∷ replicate 62 (sound 2);
      main = unity;
    }

abbrev rest : Chunk
rest =
    record {
      frames = 1;
      track_count = 1;
      tracks = muted Plain ∷ [];
      send_count = 1;
      sends = replicate send_lines unity;
      route_count = 1;
      routes = route ∷ [];
      sound_count = 0;
      sounds = [];
      main = unity;
    }

unity_in : LevelInRange unity
unity_in = record { before = target→value pos_zero pos_zero_target; now = target→value pos_zero pos_zero_target }

silence_in : LevelInRange silence
silence_in =
    let h : ValueRange minus_sixty = target→value minus_sixty (silent→target minus_sixty minus_sixty_silent) in
    record { before = h; now = h }

near_in : PlacingIn near
unfolding fits le of_int neg
near_in = record { held = tt; least = tt; most = tt }

-- two lines, and one
pub two : (P : ℕ → Type 0) → P 0 → P 1 → (j : ℕ) → j < 2 → P j
two P a b zero l = a
two P a b (suc zero) l = b
two P a b (suc (suc j)) l = absurd (omega arith)

pub only : (P : ℕ → Type 0) → P 0 → (j : ℕ) → j < 1 → P j
only P a zero l = a
only P a (suc j) l = absurd (omega arith)

whole_ok : ChunkOk whole samples
unfolding recording
whole_ok =
    record {
      short = lit≤ tt;
      tracks = lit≤ tt;
      sends = lit≤ tt;
      routes = lit≤ tt;
      sounds = lit≤ tt;
      volumes = two (λ j. LevelInRange (track_row whole j).volume) silence_in unity_in;
      fades = two (λ j. LevelInRange (track_row whole j).fade) unity_in unity_in;
      placings = two (λ j. PlacingIn (track_row whole j).placing) near_in tt;
      send_levels = only (λ s. LevelInRange (send_row whole s)) unity_in;
      main_level = unity_in;
      routed = only (λ r. (1 ≤ (route_row whole r).send) × ((route_row whole r).send ≤ whole.send_count)) (lit≤ tt, lit≤ tt);
      amplitudes = only (λ r. T (finite (route_row whole r).amplitude.0)) tt;
      held = two (λ k. 2 * ((sound_row whole k).start + (sound_row whole k).left) ≤ length (recording samples (sound_row whole k).from)) (lit≤ tt) (lit≤ tt);
      arrays = record { tracks = refl; sends = refl; routes = refl; sounds = refl };
    }

silent_here : Muted later whole 0
silent_here =
    record {
      silent = λ i l. level_silent silence (amount_at i 1) minus_sixty_silent minus_sixty_silent (amount_is i 1 l (lit≤ tt));
      below = two (λ j. (track_row whole j).parent ≡ 1 → T (later j)) (λ e. absurd (omega arith)) (λ e. tt);
    }

one_within : Within one 1 1
one_within = record { is_finite = tt; size = lit≤ tt }

played : (i : ℕ) → i < 1 → Within (sound_frame samples (sound 1) i).left 1 1 × Within (sound_frame samples (sound 1) i).right 1 1
unfolding recording sound_frame sample_frame
played = only (λ i. Within (sound_frame samples (sound 1) i).left 1 1 × Within (sound_frame samples (sound 1) i).right 1 1) (one_within, one_within)

no_route : (j : ℕ) → T (later j) → 1 ≡ suc j → ⊥
no_route zero q e = q
no_route (suc j) q e = omega arith

pub example : Without first first later whole samples rest none
unfolding recording rank new_line kept_line open_line sound_frame sample_frame
example =
    record {
      same_frames = refl;
      same_main = refl;
      send_count = refl;
      same_sends = λ s l. refl;
      track_count = refl;
      kept_tracks = two (λ j. T (first j) → track_row rest (rank first j) ≡ new_track first (first j) (track_row whole j)) (λ t. refl) (λ t. absurd t);
      route_count = refl;
      kept_routes = only (λ r. T (kept_route first whole r) → route_row rest (rank (kept_route first whole) r) ≡ new_route first (route_row whole r)) (λ t. refl);
      sound_count = refl;
      kept_sounds =
          two (λ k. T (kept_sound first first whole k) → (sound_row rest (rank (kept_sound first first whole) k)).track ≡ new_line first (sound_row whole k).track) (λ t. absurd t) (λ t. absurd t);
      kept_frames =
          two (λ k. T (kept_sound first first whole k) → (i : ℕ) → i < 1 → sound_frame none (sound_row rest (rank (kept_sound first first whole) k)) i ≡ sound_frame samples (sound_row whole k) i)
          (λ t. absurd t) (λ t. absurd t);
      tree = two (λ j. first j ≡ open_line first first (track_row whole j).parent) refl refl;
      chosen_silent = two (λ p. T (first p) → ((track_row whole p).advancing ≡ false) ⊎ Muted later whole p) (λ t. inr silent_here) (λ t. absurd t);
      quiet_routes = λ j l q. only (λ r. (route_row whole r).track ≡ suc j → ⊥) (no_route j q);
      quiet_below = λ j l q. two (λ k. (track_row whole k).parent ≡ suc j → T (later k)) (λ e. absurd (omega arith)) (λ e. tt);
      in_range = whole_ok;
      sound_values =
          two (λ k. (i : ℕ) → i < 1 → Within (sound_frame samples (sound_row whole k) i).left 1 1 × Within (sound_frame samples (sound_row whole k) i).right 1 1) played played;
      route_amplitude = only (λ r. T (finite (route_row whole r).amplitude.0)) tt;
    }

pub same_mix : mixed_frame whole samples 0 ≡ mixed_frame rest none 0
same_mix = mixed_same example 0 (lit≤ tt)
