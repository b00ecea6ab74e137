-- What mixing reads of a mixer that stands still has no level that moves and is heard. Assumes nothing.
use mathlib.Core.Path.{◌≡◌, refl, sym, ap, ◌∙◌, subst}
use mathlib.Core.Bool.{Bool, true, false, not, ◌&&◌, beq, true≢false}
use Prim.Native.Nat.{ℕ, ◌<◌}
use native.Mathlib.Nat.{le_trans, le_of_eq}
use lib.Dec.{T, eqb}
use lib.ListN.{get_or, replicate, length-replicate}
use lib.Ieee.{Float, binary32, eq, to_bits, of_bits}
use lib.Ieee.Bits.{of_bits-to_bits}
use borrow.Author.Tests.{eqb-true, not-true}
use Rattle.limits.specs.Limits.{track_places, send_lines, sound_lines}
use Rattle.laws.specs.DecibelRange.{ValueRange}
use Rattle.laws.specs.FloatOrder.{Number}
use Rattle.laws.proofs.laws.Choice.{and_left, and_right}
use Rattle.laws.proofs.laws.DecibelRange.{value→read, read_number}
use Rattle.laws.proofs.laws.FloatOrder.{units→eq}
use Rattle.laws.proofs.laws.Loop.{changed_below}
use Rattle.scene_tables.specs.Bytes.{every}
use Rattle.scene_tables.proofs.laws.Every.{every_at}
use Rattle.scene.specs.declared.scene.Scene.{Scene}
use Rattle.accepted.specs.Lines.{sound_line, placing_at, absent_track_line}
use Rattle.accepted.specs.SceneOk.{SceneOk}
use Rattle.chunk.specs.declared.chunk.Level.{Level}
use Rattle.chunk.specs.declared.chunk.ChunkTrack.{ChunkTrack}
use Rattle.chunk.specs.Chunk.{is_steady, absent_level, absent_track_row, absent_sound_row, track_row, send_row, sound_row}
use Rattle.parameter.specs.declared.parameter.Parameter.{Parameter}
use Rattle.parameter.specs.Range.{ParameterIn, value_range}
use Rattle.playback.specs.PlaybackStateManager.{is_advancing}
use Rattle.mixer.specs.declared.sub.Track.{Track}
use Rattle.mixer.specs.declared.mixer.Mixer.{Mixer}
use Rattle.mixer.specs.Mixer.{state_of, parameter_of, live_above}
use Rattle.mixer.specs.MixerOk.{MixerOk}
use Rattle.mixer_chunk.specs.ChunkOf.{level_of, chunk_track, chunk_sound, empty_level, empty_track_row, empty_sound_row, chunk_tracks, chunk_sends, chunk_sounds, chunk_of}
use Rattle.steady_mixer.specs.MixerSteady.{steady_track, steady_route, steady_send, mixer_steady}
use Rattle.steady_mixer.specs.Steady.{Ahead, fade_ahead, same_level, parameter_steady, state_steady, reached_steady, steady_where}
use Rattle.still_chunks.proofs.laws.Chunks.{StillChunk}

-- ---- a value

is_true : (b : Bool) → T b → b ≡ true
is_true true h = refl
is_true false h = absurd h

number : (x : Float) → ValueRange x → Number binary32 x
number x h = read_number x (value→read x h)

equal_itself : (x : Float) → ValueRange x → eq x x ≡ true
equal_itself x h = is_true (eq x x) (units→eq binary32 x x (number x h) (number x h) refl)

-- numbers with the same bits are equal
equal_bits : (x y : Float) → ValueRange x → ValueRange y → eqb (to_bits binary32 x) (to_bits binary32 y) ≡ true → eq x y ≡ true
equal_bits x y h k e = subst (λ (z : Float). eq x z ≡ true) same (equal_itself x h)
  where
    same : x ≡ y
    same =
        sym (of_bits-to_bits binary32 x (number x h).held)
        ∙ ap (of_bits binary32) (eqb-true (to_bits binary32 x) (to_bits binary32 y) e)
        ∙ of_bits-to_bits binary32 y (number y k).held

level_still : (h : Ahead) (p : Parameter) → ParameterIn value_range p → parameter_steady h p ≡ true → is_steady (level_of p) ≡ true
unfolding parameter_steady same_level is_steady level_of
level_still h p within e = equal_bits p.previous_raw_value.0 p.raw_value.0 within.previous within.value (and_left (same_level p.previous_raw_value p.raw_value) _ e)

-- ---- a track that is live

abbrev LevelsSteady : Ahead → Track → Type 0
LevelsSteady h t = (parameter_steady h t.volume ≡ true) × (parameter_steady (fade_ahead h t.playback.state) t.playback.volume_fade ≡ true)

reached_levels : (h : Ahead) (t : Track) → reached_steady h t ≡ true → LevelsSteady h t
unfolding reached_steady
reached_levels h t e =
    let flag = beq t.live (is_advancing t.playback.state) in
    let volume = parameter_steady h t.volume in
    let fade = parameter_steady (fade_ahead h t.playback.state) t.playback.volume_fade in
    let both = and_right flag (volume && fade) (and_right (state_steady h t.playback.state) (flag && (volume && fade)) e) in
    (and_left volume fade both, and_right volume fade both)

live_levels : (h : Ahead) (t : Track) (reached : Bool) → steady_where h t reached ≡ true → t.live ≡ true → LevelsSteady h t
unfolding steady_where
live_levels g t true e h = reached_levels g t (and_right (beq t.reached true) (reached_steady g t) e)
live_levels g t false e h = absurd (true≢false (sym h ∙ not-true t.live (and_right (beq t.reached false) (not t.live) e)))

-- ---- the rows of a chunk

module _ (s : Scene) (ok : SceneOk s) (n : ℕ) (m : Mixer) where
  track_row_lem : (t : ℕ) → t < s.track_count → track_row (chunk_of s n m) t ≡ chunk_track (get_or s.tracks t absent_track_line) (placing_at s t) (state_of m.tracks t)
  unfolding chunk_of chunk_tracks
  track_row_lem t b =
      changed_below (λ t x. chunk_track (get_or s.tracks t absent_track_line) (placing_at s t) (state_of m.tracks t)) s.track_count (replicate track_places empty_track_row) t absent_track_row b
      (le_trans b (le_trans ok.track_count (le_of_eq (sym (length-replicate track_places empty_track_row)))))

  send_row_lem : (i : ℕ) → i < s.send_count → send_row (chunk_of s n m) i ≡ level_of (parameter_of m.sends i)
  unfolding chunk_of chunk_sends
  send_row_lem i b =
      changed_below (λ i x. level_of (parameter_of m.sends i)) s.send_count (replicate send_lines empty_level) i absent_level b
      (le_trans b (le_trans ok.send_count (le_of_eq (sym (length-replicate send_lines empty_level)))))

  pub sound_row_lem : (k : ℕ) → k < s.sound_count → sound_row (chunk_of s n m) k ≡ chunk_sound (sound_line s k) (get_or m.played k 0)
  unfolding chunk_of chunk_sounds
  sound_row_lem k b =
      changed_below (λ k x. chunk_sound (sound_line s k) (get_or m.played k 0)) s.sound_count (replicate sound_lines empty_sound_row) k absent_sound_row b
      (le_trans b (le_trans ok.sound_count (le_of_eq (sym (length-replicate sound_lines empty_sound_row)))))

  pub row_live : (t : ℕ) → t < s.track_count → (track_row (chunk_of s n m) t).advancing ≡ (state_of m.tracks t).live
  unfolding chunk_track
  row_live t b = ap (λ (x : ChunkTrack). x.advancing) (track_row_lem t b)

  row_volume : (t : ℕ) → t < s.track_count → (track_row (chunk_of s n m) t).volume ≡ level_of (state_of m.tracks t).volume
  unfolding chunk_track
  row_volume t b = ap (λ (x : ChunkTrack). x.volume) (track_row_lem t b)

  row_fade : (t : ℕ) → t < s.track_count → (track_row (chunk_of s n m) t).fade ≡ level_of (state_of m.tracks t).playback.volume_fade
  unfolding chunk_track
  row_fade t b = ap (λ (x : ChunkTrack). x.fade) (track_row_lem t b)

-- ---- the mixer's tests

module _ (g : Ahead) (s : Scene) (m : Mixer) (e : mixer_steady g s m ≡ true) where
  abbrev rest_sends : Bool
  rest_sends = every s.send_count (steady_send g m.sends)

  abbrev rest_tracks : Bool
  rest_tracks = every s.track_count (steady_track g s.tracks m.tracks)

  abbrev rest_routes : Bool
  rest_routes = every s.route_count (steady_route g s.routes m.tracks m.routes)

  main_rests : parameter_steady g m.main_volume ≡ true
  unfolding mixer_steady
  main_rests = and_left (parameter_steady g m.main_volume) (rest_sends && (rest_tracks && rest_routes)) e

  others_rest : (rest_sends && (rest_tracks && rest_routes)) ≡ true
  unfolding mixer_steady
  others_rest = and_right (parameter_steady g m.main_volume) (rest_sends && (rest_tracks && rest_routes)) e

  send_rests : (i : ℕ) → i < s.send_count → parameter_steady g (parameter_of m.sends i) ≡ true
  unfolding steady_send
  send_rests i b = every_at s.send_count (steady_send g m.sends) i b (and_left rest_sends (rest_tracks && rest_routes) others_rest)

  track_rests : (t : ℕ) → t < s.track_count → (state_of m.tracks t).live ≡ true → LevelsSteady g (state_of m.tracks t)
  unfolding steady_track
  track_rests t b =
      live_levels g (state_of m.tracks t) (live_above m.tracks (get_or s.tracks t absent_track_line).parent)
      (every_at s.track_count (steady_track g s.tracks m.tracks) t b (and_left rest_tracks rest_routes (and_right rest_sends (rest_tracks && rest_routes) others_rest)))

-- ---- the chunk

steady_as : {l k : Level} → l ≡ k → is_steady k ≡ true → is_steady l ≡ true
steady_as e h = ap is_steady e ∙ h

pub still_chunk : (g : Ahead) (s : Scene) (n c : ℕ) (m : Mixer) → SceneOk s → MixerOk s c m → mixer_steady g s m ≡ true → StillChunk (chunk_of s n m)
unfolding chunk_of
still_chunk g s n c m ok h e =
    record {
      main_level = level_still g m.main_volume h.main (main_rests g s m e);
      send_levels = λ i b. steady_as (send_row_lem s ok n m i b) (level_still g (parameter_of m.sends i) (h.sends i b) (send_rests g s m e i b));
      volumes = λ t b live. steady_as (row_volume s ok n m t b) (level_still g (state_of m.tracks t).volume (h.tracks t b).volume (track_rests g s m e t b (sym (row_live s ok n m t b) ∙ live)).0);
      fades = λ t b live. steady_as (row_fade s ok n m t b) (level_still (fade_ahead g (state_of m.tracks t).playback.state) (state_of m.tracks t).playback.volume_fade (h.tracks t b).playback.fade (track_rests g s m e t b (sym (row_live s ok n m t b) ∙ live)).1);
    }
