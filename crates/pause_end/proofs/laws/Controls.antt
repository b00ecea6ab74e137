-- What is asked has members, and what is asked and claimed is needed: computed counter-examples to c in the place of c + 1, and to blocks that the buffer does
-- not divide. Assumes nothing.
use mathlib.Core.Path.{◌≡◌, refl, sym, ap, ◌∙◌}
use mathlib.Core.Bool.{cond}
use mathlib.Core.List.{List, [], ◌∷◌, map}
use Prim.Native.Nat.{ℕ, ◌+◌, ◌-◌, ◌*◌, ◌/◌, ◌<◌}
use native.Mathlib.Omega.{arith}
use lib.Dec.{lit<}
use lib.Ieee.{binary64, round, add, mul, div, le, of_int}
use Rattle.recordings.specs.Recordings.{Recordings}
use Rattle.laws.specs.Loop.{upto}
use Rattle.laws.specs.Float.{pos_zero}
use Rattle.rounding.specs.Duration.{secs_from_millis}
use Rattle.clock.specs.declared.when_to_start.Clocks.{Clocks}
use Rattle.clock.specs.ChunkTime.{chunk_time}
use Rattle.tween.specs.declared.start_time.StartTime.TheVariants.{Immediate}
use Rattle.tween.specs.declared.tween.Easing.TheVariants.{Linear}
use Rattle.tween.specs.declared.tween.Tween.{Tween}
use Rattle.parameter.specs.Parameter.{parameter_new, parameter_set, started_at, tween_start, with_state, tween_move, tween_update_in, tween_update, with_previous, with_new_value, parameter_update}
use Rattle.playback.specs.declared.playback_state_manager.PlaybackState.{PlaybackState}
use Rattle.playback.specs.declared.playback_state_manager.PlaybackState.TheVariants.{Pausing, Paused}
use Rattle.playback.specs.declared.playback_state_manager.PlaybackStateManager.{PlaybackStateManager}
use Rattle.playback.specs.PlaybackStateManager.{identity, is_stopped, playback_new, playback_pause, after_fade, state_update, playback_update}
use Rattle.scene_file.specs.Grammar.{tables_of}
use Rattle.scene_questions.specs.Questions.{answer}
use Rattle.scene_tables.specs.Tables.{raised}
use Rattle.scene.specs.declared.scene.Head.{Head}
use Rattle.scene.specs.declared.scene.Scene.{Scene}
use Rattle.scene.specs.declared.scene.OrderKind.{OrderKind}
use Rattle.scene.specs.declared.scene.OrderKind.TheVariants.{MainVolume, TrackVolume, SendVolume, RouteVolume, Pause, Resume}
use Rattle.scene.specs.Scene.{kind_of, start_time_of, head_of, track_of, order_of, filled, scene_of}
use Rattle.accepted.specs.Lines.{order_line}
use Rattle.renderer.specs.Renderer.{chunk_frames}
use Rattle.pause_end.specs.PauseEnd.{stays_in_place, PausedOnce, ChunkSince, fade_chunks, state_in, elapsed, reached, fade_state}
use Rattle.pause_end.proofs.laws.PauseOver.{pause_state}

-- ---- a scene that has all that is asked: one track, and its pause over 21 ms in block 0

abbrev row : List ℕ → List ℕ
row = map raised

abbrev scene : Scene
scene =
    scene_of
    ((row (8000 ∷ 2 ∷ 24 ∷ 192 ∷ 1 ∷ 0 ∷ []) ∷ []) ∷ [] ∷ (row (0 ∷ 0 ∷ []) ∷ []) ∷ [] ∷ [] ∷ [] ∷ [] ∷ [] ∷ (row (0 ∷ 4 ∷ 1 ∷ 0 ∷ 0 ∷ 0 ∷ 0 ∷ 21 ∷ 0 ∷ 0 ∷ []) ∷ []) ∷ [])

-- 1 for a resume
resumes : OrderKind → ℕ
resumes MainVolume = 0
resumes TrackVolume = 0
resumes SendVolume = 0
resumes RouteVolume = 0
resumes Pause = 0
resumes Resume = 1

only_line : (j : ℕ) → j < 1 → j ≡ 0
only_line j h = omega arith

not_both : (j : ℕ) → j < 1 → (order_line scene j).kind ≡ Resume → ⊥
unfolding resumes scene_of order_of filled kind_of
not_both j h e =
    let z : ◌≡◌ {A = ℕ} 0 1 = ap (λ (k : ℕ). resumes (order_line scene k).kind) (sym (only_line j h)) ∙ ap resumes e in
    omega arith

pub once : PausedOnce scene 0 0
unfolding scene_of head_of track_of order_of filled kind_of start_time_of stays_in_place
once =
    record {
      there = lit< tt;
      top = refl;
      ordered = lit< tt;
      pause = refl;
      index = refl;
      start = refl;
      only = λ j h k e. only_line j h;
      not_resumed = λ j h k e. not_both j h k;
      stays = tt;
      divides = refl;
    }

-- ---- c chunks are not enough: 21 ms at rate 8000 are 7 chunks of 24 frames exactly, and the f64 sum of 7 chunk lengths falls short of them

-- the state in chunk c
abbrev state_at : ℕ → ℕ → ℕ → PlaybackState
state_at rate buffer m =
    cond (le (secs_from_millis m) (upto (λ k time. add binary64 time (chunk_time rate buffer)) ((m * rate + (1000 * buffer - 1)) / (1000 * buffer)) pos_zero)) Paused Pausing

short : (h : Head) (m : ℕ) → h.rate ≡ 8000 → h.buffer ≡ 24 → m ≡ 21 → fade_state h m (fade_chunks h m) ≡ Pausing
unfolding fade_state reached elapsed fade_chunks secs_from_millis upto round add mul div le of_int
short h m rate buffer millis =
    ap (λ (r : ℕ). state_at r h.buffer m) rate ∙ ap (λ (n : ℕ). state_at 8000 n m) buffer ∙ ap (λ (x : ℕ). state_at 8000 24 x) millis

pub c_too_early : (file : List ℕ) (samples : Recordings) (output : ℕ) → answer file samples output ≡ 0 → (t i : ℕ) → PausedOnce (scene_of (tables_of file)) t i
    → (scene_of (tables_of file)).head.rate ≡ 8000 → (scene_of (tables_of file)).head.buffer ≡ 24 → (order_line (scene_of (tables_of file)) i).millis ≡ 21
    → (b k : ℕ) → ChunkSince (scene_of (tables_of file)) i (fade_chunks (scene_of (tables_of file)).head (order_line (scene_of (tables_of file)) i).millis) b k
    → state_in (scene_of (tables_of file)) t b k ≡ Pausing
c_too_early file samples output e t i once rate buffer millis b k at =
    let s = scene_of (tables_of file) in
    let m = (order_line s i).millis in
    pause_state file samples output e t i once (fade_chunks s.head m) b k at ∙ short s.head m rate buffer millis

-- ---- blocks of one frame at a buffer of 16: 2 ms are one chunk of 16 frames, and chunks c + 1 = 2 have 2 frames in all

abbrev uneven : Head
uneven = record { rate = 8000; channels = 2; buffer = 16; block = 1; blocks = 2; volume = identity }

abbrev no_clocks : Clocks
no_clocks = record { clocks = []; count = 0 }

abbrev two_millis : Tween
two_millis = record { start_time = Immediate; duration = 2; easing = Linear }

-- after so many blocks of one chunk each
abbrev after_blocks : ℕ → PlaybackStateManager
after_blocks n = upto (λ b m. (playback_update m (chunk_time uneven.rate (chunk_frames uneven 0)) no_clocks).manager) n (playback_pause playback_new two_millis)

pub uneven_late : (after_blocks (fade_chunks uneven 2 + 1)).state ≡ Pausing
unfolding fade_chunks chunk_frames secs_from_millis upto round add mul div le of_int playback_new playback_pause is_stopped parameter_new parameter_set playback_update state_update after_fade parameter_update with_previous tween_update tween_update_in tween_start started_at tween_move with_state with_new_value
uneven_late = refl
