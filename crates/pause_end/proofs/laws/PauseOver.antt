-- When a pause is over. Assumes nothing.
use mathlib.Core.Path.{◌≡◌, refl, ap, ◌∙◌}
use mathlib.Core.Bool.{Bool, true, false, not, cond}
use mathlib.Core.List.{List}
use Prim.Native.Nat.{ℕ, zero, suc, ◌+◌, ◌-◌, ◌*◌, ◌≤◌, ◌<◌}
use native.Mathlib.Nat.{le_trans, le_of_eq, lt_of_lt_of_le, mul-le-mul, mul-le-mul_right, mul_assoc}
use native.Mathlib.Omega.{arith}
use lib.Dec.{lit≤}
use lib.Ieee.{Float}
use lib.Ieee.Bits.{is_true}
use Rattle.limits.specs.Limits.{track_depth}
use Rattle.recordings.specs.Recordings.{Recordings}
use Rattle.laws.proofs.laws.Choice.{cond-false, true-T}
use Rattle.clock.specs.ChunkTime.{chunk_time}
use Rattle.tween.specs.declared.tween.Tween.{Tween}
use Rattle.playback.specs.declared.playback_state_manager.PlaybackState.TheVariants.{Pausing, Paused}
use Rattle.playback.specs.declared.playback_state_manager.PlaybackStateManager.{PlaybackStateManager}
use Rattle.playback.specs.PlaybackStateManager.{is_advancing}
use Rattle.scene_file.specs.Grammar.{tables_of}
use Rattle.scene_questions.specs.Questions.{answer}
use Rattle.scene.specs.declared.scene.Head.{Head}
use Rattle.scene.specs.declared.scene.Scene.{Scene}
use Rattle.scene.specs.Scene.{scene_of}
use Rattle.accepted.specs.Lines.{order_line}
use Rattle.accepted.specs.SceneOk.{SceneOk}
use Rattle.accepted.proofs.laws.Accepted.{accepted_ok}
use Rattle.frame.specs.Frame.{zero_frame}
use Rattle.chunk.specs.declared.chunk.Chunk.{Chunk}
use Rattle.chunk.specs.declared.chunk.ChunkTrack.{ChunkTrack}
use Rattle.chunk.specs.Chunk.{track_row}
use Rattle.track.specs.Sub.{track_frame}
use Rattle.order_lines.specs.Orders.{tween_of}
use Rattle.mixer.specs.Orders.{mixer_ordered}
use Rattle.mixer_chunk.specs.ChunkOf.{chunk_track}
use Rattle.mixer_laws.proofs.laws.Ordered.{ordered_ok}
use Rattle.renderer.specs.Renderer.{chunk_count, chunk_frames, chunks_done, mixer_at, mixer_in, chunk_in}
use Rattle.renderer.proofs.laws.Renderer.{chunks_ok, blocks_ok}
use Rattle.noninterference.proofs.laws.Arrays.{line_of}
use Rattle.noninterference.proofs.laws.ChunkLines.{track_line_lem}
use Rattle.pause_end.specs.PauseEnd.{PausedOnce, ChunkSince, fade_chunks, last_chunk, state_in, PausedIn, elapsed, reached, fade_state}
use Rattle.pause_end.proofs.laws.Sum.{show_frames, fade_covered, fade_over, reached_stays}
use Rattle.pause_end.proofs.laws.Fade.{ended, over, Stands, ended_since, ended_now}
use Rattle.pause_end.proofs.laws.Orders.{playback_at}
use Rattle.pause_end.proofs.laws.Chunks.{chunks_fill, live_in}
use Rattle.pause_end.proofs.laws.Run.{stands}

-- ---- general facts

-- a track that does not advance gives zeros
still_frame : (d : ℕ) (c : Chunk) (samples : Recordings) (line i : ℕ) → (track_row c (line - 1)).advancing ≡ false → track_frame d c samples line i ≡ zero_frame
unfolding track_frame
still_frame zero c samples line i e = refl
still_frame (suc d) c samples line i e = cond-false (track_row c (line - 1)).advancing _ zero_frame e

advances_still : (b : Bool) → is_advancing (cond b Paused Pausing) ≡ not b
unfolding is_advancing
advances_still true = refl
advances_still false = refl

stands_state : (b : Bool) (dt : Float) (tween : Tween) (n : ℕ) (m : PlaybackStateManager) → Stands b dt tween n m → m.state ≡ cond b Paused Pausing
stands_state true dt tween n m h = h
stands_state false dt tween n m h = h.state

-- n chunks since block a are no more than the chunks of b + 1 blocks
few_chunks : (x y z c k n : ℕ) → x + c ≡ y → k < c → x + (k + 1) ≡ z + n → n ≤ y
few_chunks x y z c k n e l f = omega arith

next_block : (b c : ℕ) → b * c + c ≡ suc b * c
next_block b c = omega arith

module _ {s : Scene} {t i : ℕ} (ok : SceneOk s) (once : PausedOnce s t i) {n b k : ℕ} (at : ChunkSince s i n b k) where
  abbrev h : Head
  h = s.head

  abbrev millis : ℕ
  millis = (order_line s i).millis

  abbrev dt : Float
  dt = chunk_time h.rate h.buffer

  -- ---- the show has few frames

  since_few : n ≤ suc b * chunk_count h
  since_few = few_chunks (b * chunk_count h) (suc b * chunk_count h) ((order_line s i).block * chunk_count h) (chunk_count h) k n (next_block b (chunk_count h)) at.chunk at.counted

  frames_few : n * h.buffer ≤ show_frames
  frames_few =
      le_trans (mul-le-mul_right h.buffer since_few)
      (le_trans (le_of_eq (mul_assoc (suc b) (chunk_count h) h.buffer ∙ ap (λ (x : ℕ). suc b * x) (chunks_fill h ok.buffer.0 once.divides)))
      (le_trans (mul-le-mul (le_trans at.block ok.blocks.1) ok.block.1) (lit≤ tt)))

  fewer : (j : ℕ) → j ≤ n → j * h.buffer ≤ show_frames
  fewer j l = le_trans (mul-le-mul_right h.buffer l) frames_few

  -- ---- the state

  state_ended : state_in s t b k ≡ cond (ended (over dt millis) n) Paused Pausing
  unfolding tween_of
  state_ended = stands_state (ended (over dt millis) n) dt (tween_of (order_line s i)) n (playback_at (mixer_in s b k) t) (stands ok once n b k at)

  over_stays : (j : ℕ) → suc j ≤ n → over dt millis j ≡ true → over dt millis (suc j) ≡ true
  over_stays j l e =
      is_true (over dt millis (suc j))
      (reached_stays h.rate h.buffer ok.rate.0 ok.rate.1 ok.buffer.0 ok.buffer.1 millis j (ok.orders i once.ordered).millis (fewer (suc j) l) (true-T (over dt millis j) e))

  state_now : state_in s t b k ≡ fade_state h millis n
  unfolding fade_state reached elapsed
  state_now = state_ended ∙ ap (λ (x : Bool). cond x Paused Pausing) (go n refl)
    where
      go : (j : ℕ) → j ≡ n → ended (over dt millis) j ≡ over dt millis j
      go zero e = absurd (omega (arith, at.first))
      go (suc j) e = ended_now (over dt millis) j (λ a l. over_stays a (omega arith))

  advancing_is : (track_row (chunk_in s b k) t).advancing ≡ is_advancing (state_in s t b k)
  unfolding chunk_track
  advancing_is =
      let start = mixer_ordered s b (mixer_at s b) in
      let ordered = ordered_ok s (b * chunk_count h) b (mixer_at s b) ok (blocks_ok s ok b) in
      let places = (chunks_ok s ok k (b * chunk_count h) start ordered).track_places in
      ap (λ (x : ChunkTrack). x.advancing) (track_line_lem s (chunk_frames h k) (mixer_in s b k) t once.there (lt_of_lt_of_le once.there ok.track_count))
      ∙ live_in ok once.there once.top once.divides k at.chunk (chunks_done s k start) places

  advancing_now : (track_row (chunk_in s b k) t).advancing ≡ not (reached h millis n)
  unfolding fade_state
  advancing_now = advancing_is ∙ ap is_advancing state_now ∙ advances_still (reached h millis n)

  -- ---- it is over

  over_last : fade_chunks h millis + 1 ≤ n → over dt millis (fade_chunks h millis + 1) ≡ true
  over_last late =
      is_true (over dt millis (fade_chunks h millis + 1))
      (fade_over h.rate h.buffer ok.rate.0 ok.rate.1 ok.buffer.0 ok.buffer.1 (fade_chunks h millis) millis (fewer (fade_chunks h millis + 1) late) (fade_covered h millis ok.buffer.0))

  -- it stays over
  paused_since : (a : ℕ) → 1 ≤ a → a ≤ n → over dt millis a ≡ true → state_in s t b k ≡ Paused
  paused_since a some late e = state_ended ∙ ap (λ (x : Bool). cond x Paused Pausing) (ended_since (over dt millis) n a some late e)

  paused_last : last_chunk s i ≤ n → state_in s t b k ≡ Paused
  unfolding last_chunk
  paused_last late = paused_since (fade_chunks h millis + 1) (omega arith) (omega (arith, late)) (over_last (omega (arith, late)))

  paused_in : (samples : Recordings) → state_in s t b k ≡ Paused → PausedIn s samples t b k
  unfolding is_advancing
  paused_in samples paused =
      let still : (track_row (chunk_in s b k) t).advancing ≡ false = advancing_is ∙ ap is_advancing paused in
      record {
        state = paused;
        frames = λ j. still_frame track_depth (chunk_in s b k) samples (suc t) j (ap (λ (x : ℕ). (track_row (chunk_in s b k) x).advancing) (line_of t) ∙ still);
      }

-- ---- the theorems, of accepted scenes

-- from chunk c + 1 on, counted from the order, the track is paused and all its frames are zero
pub pause_over : (file : List ℕ) (samples : Recordings) (output : ℕ) → answer file samples output ≡ 0 → (t i : ℕ) → PausedOnce (scene_of (tables_of file)) t i
    → (n b k : ℕ) → ChunkSince (scene_of (tables_of file)) i n b k → last_chunk (scene_of (tables_of file)) i ≤ n → PausedIn (scene_of (tables_of file)) samples t b k
pause_over file samples output e t i once n b k at late =
    let ok = accepted_ok file samples output e in
    paused_in ok once at samples (paused_last ok once at late)

-- in chunk n it is paused where the sum of n chunk lengths has reached the fade's length, and until then it fades
pub pause_state : (file : List ℕ) (samples : Recordings) (output : ℕ) → answer file samples output ≡ 0 → (t i : ℕ) → PausedOnce (scene_of (tables_of file)) t i
    → (n b k : ℕ) → ChunkSince (scene_of (tables_of file)) i n b k → state_in (scene_of (tables_of file)) t b k ≡ fade_state (scene_of (tables_of file)).head (order_line (scene_of (tables_of file)) i).millis n
pause_state file samples output e t i once n b k at = state_now (accepted_ok file samples output e) once at

-- and so it advances in every chunk in which the sum has not reached it,
pub pause_advances : (file : List ℕ) (samples : Recordings) (output : ℕ) → answer file samples output ≡ 0 → (t i : ℕ) → PausedOnce (scene_of (tables_of file)) t i
    → (n b k : ℕ) → ChunkSince (scene_of (tables_of file)) i n b k
    → (track_row (chunk_in (scene_of (tables_of file)) b k) t).advancing ≡ not (reached (scene_of (tables_of file)).head (order_line (scene_of (tables_of file)) i).millis n)
pause_advances file samples output e t i once n b k at = advancing_now (accepted_ok file samples output e) once at

-- and from the first chunk a in which it has, the track is paused and all its frames are zero
pub pause_ends : (file : List ℕ) (samples : Recordings) (output : ℕ) → answer file samples output ≡ 0 → (t i : ℕ) → PausedOnce (scene_of (tables_of file)) t i
    → (a : ℕ) → 1 ≤ a → reached (scene_of (tables_of file)).head (order_line (scene_of (tables_of file)) i).millis a ≡ true
    → (n b k : ℕ) → ChunkSince (scene_of (tables_of file)) i n b k → a ≤ n → PausedIn (scene_of (tables_of file)) samples t b k
unfolding reached elapsed
pause_ends file samples output e t i once a some full n b k at late =
    let ok = accepted_ok file samples output e in
    paused_in ok once at samples (paused_since ok once at a some late full)
