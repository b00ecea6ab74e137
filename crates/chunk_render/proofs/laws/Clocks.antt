-- The clocks of a block are those of its mixer, chunk by chunk, and can move. Assumes nothing.
use Rattle.std.proofs.Common.{◌≡◌, ℕ, suc, ◌+◌, ◌*◌, ◌^◌, ◌<◌, ◌≤◌, List, sym, refl, ap, ◌∙◌, subst, le_trans, le_of_eq, arith}
use lib.Ieee.{Float}
use Rattle.laws.specs.Loop.{changed}
use Rattle.laws.proofs.laws.Loop.{upto_zero, upto-suc, upto_turn, upto_holds, changed_zero}
use Rattle.limits.specs.Limits.{chunk_frames_most}
use Rattle.clock.specs.declared.clock.Clock.{Clock}
use Rattle.clock.specs.declared.when_to_start.Clocks.{Clocks}
use Rattle.clock.specs.Clock.{updated}
use Rattle.clock.specs.WhenToStart.{clocks_updated, CanMoveAll}
use Rattle.clock.specs.ChunkTime.{chunk_time}
use Rattle.scene.specs.declared.scene.Head.{Head}
use Rattle.scene.specs.declared.scene.Scene.{Scene}
use Rattle.accepted.specs.SceneOk.{SceneOk}
use Rattle.mixer.specs.declared.mixer.Mixer.{Mixer}
use Rattle.mixer.specs.Mixer.{mixer_update}
use Rattle.mixer.specs.Sounds.{sounds_played}
use Rattle.mixer.specs.MixerOk.{MixerOk}
use Rattle.mixer_laws.proofs.laws.Moved.{can_move}
use Rattle.renderer.specs.Renderer.{chunk_count, chunk_frames, in_chunk, chunk_done, chunks_done}
use Rattle.renderer.proofs.laws.Lengths.{chunk_starts, frames_most}
use Rattle.renderer.proofs.laws.Renderer.{chunk_seconds, seconds_step, chunks_ok}
use Rattle.chunk_render.specs.Block.{seconds, chunk_clocks, ClocksAsk}

abbrev clocks_with : List Clock → ℕ → Clocks
clocks_with l n = record { clocks = l; count = n }

-- without a clock an update changes nothing
no_clocks : (clocks : Clocks) (dt : Float) → clocks.count ≡ 0 → clocks ≡ clocks_updated clocks dt
unfolding clocks_updated
no_clocks clocks dt e =
    ap (λ (l : List Clock). clocks_with l clocks.count) (sym (ap (λ (n : ℕ). changed (λ i c. updated c dt) n clocks.clocks) e ∙ changed_zero (λ i c. updated c dt) clocks.clocks))

-- nor do the chunks of a block
pub no_clocks_at : (h : Head) (k : ℕ) (clocks : Clocks) → clocks.count ≡ 0 → clocks ≡ chunk_clocks h k clocks
unfolding chunk_clocks
no_clocks_at h k clocks e =
    upto_holds (λ (i : ℕ) (c : Clocks). clocks ≡ c) (λ j c. clocks_updated c (chunk_time h.rate (chunk_frames h j))) k clocks refl
    (λ i l c p. p ∙ no_clocks c (chunk_time h.rate (chunk_frames h i)) (ap (λ (x : Clocks). x.count) (sym p) ∙ e))

pub clocks_begin : (h : Head) (clocks : Clocks) → clocks ≡ chunk_clocks h 0 clocks
unfolding chunk_clocks
clocks_begin h clocks = sym (upto_zero _ clocks)

-- a turn of the loop over a block's chunks
module _ {h : Head} {clocks : Clocks} (ok : ClocksAsk h clocks) {k count : ℕ} (b : k < count) (all : count ≡ chunk_count h) where
  turn_inside : k < chunk_count h
  turn_inside = subst (λ (n : ℕ). k < n) all b

  pub turn_starts : k * h.buffer < h.block
  turn_starts = chunk_starts h ok.buffer.0 k turn_inside

  module _ {n : ℕ} (is : n ≡ chunk_frames h k) where
    pub turn_short : n ≤ chunk_frames_most
    turn_short = le_trans (le_of_eq is) (le_trans (frames_most h k) ok.buffer.1)

    module _ {dt : Float} (time : dt ≡ chunk_time h.rate n) {moved : Clocks} (e : moved ≡ chunk_clocks h k clocks) where
      turn_time : dt ≡ seconds h k
      turn_time = time ∙ ap (chunk_time h.rate) is

      pub turn_ticks : CanMoveAll moved dt
      turn_ticks = subst (λ (x : Clocks). CanMoveAll x dt) (sym e) (subst (CanMoveAll (chunk_clocks h k clocks)) (sym turn_time) (ok.ticks k turn_inside))

      pub clocks_turn : {next : Clocks} → next ≡ clocks_updated moved dt → next ≡ chunk_clocks h (k + 1) clocks
      unfolding chunk_clocks
      clocks_turn q = q ∙ ap (clocks_updated moved) turn_time ∙ upto_turn (λ j c. clocks_updated c (chunk_time h.rate (chunk_frames h j))) k clocks e

-- ---- the clocks of a mixer

module _ (s : Scene) (m : Mixer) where
  pub ticked : (k : ℕ) {y : Clocks} → y ≡ chunk_clocks s.head k m.clocks → clocks_updated y (chunk_seconds s k) ≡ chunk_clocks s.head (suc k) m.clocks
  unfolding chunk_clocks
  ticked k e = ap (λ (y : Clocks). clocks_updated y (chunk_seconds s k)) e ∙ sym (upto-suc _ k m.clocks)

  done_clocks : (k : ℕ) (x : Mixer) → (chunk_done s k x).clocks ≡ clocks_updated x.clocks (chunk_seconds s k)
  unfolding chunk_done sounds_played in_chunk mixer_update
  done_clocks k x = refl

  pub block_clocks : (k : ℕ) → (chunks_done s k m).clocks ≡ chunk_clocks s.head k m.clocks
  unfolding chunks_done chunk_clocks
  block_clocks k = upto_holds (λ i x. x.clocks ≡ chunk_clocks s.head i m.clocks) (chunk_done s) k m (sym (upto_zero _ m.clocks)) (λ i b x e. done_clocks i x ∙ ticked i e)

module _ (s : Scene) (ok : SceneOk s) (c : ℕ) (m : Mixer) (within : MixerOk s c m) where
  -- they can move
  clocks_move : c + chunk_count s.head ≤ 2 ^ 20 → (k : ℕ) → k < chunk_count s.head → CanMoveAll (chunk_clocks s.head k m.clocks) (chunk_seconds s k)
  clocks_move few k b = subst (λ (y : Clocks). CanMoveAll y (chunk_seconds s k)) (block_clocks s m k) (can_move s (c + k) (chunk_seconds s k) (chunks_done s k m) (chunks_ok s ok k c m within) (omega (arith, few, b)) (seconds_step s k ok))

  pub clocks_ask : c + chunk_count s.head ≤ 2 ^ 20 → ClocksAsk s.head m.clocks
  clocks_ask few = record { laid = within.clocks.laid; rate = ok.rate.1; buffer = ok.buffer; block = ok.block.1; ticks = clocks_move few }
