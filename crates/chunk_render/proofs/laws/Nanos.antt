-- The nanoseconds of a block, and the step of seconds that they make. Assumes nothing.
use Rattle.std.proofs.Common.{◌≡◌, ℕ, ◌+◌, ◌*◌, ◌<◌, ◌≤◌, true, T, ◌⊎◌, pos, sym, refl, ap, ◌∙◌, subst, inl, inr, le_trans, le_of_eq}
use lib.Ieee.{Float, binary64, lt, le, of_int}
use Rattle.limits.specs.Limits.{chunk_frames_most}
use Rattle.rounding.specs.Duration.{InAnHour, nanos_from_secs}
use Rattle.laws.specs.Float.{pos_zero}
use Rattle.laws.specs.Loop.{upto}
use Rattle.laws.proofs.laws.Loop.{upto_turn, upto_zero, upto_end}
use Rattle.laws.proofs.laws.FloatOrder.{lt→le}
use Rattle.laws.proofs.laws.Choice.{true-T}
use Rattle.clock.specs.ChunkTime.{chunk_time}
use Rattle.scene.specs.declared.scene.Head.{Head}
use Rattle.renderer.specs.Renderer.{chunk_count, chunk_frames}
use Rattle.renderer.proofs.laws.Lengths.{chunk_starts, frames_most}
use Rattle.chunk_render.specs.Block.{seconds, block_nanos, NanosAsk}

-- ---- counting them

-- those of the first k chunks
abbrev pub nanos_to : Head → ℕ → ℕ
nanos_to h k = upto (λ (j n : ℕ). n + nanos_from_secs (seconds h j)) k 0

pub nanos_begin : (h : Head) → 0 ≡ nanos_to h 0
nanos_begin h = sym (upto_zero (λ (j n : ℕ). n + nanos_from_secs (seconds h j)) 0)

pub nanos_end : (h : Head) {k nanos : ℕ} → k ≡ chunk_count h → nanos ≡ nanos_to h k → nanos ≡ block_nanos h
unfolding block_nanos
nanos_end h last e = upto_end (λ (j n : ℕ). n + nanos_from_secs (seconds h j)) 0 last e

module _ {h : Head} (ok : NanosAsk h) {k count : ℕ} (b : k < count) (all : count ≡ chunk_count h) where
  inside : k < chunk_count h
  inside = subst (λ (n : ℕ). k < n) all b

  pub chunk_there : k * h.buffer < h.block
  chunk_there = chunk_starts h ok.buffer.0 k inside

  module _ {n : ℕ} (is : n ≡ chunk_frames h k) where
    pub chunk_short : n ≤ chunk_frames_most
    chunk_short = le_trans (le_of_eq is) (le_trans (frames_most h k) ok.buffer.1)

    module _ {dt : Float} (time : dt ≡ chunk_time h.rate n) where
      chunk_seconds : dt ≡ seconds h k
      chunk_seconds = time ∙ ap (chunk_time h.rate) is

      pub chunk_hour : InAnHour dt
      chunk_hour = subst InAnHour (sym chunk_seconds) (ok.hours k inside)

      pub nanos_turn : {nanos more : ℕ} → nanos ≡ nanos_to h k → more ≡ nanos_from_secs dt → nanos + more ≡ nanos_to h (k + 1)
      nanos_turn {nanos} e m = ap (λ (x : ℕ). nanos + x) (m ∙ ap nanos_from_secs chunk_seconds) ∙ upto_turn (λ (j n : ℕ). n + nanos_from_secs (seconds h j)) k 0 e

-- ---- a step

zero_seconds : pos_zero ≡ of_int binary64 (pos 0)
unfolding of_int
zero_seconds = refl

-- what `block_step` gives
abbrev pub IsStep : Float → Type 0
IsStep r = InAnHour r × ((r ≡ pos_zero) ⊎ T (lt pos_zero r))

pub step_some : (r : Float) → lt pos_zero r ≡ true → le r (of_int binary64 (pos 3600)) ≡ true → IsStep r
step_some r low high =
    (record { not_below = subst (λ (x : Float). T (le x r)) zero_seconds (lt→le pos_zero r (true-T _ low)); not_above = true-T _ high }, inr (true-T _ low))

pub step_none : IsStep pos_zero
unfolding le of_int
step_none = (record { not_below = tt; not_above = tt }, inl refl)
