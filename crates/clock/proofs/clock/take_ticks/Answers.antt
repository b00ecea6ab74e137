-- `take_ticks` meets its contract. The invariant: the timer is a number that is 0 or more, ticks plus timer are what they were, and what is
-- left to take leads to the same end. The measure is how many ones the timer has. Assumes nothing.
use mathlib.Core.Path.{◌≡◌, refl, sym, ap, ◌∙◌, subst}
use Prim.Native.Nat.{ℕ, suc, ◌+◌, ◌*◌}
use native.Mathlib.Nat.{le_of_eq}
use native.Mathlib.Numerals.{add-one}
use mathlib.Core.Bool.{true, not}
use lib.Ieee.{Float, binary64, sub, le, of_bits, of_int}
use Rattle.laws.specs.Float.{whole}
use Rattle.clock.specs.Clock.{taken, Timer, span, one_span}
use Rattle.clock.proofs.laws.Ticks.{test_is, tick_fits, less_kept, less_timer, less_ones, taken_again, taken_done}
use Rattle.clock.proofs.clock.take_ticks.Goals as goal

-- what the loop keeps
abbrev Kept : ℕ → Float → ℕ → Float → Type 0
Kept before timer ticks x = Timer x × (ticks * one_span + span x ≡ before * one_span + span timer) × (taken ticks x ≡ taken before timer)

-- the three facts after a turn
turned : (ticks : ℕ) (x : Float) (before : ℕ) (timer : Float) → le (whole 1) x ≡ true → Kept before timer ticks x
    → Kept before timer (ticks + 1) (sub binary64 x (whole 1))
turned ticks x before timer h (t, e, k) =
    subst (λ (n : ℕ). Kept before timer n (sub binary64 x (whole 1))) (sym (add-one ticks))
    (less_timer x t h, less_kept ticks x t h (suc ticks * one_span + span (sub binary64 x (whole 1))) refl ∙ e, sym (taken_again ticks x t h) ∙ k)

pub loop-tick_timer-init : goal.loop-tick_timer-init
loop-tick_timer-init c = (c.requires.is_timer, refl, refl)

pub overflow_add-ticks : goal.overflow_add-ticks
unfolding of_bits of_int
overflow_add-ticks c = record { fits = tick_fits c.loop-tick_timer.ticks c.loop-tick_timer.tick_timer c.args.before c.args.timer c.requires c.loop-tick_timer.invariant.0 c.loop-tick_timer.invariant.1 (test_is c.loop-tick_timer.tick_timer c.loop-tick_timer.invariant.0 ∙ ap not c.if-tick_timer.false) }

pub loop-tick_timer-smaller : goal.loop-tick_timer-smaller
unfolding of_bits of_int
loop-tick_timer-smaller c = le_of_eq (sym (less_ones c.loop-tick_timer.tick_timer c.loop-tick_timer.invariant.0 (test_is c.loop-tick_timer.tick_timer c.loop-tick_timer.invariant.0 ∙ ap not c.if-tick_timer.false)))

pub loop-tick_timer-preserved : goal.loop-tick_timer-preserved
unfolding of_bits of_int
loop-tick_timer-preserved c = turned c.loop-tick_timer.ticks c.loop-tick_timer.tick_timer c.args.before c.args.timer (test_is c.loop-tick_timer.tick_timer c.loop-tick_timer.invariant.0 ∙ ap not c.if-tick_timer.false) c.loop-tick_timer.invariant

pub returns : goal.returns
unfolding of_bits of_int
returns c = sym (taken_done c.loop-tick_timer.ticks c.loop-tick_timer.tick_timer (test_is c.loop-tick_timer.tick_timer c.loop-tick_timer.invariant.0 ∙ ap not c.if-tick_timer.true)) ∙ c.loop-tick_timer.invariant.2
