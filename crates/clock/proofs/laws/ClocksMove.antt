-- The laws of the clocks' update: each clock moves by itself, and what is known of one clock's update holds of all. Assumes nothing.
use mathlib.Core.Path.{◌≡◌, sym, ◌∙◌, subst}
use Prim.Native.Nat.{ℕ, ◌+◌, ◌*◌, ◌^◌, ◌≤◌, ◌<◌}
use native.Mathlib.Nat.{le_trans, le_of_eq, le-add_right}
use native.Mathlib.Omega.{arith}
use mathlib.Core.Bool.{Bool, true, false, not}
use lib.Dec.{T, ltb, ltb→lt, nltb→le}
use lib.ListN.{length, get_or, get_or-eq_default}
use lib.Ieee.{Float}
use Rattle.laws.specs.Loop.{changed}
use Rattle.laws.proofs.laws.Loop.{changed-length, changed_below, changed_from}
use Rattle.clock.specs.declared.clock.Clock.{Clock}
use Rattle.clock.specs.declared.when_to_start.Clocks.{Clocks}
use Rattle.clock.specs.Clock.{updated, IsStep, ClockWithin, last_tick}
use Rattle.clock.specs.WhenToStart.{clocks_updated, ClocksLaid, ClocksWithin, CanMoveAll, absent_clock}
use Rattle.clock.proofs.laws.Moves.{updated_within, within_more}

-- the clock at an index, after the update
pub updated_at : (cs : Clocks) (dt : Float) (i : ℕ) → i < cs.count → i < length cs.clocks → get_or (clocks_updated cs dt).clocks i absent_clock ≡ updated (get_or cs.clocks i absent_clock) dt
unfolding clocks_updated
updated_at cs dt i h k = changed_below (λ j c. updated c dt) cs.count cs.clocks i absent_clock h k

beyond : (cs : Clocks) (dt : Float) (i : ℕ) → length cs.clocks ≤ i → get_or (clocks_updated cs dt).clocks i absent_clock ≡ get_or cs.clocks i absent_clock
unfolding clocks_updated
beyond cs dt i h =
    let l = changed (λ j c. updated c dt) cs.count cs.clocks in
    get_or-eq_default l absent_clock (le_trans (le_of_eq (changed-length (λ j c. updated c dt) cs.count cs.clocks)) h) ∙ sym (get_or-eq_default cs.clocks absent_clock h)

still_laid : (cs : Clocks) (dt : Float) → ClocksLaid cs → ClocksLaid (clocks_updated cs dt)
unfolding clocks_updated
still_laid cs dt k =
    record {
      few = k.few;
      long = changed-length (λ i c. updated c dt) cs.count cs.clocks ∙ k.long;
      rest = λ i h b. changed_from (λ j c. updated c dt) cs.count cs.clocks i absent_clock h ∙ k.rest i h b;
    }

pub clocks_within : (m : ℕ) (cs : Clocks) (dt : Float) → ClocksWithin m cs → IsStep dt → ClocksWithin (m + 1001) (clocks_updated cs dt)
unfolding clocks_updated
clocks_within m cs dt w s = record { few = w.few; laid = still_laid cs dt w.laid; each = λ i h. go i h (ltb i (length cs.clocks)) (ltb→lt i (length cs.clocks)) (nltb→le i (length cs.clocks)) }
  where
    go : (i : ℕ) → i < cs.count → (b : Bool) → (T b → i < length cs.clocks) → (T (not b) → length cs.clocks ≤ i) → ClockWithin (m + 1001) (get_or (clocks_updated cs dt).clocks i absent_clock)
    go i h true k l = subst (λ (c : Clock). ClockWithin (m + 1001) c) (sym (updated_at cs dt i h (k tt))) (updated_within m (get_or cs.clocks i absent_clock) dt (w.each i h) s)
    go i h false k l = subst (λ (c : Clock). ClockWithin (m + 1001) c) (sym (beyond cs dt i (l tt))) (within_more (le-add_right m 1001) (w.each i h))

-- after k chunks, k at most a million, the clocks can move on
pub clocks_can_move : (k : ℕ) (cs : Clocks) (dt : Float) → k ≤ 2 ^ 20 → ClocksWithin (k * 1001) cs → IsStep dt → CanMoveAll cs dt
clocks_can_move k cs dt h w s = record { clocks = record { few = w.few; laid = w.laid; each = λ i l. within_more (fine k h) (w.each i l) }; step = s }
  where
    fine : (k : ℕ) → k ≤ 2 ^ 20 → k * 1001 ≤ last_tick
    fine k h = omega arith
