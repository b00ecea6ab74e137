-- A loop over the numbers of three buffers: its invariant is `upto` of the turn, for each of the two that are written. Both sides of a chunk are one run
-- of numbers (`laws`, Numbers).
use mathlib.Core.Path.{◌≡◌, refl, sym, ◌∙◌}
use Prim.Native.Nat.{◌*◌}
use native.Mathlib.Omega.{arith}
use lib.ListN.{length-set}
use Rattle.laws.proofs.laws.Loop.{upto_zero, upto_turn, upto_end}
use Rattle.frame.proofs.laws.Numbers.{plus_number, plus_scaled, run_turn, two_turns, run_turn_lem, plus_run, both_runs}
use Rattle.frame.proofs.buffer.add_to_three.Goals as goal

pub loop-i-init : goal.loop-i-init
loop-i-init c = (refl, refl, sym (upto_zero _ _), sym (upto_zero _ _))

pub loop-i-preserved : goal.loop-i-preserved
loop-i-preserved c =
    let one = plus_scaled c.args.from.now c.args.factor in
    let two = plus_scaled c.args.from.now c.args.then in (
      simp length-set c.loop-i.invariant.0,
      simp length-set c.loop-i.invariant.1,
      run_turn_lem (plus_number c.args.from.now) c.loop-i.i c.args.to.now c.loop-i.invariant.2,
      upto_turn (two_turns c.args.first c.args.second one two) c.loop-i.i c.args.other.now c.loop-i.invariant.3,
    )

pub returns : goal.returns
returns c =
    let from = c.args.from.now in
    let all : c.loop-i.i ≡ 2 * c.args.frames = omega (arith, c.loop-i-test.false, c.loop-i.auto.i-end) in record {
      to = upto_end (run_turn 0 (plus_number from)) c.args.to.now all c.loop-i.invariant.2 ∙ plus_run from c.args.frames c.args.to.now;
      other = upto_end (two_turns c.args.first c.args.second (plus_scaled from c.args.factor) (plus_scaled from c.args.then)) c.args.other.now all c.loop-i.invariant.3
          ∙ both_runs from c.args.frames c.args.first c.args.second c.args.factor c.args.then c.args.other.now c.requires.second_not_inside_first;
    }
