-- A loop over a buffer that silences it.
use mathlib.Core.Path.{refl, sym, ◌∙◌}
use native.Mathlib.Omega.{arith}
use lib.ListN.{length, replicate, length-replicate, get_or-replicate}
use lib.Ieee.{nan, of_int, of_bits}
use borrow.Author.Rules.{rules}
use Rattle.laws.proofs.laws.Loop.{changed_zero, changed_turn, changed_end, changed_is}
use Rattle.frame.specs.Frame.{zero_sample}
use Rattle.renderer.proofs.renderer.silence.Goals as goal

pub loop-i-init : goal.loop-i-init
loop-i-init c = (search rules, refl, sym (changed_zero _ _))

pub loop-i-preserved : goal.loop-i-preserved
unfolding of_int of_bits
loop-i-preserved c = (search rules, search rules, changed_turn (λ k x. zero_sample) c.loop-i.i c.args.out.now nan (search rules) c.loop-i.invariant.2)

pub returns : goal.returns
returns c =
    let out = c.args.out.now in
    changed_end (λ k x. zero_sample) out (omega (arith, c.loop-i-test.false, c.loop-i.invariant.0, c.loop-i.invariant.1)) c.loop-i.invariant.2
    ∙ sym (changed_is (λ k x. zero_sample) out (replicate (length out) zero_sample) nan (length-replicate (length out) zero_sample) (λ k h. get_or-replicate (length out) k zero_sample nan h))
