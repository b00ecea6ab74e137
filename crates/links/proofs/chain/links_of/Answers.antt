use Rattle.std.proofs.Common.{◌∙◌}
use Rattle.links.proofs.laws.Links.{links_none, links_on, links_off}
use Rattle.links.proofs.chain.links_of.Goals as goal
use Rattle.links.proofs.chain.links_of.Goals.{then-owner-lt-OWNERS, else-owner-lt-OWNERS}
use native.Mathlib.Omega.{arith}

pub loop-k-init : goal.loop-k-init
loop-k-init g c = λ f h. links_none f

pub loop-k-preserved : goal.loop-k-preserved
loop-k-preserved g c = λ f h.
    let is = h c.loop-k.k c.owner_of-owner.result c.loop-k-test.true c.owner_of-owner.ensures in
    elim c.if-owner-lt-OWNERS.branch [
      | then-owner-lt-OWNERS w ↦ w.links-is ∙ links_on f c.loop-k.k is (omega (arith, w.if-owner-lt-OWNERS.true)) (c.loop-k.invariant f h)
      | else-owner-lt-OWNERS w ↦ w.links-is ∙ links_off f c.loop-k.k is (omega (arith, w.if-owner-lt-OWNERS.false)) (c.loop-k.invariant f h)
    ]
