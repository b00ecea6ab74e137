use Rattle.std.proofs.Common.{arith, ◌∙◌}
use Rattle.links.proofs.laws.Marks.{owners_none, owners_on, owners_off}
use Rattle.links.proofs.marks.mark_owners.Goals as goal
use Rattle.links.proofs.marks.mark_owners.Goals.{then-owner-lt-OWNERS, else-owner-lt-OWNERS}

pub loop-k-init : goal.loop-k-init
loop-k-init g c = λ f h. owners_none f _

pub loop-k-preserved : goal.loop-k-preserved
loop-k-preserved g c = λ f h.
    let is = h c.loop-k.k c.owner_of-owner.result c.loop-k-test.true c.owner_of-owner.ensures in
    elim c.if-owner-lt-OWNERS.branch [
      | then-owner-lt-OWNERS w ↦ w.marks-is ∙ owners_on f c.loop-k.k _ is (omega (arith, w.if-owner-lt-OWNERS.true)) (c.loop-k.invariant f h)
      | else-owner-lt-OWNERS w ↦ w.marks-is ∙ owners_off f c.loop-k.k _ is (omega (arith, w.if-owner-lt-OWNERS.false)) (c.loop-k.invariant f h)
    ]
