use Rattle.std.proofs.Common.{arith, ◌≡◌, ℕ, ◌+◌, ◌-◌, ap, refl, sym, ◌∙◌, ◌<◌, get_or}
use Rattle.links.proofs.laws.Marks.{above_turn_on, above_turn_off, above_end}
use Rattle.links.proofs.marks.mark_above.Goals as goal

-- line k + 1 counted from line k
again : (k : ℕ) → 0 < k → k - 1 + 1 ≡ k
again k h = omega (arith, h)

pub bounds-marks-owner_of : goal.bounds-marks-owner_of
bounds-marks-owner_of g c =
    let inside : c.loop-k.k - 1 < c.args.count = omega (arith, c.loop-k-test.true, c.loop-k.auto.k) in
    omega (arith, c.requires.owners_earlier (c.loop-k.k - 1) c.owner_of.result inside c.owner_of.ensures, c.requires.tracks_fit, c.loop-k.auto.k)

pub loop-k-init : goal.loop-k-init
loop-k-init g c = λ f h. refl

pub loop-k-preserved-then-own-eq1 : goal.loop-k-preserved-then-own-eq1
loop-k-preserved-then-own-eq1 g c = λ f h.
    let k = c.loop-k.k in
    let e = again k c.loop-k-test.true in
    let is = h (k - 1) c.owner_of.result (omega (arith, c.loop-k-test.true, c.loop-k.auto.k)) c.owner_of.ensures in
    above_turn_on f k c.loop-k.marks is c.loop-k-test.true (ap (λ (i : ℕ). get_or c.loop-k.marks i 0) (sym e) ∙ c.if-own-eq1.true) (c.loop-k.invariant f h)

pub loop-k-preserved : goal.loop-k-preserved
loop-k-preserved g c = λ f h.
    let k = c.loop-k.k in
    let e = again k c.loop-k-test.true in
    above_turn_off f k c.loop-k.marks c.loop-k-test.true (λ q. c.if-own-eq1.false (ap (λ (i : ℕ). get_or c.loop-k.marks i 0) e ∙ q)) (c.loop-k.invariant f h)

pub returns : goal.returns
returns g c = λ f h. above_end f c.loop-k.marks (omega (arith, c.loop-k-test.false)) (c.loop-k.invariant f h)
