-- `is_inside` meets its contract: what is asked of the line reached, with the steps left, is what is asked of the line. Assumes nothing.
use Rattle.std.proofs.Common.{◌≡◌, ◌-◌, ◌+◌, ap, ◌∙◌}
use native.Mathlib.Omega.{arith}
use lib.Dec.{eqb}
use Rattle.scene_questions.specs.Places.{stored}
use Rattle.noninterference.specs.Removed.{inside_within}
use Rattle.muted_or_held.proofs.laws.Below.{walk_begins, walk_ends, walk_mixer, walk_found, walk_past}
use Rattle.muted_or_held.proofs.below.is_inside.Goals as goal

pub loop-init : goal.loop-init
loop-init c =
    let whole : c.args.line - 0 ≡ c.args.line = omega arith in
    ap (λ n. inside_within n (stored c.args.starts.now c.args.counts.now c.args.values.now) (eqb c.args.track) c.args.line) whole ∙ walk_begins _ _ _

pub returns-then-reached-eq0 : goal.returns-then-reached-eq0
returns-then-reached-eq0 c = walk_mixer _ _ _ _ c.loop.reached c.loop.invariant c.if-reached-eq0.true

pub returns-then-track-reached : goal.returns-then-track-reached
returns-then-track-reached c = walk_found _ _ _ _ c.loop.reached c.loop.invariant (omega (arith, c.loop-test.true)) c.if-reached-eq0.false c.if-track-reached.true

pub loop-preserved : goal.loop-preserved
loop-preserved c =
    let left : c.args.line - (c.loop.counter + 1) ≡ c.args.line - c.loop.counter - 1 = omega arith in
    ap (λ n. inside_within n (stored c.args.starts.now c.args.counts.now c.args.values.now) (eqb c.args.track) c.parent_of-reached.result) left
    ∙ walk_past _ _ _ _ c.loop.reached c.loop.invariant (omega (arith, c.loop-test.true)) c.if-reached-eq0.false _ c.if-track-reached.false c.parent_of-reached.ensures

pub returns : goal.returns
returns c = walk_ends _ _ _ _ c.loop.reached c.loop.invariant (omega (arith, c.loop-test.false))
