-- `is_inside_silent` meets its contract: what is asked of the line reached, with the steps left, is what is asked of the line. Assumes nothing.
use Rattle.std.proofs.Common.{◌≡◌, ◌-◌, ◌+◌, ap, ◌∙◌}
use native.Mathlib.Omega.{arith}
use Rattle.scene_questions.specs.Places.{stored}
use Rattle.noninterference.specs.Removed.{inside_within}
use Rattle.silent_tracks.specs.Silence.{muted_or_held}
use Rattle.muted_or_held.proofs.laws.Below.{walk_begins, walk_ends, walk_mixer, walk_chosen, walk_on}
use Rattle.silent_tracks.proofs.tracks.is_inside_silent.Goals as goal

pub loop-init : goal.loop-init
loop-init c =
    let whole : c.args.line - 0 ≡ c.args.line = omega arith in
    let ts = stored c.args.starts.now c.args.counts.now c.args.values.now in
    ap (λ n. inside_within n ts (muted_or_held ts) c.args.line) whole ∙ walk_begins _ _ _

pub returns-then-reached-eq0 : goal.returns-then-reached-eq0
returns-then-reached-eq0 c = walk_mixer _ _ _ _ c.loop.reached c.loop.invariant c.if-reached-eq0.true

pub returns-then-is_muted_or_held : goal.returns-then-is_muted_or_held
returns-then-is_muted_or_held c = walk_chosen _ _ _ _ c.loop.reached c.loop.invariant (omega (arith, c.loop-test.true)) c.if-reached-eq0.false _ c.is_muted_or_held.ensures c.if-is_muted_or_held.true

pub loop-preserved : goal.loop-preserved
loop-preserved c =
    let left : c.args.line - (c.loop.counter + 1) ≡ c.args.line - c.loop.counter - 1 = omega arith in
    let ts = stored c.args.starts.now c.args.counts.now c.args.values.now in
    ap (λ n. inside_within n ts (muted_or_held ts) c.parent_of-reached.result) left
    ∙ walk_on _ _ _ _ c.loop.reached c.loop.invariant (omega (arith, c.loop-test.true)) c.if-reached-eq0.false _ _ c.is_muted_or_held.ensures c.if-is_muted_or_held.false c.parent_of-reached.ensures

pub returns : goal.returns
returns c = walk_ends _ _ _ _ c.loop.reached c.loop.invariant (omega (arith, c.loop-test.false))
