-- `refused` meets its contract: the count is that of the samples passed so far. Assumes nothing.
use Rattle.std.proofs.Common.{sym, ◌+◌}
use native.Mathlib.Omega.{arith}
use Rattle.laws.proofs.laws.Count.{counted_zero, counted_le}
use Rattle.scene_questions.proofs.laws.Samples.{is_refused, refused_next}
use Rattle.scene_questions.proofs.samples.refused.Goals as goal

pub loop-x-init : goal.loop-x-init
loop-x-init c = sym (counted_zero (is_refused c.args.samples.now))

pub overflow_add-count : goal.overflow_add-count
overflow_add-count c =
    let next = refused_next c.args.samples.now c.loop-x.x-index c.loop-x.count c.from-count.result c.sample_ok.result c.loop-x.invariant c.sample_ok.ensures c.from-count.ensures in
    omega (arith, next, counted_le (is_refused c.args.samples.now) (c.loop-x.x-index + 1))

pub loop-x-preserved : goal.loop-x-preserved
loop-x-preserved c = refused_next c.args.samples.now c.loop-x.x-index c.loop-x.count c.from-count.result c.sample_ok.result c.loop-x.invariant c.sample_ok.ensures c.from-count.ensures
