-- `pauses_and_resumes` meets its contract: the count is that of the orders passed so far. Assumes nothing.
use Rattle.scene_tables.specs.Tables.{orders}
use Rattle.scene_questions.specs.Places.{stored}
use Rattle.muted_or_held.proofs.laws.Places.{table_low}
use Rattle.muted_or_held.proofs.laws.Held.{one_or_none, one_at_most, count_begins, count_turn, count_ends}
use native.Mathlib.Omega.{arith}
use lib.Dec.{lit<}
use Rattle.muted_or_held.proofs.held.pauses_and_resumes.Goals as goal

pub loop-i-init : goal.loop-i-init
loop-i-init c = (omega arith, count_begins _ _)

pub overflow_add-n : goal.overflow_add-n
overflow_add-n c =
    let ts = stored c.args.starts.now c.args.counts.now c.args.values.now in
    let small = one_at_most ts c.args.track c.loop-i.i c.from-n.result (one_or_none ts c.args.track c.loop-i.i c.pauses_or_resumes.ensures c.from-n.ensures) in
    omega (arith, small, table_low orders (lit< tt) c.args.starts.now c.args.counts.now c.requires)

pub loop-i-preserved : goal.loop-i-preserved
loop-i-preserved c =
    let ts = stored c.args.starts.now c.args.counts.now c.args.values.now in
    let one = one_or_none ts c.args.track c.loop-i.i c.pauses_or_resumes.ensures c.from-n.ensures in
    let small = one_at_most ts c.args.track c.loop-i.i c.from-n.result one in
    (omega (arith, small), count_turn ts c.args.track c.loop-i.i c.loop-i.n c.from-n.result c.loop-i.invariant.1 one)

pub returns : goal.returns
returns c = count_ends _ _ _ _ c.loop-i.i _ (omega (arith, c.loop-i-test.false)) (omega (arith, c.loop-i.auto)) c.loop-i.invariant.1
