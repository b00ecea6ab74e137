-- `lines` meets its contract: the lines read so far stand in their places. Assumes nothing.
use Rattle.std.proofs.Common.{◌+◌, ◌*◌, ◌∙◌, ap, take, drop, arith}
use native.Mathlib.Nat.{mul-le-mul_right}
use Rattle.scene.proofs.laws.LineValues.{fill_start, fill_next, fill_done}
use Rattle.scene.proofs.scene.lines.Goals as goal

pub loop-i-init : goal.loop-i-init
loop-i-init g c = fill_start g.row.N g.T.Line.of c.args.values.now g.T.Line.columns _ c.read-out.ensures

pub overflow_mul-i : goal.overflow_mul-i
overflow_mul-i g c = omega (arith, c.requires.table_in_range, mul-le-mul_right {m = c.loop-i.i} {n = c.args.lines} c.args.width c.loop-i.auto.i-end)

pub overflow_add-start : goal.overflow_add-start
overflow_add-start g c = omega (arith, c.requires.table_in_range, mul-le-mul_right {m = c.loop-i.i} {n = c.args.lines} c.args.width c.loop-i.auto.i-end)

pub loop-i-preserved : goal.loop-i-preserved
loop-i-preserved g c =
    let there = ap (λ w. g.T.Line.of (take g.T.Line.columns (drop (c.args.start + c.loop-i.i * w) c.args.values.now))) c.requires.columns in
    fill_next g.row.N g.T.Line.of _ c.args.values.now c.args.start g.T.Line.columns c.args.lines c.loop-i.i _ c.loop-i-test.true c.requires.lines_fit (c.read.ensures ∙ there) c.loop-i.invariant

pub returns : goal.returns
returns g c = fill_done g.row.N g.T.Line.of _ c.args.values.now c.args.start g.T.Line.columns c.args.lines c.loop-i.i c.loop-i-test.false c.loop-i.invariant
