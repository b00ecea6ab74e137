-- `within_depth` meets its contract: what is asked of the line reached, with the depth left, is what is asked of the track. Assumes nothing.
use Rattle.std.proofs.Common.{◌≡◌, ◌-◌, ◌+◌, ap, ◌∙◌}
use native.Mathlib.Omega.{arith}
use Rattle.limits.specs.Limits.{track_depth}
use Rattle.scene_tables.specs.Tables.{table_at, width, tracks}
use Rattle.scene_questions.specs.Questions.{within_depth}
use Rattle.scene_questions.specs.Places.{rows_in}
use Rattle.scene_questions.proofs.laws.LineQuestions.{depth_mixer, depth_next, depth_done}
use Rattle.scene_questions.proofs.tracks.within_depth.Goals as goal

pub returns-then-line-eq0 : goal.returns-then-line-eq0
returns-then-line-eq0 c = depth_mixer _ _ _ _ c.loop.invariant (omega (arith, c.loop-test.true)) c.if-line-eq0.true

pub loop-preserved : goal.loop-preserved
loop-preserved c =
    let left : track_depth - (c.loop.counter + 1) ≡ track_depth - c.loop.counter - 1 = omega arith in
    let rows = rows_in c.args.values.now c.args.start (width (table_at tracks)) c.args.lines in
    ap (λ d. within_depth d rows c.parent_of-line.result) left ∙ depth_next _ _ _ _ c.loop.invariant _ (omega (arith, c.loop-test.true)) c.if-line-eq0.false c.parent_of-line.ensures

pub returns : goal.returns
returns c = depth_done _ _ _ _ c.loop.invariant (omega (arith, c.loop-test.false))
