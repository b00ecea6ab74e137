-- `depths_fit` meets its contract: `all` asks of every track. Assumes nothing.
use Rattle.std.proofs.Common.{rules, tests, suc, add-one}
use Rattle.limits.specs.Limits.{track_depth}
use Rattle.scene_tables.specs.Tables.{table_at, width, tracks}
use Rattle.scene_questions.specs.Questions.{within_depth, depths_fit}
use Rattle.scene_questions.specs.Places.{rows_in}
use Rattle.scene_questions.proofs.laws.Asked.{every_from_all}
use Rattle.scene_questions.proofs.laws.Places.{rows_length}
use Rattle.scene_questions.proofs.tracks.depths_fit.Goals as goal

pub returns : goal.returns
unfolding depths_fit
returns c =
    let rows = rows_in c.args.values.now c.args.start (width (table_at tracks)) c.args.lines in
    rw (rows_length c.args.values.now c.args.start (width (table_at tracks)) c.args.lines) (every_from_all c.args.lines (λ i. within_depth track_depth rows (suc i)) _ _ _ c.all.ensures.ran (λ x b q k. search (rules, tests, add-one x)))
