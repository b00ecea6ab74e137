-- `new_placing` meets its contract: `all` asks of every line before. Assumes nothing.
use Rattle.std.proofs.Common.{rules, tests, not, eqb}
use Rattle.scene_tables.specs.Tables.{table_at, width, placings, placing_column}
use Rattle.scene_questions.specs.Questions.{cell, new_placing}
use Rattle.scene_questions.specs.Places.{rows_in}
use Rattle.scene_questions.proofs.laws.Asked.{every_from_all}
use Rattle.scene_questions.proofs.tracks.new_placing.Goals as goal

pub returns : goal.returns
unfolding new_placing
returns c =
    let rows = rows_in c.args.values.now c.args.start (width (table_at placings)) c.args.lines in
    every_from_all c.args.i (λ k. not (eqb (cell rows c.args.i placing_column.track) (cell rows k placing_column.track))) _ _ _ c.all.ensures.ran (λ x b q k. search (rules, tests))
