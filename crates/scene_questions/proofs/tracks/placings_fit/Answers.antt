-- `placings_fit` meets its contract: `all` asks of every line. Assumes nothing.
use Rattle.std.proofs.Common.{rules, tests}
use Rattle.scene_tables.specs.Tables.{table_at, width, placings}
use Rattle.scene_questions.specs.Questions.{new_placing, placings_fit}
use Rattle.scene_questions.specs.Places.{rows_in}
use Rattle.scene_questions.proofs.laws.Asked.{every_from_all}
use Rattle.scene_questions.proofs.laws.Places.{rows_length}
use Rattle.scene_questions.proofs.tracks.placings_fit.Goals as goal

pub returns : goal.returns
unfolding placings_fit
returns c =
    let rows = rows_in c.args.values.now c.args.start (width (table_at placings)) c.args.lines in
    rw (rows_length c.args.values.now c.args.start (width (table_at placings)) c.args.lines) (every_from_all c.args.lines (new_placing rows) _ _ _ c.all.ensures.ran (λ x b q k. search (rules, tests)))
