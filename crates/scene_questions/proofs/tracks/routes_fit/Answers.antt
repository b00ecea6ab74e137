-- `routes_fit` meets its contract: `all` asks of every line. Assumes nothing.
use Rattle.std.proofs.Common.{rules, tests}
use Rattle.scene_tables.specs.Tables.{table_at, width, routes}
use Rattle.scene_questions.specs.Questions.{new_pair, routes_fit}
use Rattle.scene_questions.specs.Places.{rows_in}
use Rattle.scene_questions.proofs.laws.Asked.{every_from_all}
use Rattle.scene_questions.proofs.laws.Places.{rows_length}
use Rattle.scene_questions.proofs.tracks.routes_fit.Goals as goal

pub returns : goal.returns
unfolding routes_fit
returns c =
    let rows = rows_in c.args.values.now c.args.start (width (table_at routes)) c.args.lines in
    rw (rows_length c.args.values.now c.args.start (width (table_at routes)) c.args.lines) (every_from_all c.args.lines (new_pair rows) _ _ _ c.all.ensures.ran (λ x b q k. search (rules, tests)))
