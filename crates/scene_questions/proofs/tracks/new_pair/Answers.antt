-- `new_pair` meets its contract: `all` asks of every line before. Assumes nothing.
use Rattle.std.proofs.Common.{rules, tests, not}
use Rattle.scene_tables.specs.Tables.{table_at, width, routes}
use Rattle.scene_questions.specs.Questions.{same_pair, new_pair}
use Rattle.scene_questions.specs.Places.{rows_in}
use Rattle.scene_questions.proofs.laws.Asked.{every_from_all}
use Rattle.scene_questions.proofs.tracks.new_pair.Goals as goal

pub returns : goal.returns
unfolding new_pair
returns c =
    let rows = rows_in c.args.values.now c.args.start (width (table_at routes)) c.args.lines in
    every_from_all c.args.i (λ k. not (same_pair rows c.args.i k)) _ _ _ c.all.ensures.ran (λ x b q k. search (rules, tests))
