-- `counts_fit` meets its contract: `all` asks of every table. Assumes nothing.
use Rattle.std.proofs.Common.{rules, tests, leb, length, get_or, ◌&&◌}
use Rattle.scene_tables.specs.Tables.{tables, table_at}
use Rattle.scene_questions.specs.Places.{counts_fit}
use Rattle.scene_questions.proofs.laws.Asked.{every_from_all}
use Rattle.scene_rules.proofs.lines.counts_fit.Goals as goal

pub returns : goal.returns
unfolding counts_fit
returns c = every_from_all (length tables) (λ t. leb (table_at t).least (get_or c.args.counts.now t 0) && leb (get_or c.args.counts.now t 0) (table_at t).most) _ _ _ c.all.ensures.ran (λ x b q k. search (rules, tests))
