-- `sounds_fit` meets its contract: `all` asks of every sound. Assumes nothing.
use Rattle.std.proofs.Common.{rules, tests, length, ◌/◌}
use Rattle.scene_tables.specs.Tables.{table_at, width, sounds}
use Rattle.scene_questions.specs.Questions.{sound_fits}
use Rattle.scene_questions.specs.Places.{rows_in}
use Rattle.scene_questions.proofs.laws.Asked.{every_from_all}
use Rattle.scene_questions.proofs.laws.LineQuestions.{sound_test, sounds_odd, sounds_asked}
use Rattle.scene_questions.proofs.samples.sounds_fit.Goals as goal

pub returns-then-samples-ne0 : goal.returns-then-samples-ne0
returns-then-samples-ne0 c = search (sounds_odd, rules)

pub returns : goal.returns
unfolding sound_test
returns c =
    let rows = rows_in c.args.values.now c.args.start (width (table_at sounds)) c.args.lines in
    sounds_asked c.args.values.now c.args.start c.args.lines c.args.from c.args.samples.now _ c.if-samples-ne0.false (every_from_all c.args.lines (sound_fits rows c.args.from (length c.args.samples.now / 2)) _ _ _ c.all.ensures.ran (λ x b q k. search (rules, tests)))
