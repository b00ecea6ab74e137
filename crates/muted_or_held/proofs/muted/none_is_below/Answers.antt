-- `none_is_below` meets its contract: `all` asks of every line. Assumes nothing.
use Rattle.std.proofs.Common.{rules, tests}
use lib.Dec.{lit<}
use lib.ListN.{get_or}
use Rattle.scene_tables.specs.Tables.{routes}
use Rattle.scene_questions.specs.Places.{stored}
use Rattle.scene_questions.proofs.laws.Asked.{every_from_all}
use Rattle.scene.proofs.laws.TablesInPlaces.{lines_placed}
use Rattle.muted_or_held.proofs.laws.Muted.{route_test}
use Rattle.muted_or_held.proofs.muted.none_is_below.Goals as goal

pub returns : goal.returns
returns c =
    let ts = stored c.args.starts.now c.args.counts.now c.args.values.now in
    rw (lines_placed c.args.starts.now c.args.counts.now c.args.values.now routes (lit< tt)) (every_from_all (get_or c.args.counts.now routes 0) (route_test ts c.args.track) _ _ _ c.all.ensures.ran (λ x b q k. search (rules, tests)))
