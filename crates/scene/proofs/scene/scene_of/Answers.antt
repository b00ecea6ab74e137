-- `scene_of` meets its contract. Assumes nothing.
use Rattle.std.proofs.Common.{[], arith, refl}
use Rattle.scene_tables.specs.Tables.{clocks, tracks, sends, routes, sounds, orders}
use Rattle.scene.proofs.laws.TablesInPlaces.{lies, scene_is}
use Rattle.scene.proofs.scene.scene_of.Goals as goal

pub lines-clocks-requires : goal.lines-clocks-requires
lines-clocks-requires c = let whole = lies c.args.starts.now c.args.counts.now [] c.requires.counts_fit c.requires.tables_in_range clocks (omega arith) in (omega arith, (refl, (whole.0, whole.1)))

pub lines-tracks-requires : goal.lines-tracks-requires
lines-tracks-requires c = let whole = lies c.args.starts.now c.args.counts.now [] c.requires.counts_fit c.requires.tables_in_range tracks (omega arith) in (omega arith, (refl, (whole.0, whole.1)))

pub lines-sends-requires : goal.lines-sends-requires
lines-sends-requires c = let whole = lies c.args.starts.now c.args.counts.now [] c.requires.counts_fit c.requires.tables_in_range sends (omega arith) in (omega arith, (refl, (whole.0, whole.1)))

pub lines-routes-requires : goal.lines-routes-requires
lines-routes-requires c = let whole = lies c.args.starts.now c.args.counts.now [] c.requires.counts_fit c.requires.tables_in_range routes (omega arith) in (omega arith, (refl, (whole.0, whole.1)))

pub lines-sounds-requires : goal.lines-sounds-requires
lines-sounds-requires c = let whole = lies c.args.starts.now c.args.counts.now [] c.requires.counts_fit c.requires.tables_in_range sounds (omega arith) in (omega arith, (refl, (whole.0, whole.1)))

pub placings_of-placings-requires : goal.placings_of-placings-requires
placings_of-placings-requires c = record { tables_in_range = c.requires.tables_in_range; placings_ok = c.requires.placings_ok }

pub lines-orders-requires : goal.lines-orders-requires
lines-orders-requires c = let whole = lies c.args.starts.now c.args.counts.now [] c.requires.counts_fit c.requires.tables_in_range orders (omega arith) in (omega arith, (refl, (whole.0, whole.1)))

pub returns : goal.returns
returns c = scene_is _ _ _ c.requires.counts_fit _ _ _ _ _ _ _ _ c.head_of-head.ensures c.lines-clocks.ensures c.lines-tracks.ensures c.lines-sends.ensures c.lines-routes.ensures c.lines-sounds.ensures c.placings_of-placings.ensures c.lines-orders.ensures
