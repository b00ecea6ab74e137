-- `is_below` meets its contract. Assumes nothing.
use Rattle.scene_tables.specs.Tables.{routes}
use Rattle.muted_or_held.proofs.laws.Places.{table_low}
use Rattle.muted_or_held.proofs.laws.Below.{route_below}
use native.Mathlib.Omega.{arith}
use lib.Dec.{lit<}
use Rattle.muted_or_held.proofs.muted.is_below.Goals as goal

pub overflow_mul-route : goal.overflow_mul-route
overflow_mul-route c = omega (arith, table_low routes (lit< tt) c.args.starts.now c.args.counts.now c.requires.tables_in_range)

pub overflow_add-starts : goal.overflow_add-starts
overflow_add-starts c = omega (arith, table_low routes (lit< tt) c.args.starts.now c.args.counts.now c.requires.tables_in_range)

pub returns : goal.returns
returns c = route_below _ _ _ _ _ _ _ _ _ c.requires.route_in_table c.at.ensures c.natural_of-line.ensures c.parent_of-parent.ensures c.is_inside.ensures
