-- `order_field` meets its contract. Assumes nothing.
use Rattle.scene_tables.specs.Tables.{orders}
use Rattle.muted_or_held.proofs.laws.Places.{table_low, cell-stored}
use native.Mathlib.Omega.{arith}
use lib.Dec.{lit<}
use Rattle.muted_or_held.proofs.orders.order_field.Goals as goal

pub overflow_mul-i : goal.overflow_mul-i
overflow_mul-i c = omega (arith, table_low orders (lit< tt) c.args.starts.now c.args.counts.now c.requires.tables_in_range)

pub overflow_add-starts : goal.overflow_add-starts
overflow_add-starts c = omega (arith, table_low orders (lit< tt) c.args.starts.now c.args.counts.now c.requires.tables_in_range)

pub returns : goal.returns
returns c = cell-stored orders (lit< tt) _ _ _ _ _ c.requires.order_in_table c.requires.field_in_range c.at.ensures
