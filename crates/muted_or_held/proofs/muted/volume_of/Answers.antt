-- `volume_of` meets its contract. Assumes nothing.
use Rattle.scene_tables.specs.Tables.{tracks}
use Rattle.muted_or_held.proofs.laws.Places.{table_low, cell_none, cell-stored}
use native.Mathlib.Omega.{arith}
use lib.Dec.{lit<}
use Rattle.muted_or_held.proofs.muted.volume_of.Goals as goal

pub returns-then-counts-track : goal.returns-then-counts-track
returns-then-counts-track c = cell_none tracks (lit< tt) _ _ _ _ _ c.if-counts-track.true

pub overflow_mul-track : goal.overflow_mul-track
overflow_mul-track c = omega (arith, table_low tracks (lit< tt) c.args.starts.now c.args.counts.now c.requires)

pub overflow_add-starts : goal.overflow_add-starts
overflow_add-starts c = omega (arith, table_low tracks (lit< tt) c.args.starts.now c.args.counts.now c.requires)

pub returns : goal.returns
returns c = cell-stored tracks (lit< tt) _ _ _ _ _ c.if-counts-track.false (lit< tt) c.at.ensures
