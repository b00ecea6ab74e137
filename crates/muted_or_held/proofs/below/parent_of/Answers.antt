-- `parent_of` meets its contract. Assumes nothing.
use lib.Dec.{lit<}
use Rattle.scene_tables.specs.Tables.{tracks}
use Rattle.muted_or_held.proofs.laws.Places.{table_low}
use Rattle.muted_or_held.proofs.laws.Below.{parent_placed}
use Rattle.muted_or_held.proofs.below.parent_of.Goals as goal

pub parent_of-requires : goal.parent_of-requires
parent_of-requires c = table_low tracks (lit< tt) c.args.starts.now c.args.counts.now c.requires

pub returns : goal.returns
returns c = parent_placed _ _ _ _ c.parent_of.ensures
