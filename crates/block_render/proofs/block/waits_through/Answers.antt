-- `waits_through` meets its contract. Assumes nothing.
use Rattle.block_render.proofs.laws.Still.{few_after}
use Rattle.block_render.proofs.block.waits_through.Goals as goal

pub clock_ticks-ends-requires : goal.clock_ticks-ends-requires
clock_ticks-ends-requires c = few_after c.args.scene.now.head c.args.mixer.now.clocks c.block_clocks.ensures c.requires.clocks_fit
