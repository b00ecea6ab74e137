-- `on_start_processing` meets its contract. Assumes nothing.
use mathlib.Core.Path.{ap, ◌∙◌}
use Rattle.laws.specs.Loop.{upto}
use Rattle.accepted.specs.Lines.{order_line}
use Rattle.mixer.specs.Orders.{resume_step, mixer_ordered}
use Rattle.mixer_orders.proofs.laws.There.{line_fits}
use Rattle.mixer_orders.proofs.orders.on_start_processing.Goals as goal

pub last_lines-marks-requires : goal.last_lines-marks-requires
last_lines-marks-requires c =
    let ok = c.requires.orders_there in
    record { orders_fit = c.requires.orders_there.few; block_in_range = c.requires.block_in_range; blocks_in_range = c.requires.orders_there.blocks; indices_in_range = λ i b. line_fits (order_line c.args.scene.now i) (ok.there i b); links_by_block = c.requires.links_of_the_orders }

pub returns : goal.returns
unfolding mixer_ordered
returns c = c.with_resumes.ensures ∙ ap (upto (resume_step c.args.scene.now c.args.block) c.args.scene.now.order_count) c.with_orders.ensures
