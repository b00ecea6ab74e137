-- `with_orders` meets its contract. The invariant: what the lines of the block before line i have done. Assumes nothing.
use native.Mathlib.Omega.{arith}
use Rattle.accepted.specs.Lines.{order_line}
use Rattle.mixer_orders.proofs.laws.There.{line_fits}
use Rattle.mixer_orders.proofs.laws.Read.{next_found, orders_first, orders_next}
use Rattle.mixer_orders.proofs.orders.with_orders.Goals as goal

pub loop-i-init : goal.loop-i-init
loop-i-init c = orders_first c.args.scene.now c.args.block c.requires.orders_there c.requires.links_of_the_orders c.args.mixer.now c.requires.block_in_range c.first_line-i.ensures

pub bounds-scene-at : goal.bounds-scene-at
bounds-scene-at c = omega (arith, c.loop-i-test.true, c.requires.orders_there.few)

pub next_line-i-requires : goal.next_line-i-requires
next_line-i-requires c = omega (arith, c.loop-i-test.true, c.requires.orders_there.few)

pub counts_by-counted-requires : goal.counts_by-counted-requires
counts_by-counted-requires c =
    record { index_in_range = line_fits (order_line c.args.scene.now c.loop-i.i) (c.requires.orders_there.there c.loop-i.i c.loop-i-test.true); order_in_range = omega (arith, c.loop-i-test.true, c.requires.orders_there.few) }

pub order_where-requires : goal.order_where-requires
order_where-requires c = c.requires.orders_there.there c.loop-i.i c.loop-i-test.true

pub loop-i-smaller : goal.loop-i-smaller
loop-i-smaller c =
    let more = c.loop-i-test.true in
    omega (arith, more, (next_found c.args.scene.now c.args.block c.requires.orders_there c.requires.links_of_the_orders c.loop-i.i more (c.loop-i.invariant.here more) c.next_line-i.ensures).after)

pub loop-i-preserved : goal.loop-i-preserved
loop-i-preserved c =
    orders_next c.args.scene.now c.args.block c.requires.orders_there c.requires.links_of_the_orders c.loop-i.i c.loop-i-test.true c.next_line-i.ensures
    c.requires.marks_of_last_lines c.counts_by-counted.ensures c.args.mixer.now c.order_where.ensures c.loop-i.invariant

pub returns : goal.returns
returns c = c.loop-i.invariant.walk.done c.loop-i-test.false
