-- `last_lines` meets its contract. Assumes nothing.
use native.Mathlib.Omega.{arith}
use Rattle.order_lines.proofs.laws.Marks.{place_fits, bytes_fit}
use Rattle.order_links.specs.Links.{block_of}
use Rattle.order_links.proofs.laws.Links.{first_read, next_read}
use Rattle.order_links.proofs.laws.Marks.{marking_first, marking_next, marked}
use Rattle.order_links.proofs.marks.last_lines.Goals as goal

pub loop-i-init : goal.loop-i-init
loop-i-init c = marking_first c.args.orders.now c.args.count c.args.block (first_read (block_of c.args.orders.now) c.args.count c.requires.orders_fit c.requires.blocks_in_range c.requires.links_by_block c.args.block c.requires.block_in_range c.first_line-i.ensures)

pub key-place-requires : goal.key-place-requires
key-place-requires c = c.requires.indices_in_range c.loop-i.i c.loop-i-test.true

pub offset_bounds-marks-place : goal.offset_bounds-marks-place
offset_bounds-marks-place c = record { fits = bytes_fit (place_fits _ _ c.key-place.ensures (c.requires.indices_in_range c.loop-i.i c.loop-i-test.true)) }

pub bounds-marks-place : goal.bounds-marks-place
bounds-marks-place c = place_fits _ _ c.key-place.ensures (c.requires.indices_in_range c.loop-i.i c.loop-i-test.true)

pub loop-i-smaller : goal.loop-i-smaller
loop-i-smaller c =
    let more = c.loop-i-test.true in
    let next = next_read (block_of c.args.orders.now) c.args.count c.requires.orders_fit c.requires.blocks_in_range c.requires.links_by_block c.args.block c.loop-i.i more (c.loop-i.invariant.here more) c.next_line-i.ensures in
    omega (arith, next.after, more)

pub loop-i-preserved : goal.loop-i-preserved
loop-i-preserved c =
    let more = c.loop-i-test.true in
    let next = next_read (block_of c.args.orders.now) c.args.count c.requires.orders_fit c.requires.blocks_in_range c.requires.links_by_block c.args.block c.loop-i.i more (c.loop-i.invariant.here more) c.next_line-i.ensures in
    marking_next c.args.orders.now c.args.count c.args.block c.loop-i.i more next c.key-place.ensures c.loop-i.invariant

pub returns : goal.returns
returns c = marked c.args.orders.now c.args.count c.args.block c.loop-i-test.false c.loop-i.invariant
