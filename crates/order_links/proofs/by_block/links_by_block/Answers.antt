-- `links_by_block` meets its contract. The invariant: what the lines below i still do to the links comes to all of them. Assumes nothing.
use native.Mathlib.Omega.{arith}
use Rattle.order_links.specs.Links.{block_of}
use Rattle.order_links.proofs.laws.Links.{links_none, links_turn, links_made}
use Rattle.order_links.proofs.by_block.links_by_block.Goals as goal

pub loop-i-init : goal.loop-i-init
loop-i-init c = links_none (block_of c.args.orders.now) c.args.count

pub loop-i-preserved : goal.loop-i-preserved
loop-i-preserved c = links_turn (block_of c.args.orders.now) c.args.count c.loop-i.i c.loop-i.links (omega (arith, c.loop-i-test.true)) c.loop-i.invariant

pub returns : goal.returns
returns c = links_made (block_of c.args.orders.now) c.args.count c.loop-i.links (omega (arith, c.loop-i-test.false)) c.loop-i.invariant
