use mathlib.Core.Path.{◌≡◌}
use Rattle.laws.specs.Loop.{downto}
use Rattle.order_links.specs.Links.{block_of, linked_line, block_links}
use Rattle.order_links.proofs.by_block.links_by_block.Given as goal

abbrev pub invariant-loop-i : goal.invariant-loop-i
invariant-loop-i l = downto (linked_line (block_of l.orders)) l.i l.links ≡ block_links (block_of l.orders) l.count
