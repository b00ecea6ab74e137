-- The orders by their blocks: of each block the first line, and of each line the next of its block. So a block's orders are found without a look at the others.
use Rattle.std.specs.Prelude.{List, ℕ, ◌+◌, get_or, set, replicate}
use Rattle.limits.specs.Limits.{order_lines, blocks_most}
use Rattle.laws.specs.Loop.{downto}
use Rattle.scene.specs.declared.scene.OrderLine.{OrderLine}
use Rattle.accepted.specs.Lines.{absent_order_line}

abbrev pub block_of : List OrderLine → ℕ → ℕ
block_of orders i = (get_or orders i absent_order_line).block

abbrev pub links_size : ℕ
links_size = blocks_most + order_lines

-- line i is linked: to its block's first line so far, whose place it takes
unfoldable pub linked_line : (ℕ → ℕ) → ℕ → List ℕ → List ℕ
linked_line block_of i l = set (set l (blocks_most + i) (get_or l (block_of i) 0)) (block_of i) i

-- One array: of each block the first of the n lines, and behind those, of each line the next of its block. There is none where it has order_lines.
unfoldable pub block_links : (ℕ → ℕ) → ℕ → List ℕ
block_links block_of n = downto (linked_line block_of) n (replicate links_size order_lines)

-- the two answers
abbrev pub first_line : List ℕ → ℕ → ℕ
first_line links block = get_or links block 0

abbrev pub next_line : List ℕ → ℕ → ℕ
next_line links i = get_or links (blocks_most + i) 0
