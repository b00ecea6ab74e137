-- The marks of a block's lines, made along its links. Assumes nothing.
use mathlib.Core.Path.{◌≡◌, ◌∙◌}
use mathlib.Core.List.{List}
use mathlib.Core.Logic.{◌≢◌}
use Prim.Native.Nat.{ℕ, suc, ◌+◌, ◌≤◌, ◌<◌}
use lib.ListN.{get_or, set, replicate}
use Rattle.scene.specs.declared.scene.OrderLine.{OrderLine}
use Rattle.accepted.specs.Lines.{absent_order_line}
use Rattle.order_lines.specs.Orders.{marks_size, key, mark_line, last_lines}
use Rattle.order_lines.proofs.laws.Marks.{marks_on, marks_off, marks_made}
use Rattle.order_links.specs.Links.{block_of}
use Rattle.order_links.proofs.laws.Links.{First}
use Rattle.order_links.proofs.laws.Walk.{Reading, reading_first, reading_next}

module _ (orders : List OrderLine) (count block : ℕ) where
  -- before line v of the block
  abbrev pub Marking : ℕ → List ℕ → Type 0
  Marking v marks = Reading (mark_line orders block) count (block_of orders) block (replicate marks_size 0) v marks

  others : (k : ℕ) → k < count → block_of orders k ≢ block → (x : List ℕ) → mark_line orders block k x ≡ x
  others k b d x = marks_off orders block k x d

  pub marking_first : {v : ℕ} → First (block_of orders) count block 0 v → Marking v (replicate marks_size 0)
  marking_first f = reading_first (mark_line orders block) count (replicate marks_size 0) (block_of orders) block others f

  -- line i is marked, and v comes next
  pub marking_next : (i : ℕ) {v place : ℕ} {marks : List ℕ} → i < count → First (block_of orders) count block (suc i) v → place ≡ key (get_or orders i absent_order_line).kind (get_or orders i absent_order_line).index
      → Marking i marks → Marking v (set marks place (i + 1))
  marking_next i {marks = marks} b f p m =
      reading_next (mark_line orders block) count (replicate marks_size 0) (block_of orders) block others i b f (marks_on orders block i marks (m.here b) p) m

  pub marked : {v : ℕ} {marks : List ℕ} → count ≤ v → Marking v marks → marks ≡ last_lines orders count block
  marked l m = m.walk.done l ∙ marks_made orders block count
