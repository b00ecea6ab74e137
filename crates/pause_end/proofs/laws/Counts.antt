-- The one pause of a track that no order resumes counts in its block: no other order can replace it. Assumes nothing.
use mathlib.Core.Path.{◌≡◌, refl, ◌∙◌}
use mathlib.Core.Bool.{true}
use Prim.Native.Nat.{ℕ, ◌≤◌, ◌<◌}
use native.Mathlib.Nat.{le_of_eq}
use lib.Dec.{T}
use Rattle.scene.specs.declared.scene.Scene.{Scene}
use Rattle.scene.specs.declared.scene.OrderKind.TheVariants.{Pause}
use Rattle.accepted.specs.Lines.{order_line}
use Rattle.order_lines.specs.Orders.{is_kind_for, counts}
use Rattle.order_lines.proofs.laws.Orders.{kind_for_kind, kind_for_index, pause_counts as last_pause_counts}
use Rattle.pause_end.specs.PauseEnd.{PausedOnce}

module _ {s : Scene} {t i : ℕ} (once : PausedOnce s t i) where
  no_later : (j : ℕ) → j < s.order_count → T (is_kind_for Pause (order_line s i) (order_line s j)) → j ≤ i
  no_later j b a =
      let o = order_line s i in
      let p = order_line s j in
      le_of_eq (once.only j b (kind_for_kind Pause o p a) (kind_for_index Pause o p a ∙ once.index))

  pub pause_counts : counts s.orders s.order_count (order_line s i).block i ≡ true
  pause_counts = last_pause_counts s.orders s.order_count i (order_line s i).block once.pause refl no_later
