-- A block whose links have no line has no orders. Assumes nothing.
use mathlib.Core.Path.{◌≡◌, refl, sym, ap, ◌∙◌}
use mathlib.Core.List.{List}
use Prim.Native.Nat.{ℕ, ◌≤◌, ◌<◌}
use native.Mathlib.Omega.{arith}
use Rattle.limits.specs.Limits.{blocks_most}
use Rattle.laws.specs.Loop.{upto}
use Rattle.laws.proofs.laws.Choice.{cond-false}
use Rattle.laws.proofs.laws.Loop.{upto_holds}
use Rattle.scene.specs.declared.scene.Scene.{Scene}
use Rattle.accepted.specs.Lines.{order_line}
use Rattle.order_lines.proofs.laws.Orders.{order_skipped}
use Rattle.order_links.specs.Links.{block_of, block_links, first_line}
use Rattle.order_links.proofs.laws.Links.{first_read}
use Rattle.mixer.specs.declared.mixer.Mixer.{Mixer}
use Rattle.mixer.specs.Orders.{ordered_by, resumed_by, order_step, resume_step, mixer_ordered}
use Rattle.mixer_orders.specs.There.{OrdersThere}

-- ---- a block without orders

module _ (s : Scene) (b : ℕ) (none : (i : ℕ) → i < s.order_count → (order_line s i).block ≡ b → ⊥) where
  no_orders : (m : Mixer) → mixer_ordered s b m ≡ m
  unfolding mixer_ordered order_step resume_step
  no_orders m =
      ap (upto (resume_step s b) s.order_count) (upto_holds (λ i x. x ≡ m) (order_step s b) s.order_count m refl (λ i h x e. cond-false _ (ordered_by (order_line s i).kind (order_line s i) x) x (order_skipped s b i (none i h)) ∙ e))
      ∙ upto_holds (λ i x. x ≡ m) (resume_step s b) s.order_count m refl (λ i h x e. cond-false _ (resumed_by (order_line s i).kind (order_line s i) x) x (order_skipped s b i (none i h)) ∙ e)

-- a block that has no first line
pub none_read : (s : Scene) {links : List ℕ} (b v : ℕ) (m : Mixer) → OrdersThere s → links ≡ block_links (block_of s.orders) s.order_count → b < blocks_most → v ≡ first_line links b → s.order_count ≤ v → m ≡ mixer_ordered s b m
none_read s b v m there linked inside e past =
    let f = first_read (block_of s.orders) s.order_count there.few there.blocks linked b inside e in
    sym (no_orders s b (λ i h d. f.skips i (omega arith) (omega (arith, h, past)) h d) m)
