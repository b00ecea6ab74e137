-- Of the orders that are kept the same count: an order that a kept one is compared with names the same line, and is kept. Assumes nothing.
use mathlib.Core.Path.{◌≡◌, refl, sym, ap, ap₂, ◌∙◌, subst}
use mathlib.Core.Logic.{inl, inr}
use mathlib.Core.Bool.{Bool, false, not}
use Prim.Native.Nat.{ℕ, ◌<◌}
use lib.Dec.{T, T_not, not_T, eqb}
use lib.Ieee.Bits.{is_false}
use Rattle.recordings.specs.Recordings.{Recordings}
use Rattle.laws.specs.Kept.{rank}
use Rattle.scene.specs.declared.scene.Scene.{Scene}
use Rattle.scene.specs.declared.scene.OrderLine.{OrderLine}
use Rattle.scene.specs.declared.scene.OrderKind.{OrderKind}
use Rattle.scene.specs.declared.scene.OrderKind.TheVariants.{MainVolume, TrackVolume, SendVolume, RouteVolume, Pause, Resume}
use Rattle.accepted.specs.Lines.{order_line}
use Rattle.order_lines.specs.Orders.{is_kind_for, counts}
use Rattle.order_lines.proofs.laws.Orders.{kind_for_kind, kind_for_index, kind_for_same}
use Rattle.order_lines.proofs.laws.KeptOrders.{Compared, counts_kept}
use Rattle.noninterference.proofs.laws.Lines.{same_test}
use Rattle.noninterference.proofs.laws.SceneLeft.{kept_route_line, kept_index, kept_order, new_index, new_order_line, SceneLeft}

module _ (keep : ℕ → Bool) (s : Scene) where
  index_same : (k : OrderKind) (i j : ℕ) → T (kept_index keep s k i) → T (kept_index keep s k j) → eqb (new_index keep s k i) (new_index keep s k j) ≡ eqb i j
  unfolding new_index kept_index
  index_same MainVolume i j a b = refl
  index_same TrackVolume i j a b = same_test keep i j a b
  index_same SendVolume i j a b = refl
  index_same RouteVolume i j a b = same_test (kept_route_line keep s) i j a b
  index_same Pause i j a b = same_test keep i j a b
  index_same Resume i j a b = same_test keep i j a b

  index_test : (h k : OrderKind) (i j : ℕ) → h ≡ k → T (kept_index keep s h i) → T (kept_index keep s k j) → eqb (new_index keep s h i) (new_index keep s k j) ≡ eqb i j
  index_test h k i j e a b =
      subst (λ (x : OrderKind). T (kept_index keep s x j) → eqb (new_index keep s h i) (new_index keep s x j) ≡ eqb i j) e (index_same h i j a) b

  -- a kind with whose lines an order is compared names lines of the order's own table
  compared_kept : (o : OrderLine) (k : OrderKind) → Compared o k → T (kept_index keep s o.kind o.index) → T (kept_index keep s k o.index)
  unfolding kept_index
  compared_kept o k c t =
      let at : OrderKind → Type 0 = λ x. T (kept_index keep s x o.index) in
      elim c [ inl e ↦ subst at (sym e) t | inr e ↦ subst at (sym e.1) (subst at e.0 t) ]

  compared_index : (o : OrderLine) (k : OrderKind) → Compared o k → new_index keep s o.kind o.index ≡ new_index keep s k o.index
  unfolding new_index
  compared_index o k c =
      let at : OrderKind → ℕ = λ x. new_index keep s x o.index in
      elim c [ inl e ↦ ap at (sym e) | inr e ↦ ap at e.0 ∙ ap at (sym e.1) ]

  compared_same : (o p : OrderLine) (k : OrderKind) → Compared o k → T (kept_index keep s o.kind o.index) → T (kept_index keep s p.kind p.index)
      → is_kind_for k (new_order_line keep s o) (new_order_line keep s p) ≡ is_kind_for k o p
  compared_same o p k c a b =
      kind_for_same k o p (new_order_line keep s o) (new_order_line keep s p) refl refl refl
      (λ e. ap (eqb (new_index keep s p.kind p.index)) (compared_index o k c) ∙ index_test p.kind k p.index o.index e b (compared_kept o k c a))

  compared_apart : (o p : OrderLine) (k : OrderKind) → Compared o k → T (kept_index keep s o.kind o.index) → T (not (kept_index keep s p.kind p.index)) → is_kind_for k o p ≡ false
  compared_apart o p k c a b =
      is_false (is_kind_for k o p)
      (not_T (is_kind_for k o p)
      (λ t. T_not (kept_index keep s p.kind p.index) b
      (subst (λ (i : ℕ). T (kept_index keep s p.kind i)) (sym (kind_for_index k o p t)) (subst (λ (x : OrderKind). T (kept_index keep s x o.index)) (sym (kind_for_kind k o p t)) (compared_kept o k c a)))))

-- ---- the orders that count

module _ {keep chosen quiet : ℕ → Bool} {s : Scene} {samples : Recordings} {e : Scene} {samples' : Recordings} (w : SceneLeft keep chosen quiet s samples e samples')
    (i : ℕ) (there : i < s.order_count) (kept : T (kept_order keep s i)) where
  pub counts_same : (block : ℕ) → counts e.orders e.order_count block (rank (kept_order keep s) i) ≡ counts s.orders s.order_count block i
  counts_same block =
      let here = w.orders i there kept in
      counts_kept (kept_order keep s) s.orders e.orders s.order_count e.order_count i w.order_count kept block (ap (λ (o : OrderLine). o.block) here) (ap (λ (o : OrderLine). o.kind) here)
      (λ k c j b t. ap₂ (is_kind_for k) here (w.orders j b t) ∙ compared_same keep s (order_line s i) (order_line s j) k c kept t) (λ k c j b t. compared_apart keep s (order_line s i) (order_line s j) k c kept t)
