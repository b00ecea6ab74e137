-- The orders of accepted tables: their kinds as numbers and as the scene has them, and what is left of an order. Assumes nothing.
use mathlib.Core.Path.{◌≡◌, refl, sym, ap, ◌∙◌, subst}
use mathlib.Core.Logic.{◌≢◌}
use mathlib.Core.Bool.{Bool, true, false, not, cond}
use mathlib.Core.List.{List}
use Prim.Native.Nat.{ℕ, zero, suc, ◌≤◌}
use native.Mathlib.Omega.{arith}
use borrow.Author.Tests.{eqb-true}
use lib.Dec.{eqb}
use Rattle.scene_tables.specs.Tables.{natural, raised, order_column, order_kind}
use Rattle.scene.specs.declared.scene.OrderKind.{OrderKind}
use Rattle.scene.specs.declared.scene.OrderKind.TheVariants.{MainVolume, TrackVolume, SendVolume, RouteVolume, Pause, Resume}
use Rattle.scene_questions.specs.Questions.{Tables, field, index_names_line}
use Rattle.scene.specs.Scene.{kind_of, order_of, scene_of}
use Rattle.order_lines.specs.Orders.{kind_number}
use Rattle.noninterference.specs.Removed.{new_line, Choice, removed_track, removed_route, names_removed, kept_tracks, kept_routes, renumbered, renumbered_order}
use Rattle.noninterference.proofs.laws.Lines.{new_line_zero, kept_line}
use Rattle.noninterference.proofs.laws.SceneLeft.{kept_route_line, kept_index, new_index, new_order_line}
use Rattle.noninterference.proofs.laws.Inside.{names_kept}
use Rattle.noninterference.proofs.laws.LeftLines.{differ, counted_field, counted_other}

-- ---- kinds

abbrev pub KindRange : ℕ → Type 0
KindRange z = (raised 0 ≤ z) × (z ≤ raised 5)

-- what holds of each of the six kinds holds of every kind
pub each_kind : (P : ℕ → Type 0) → P order_kind.main_volume → P order_kind.track_volume → P order_kind.send_volume → P order_kind.route_volume → P order_kind.pause → P order_kind.resume → (z : ℕ) → KindRange z → P z
each_kind P a b c d f g z h = subst P (back z h.0) (go (natural z) (below z h.1))
  where
    back : (z : ℕ) → raised 0 ≤ z → raised (natural z) ≡ z
    back z h = omega arith

    below : (z : ℕ) → z ≤ raised 5 → natural z ≤ 5
    below z h = omega arith

    go : (k : ℕ) → k ≤ 5 → P (raised k)
    go zero h = a
    go (suc zero) h = b
    go (suc (suc zero)) h = c
    go (suc (suc (suc zero))) h = d
    go (suc (suc (suc (suc zero)))) h = f
    go (suc (suc (suc (suc (suc zero))))) h = g
    go (suc (suc (suc (suc (suc (suc k)))))) h = absurd (omega arith)

pub kind_number_lem : (z : ℕ) → KindRange z → z ≡ raised (kind_number (kind_of z))
unfolding kind_of kind_number
kind_number_lem = each_kind (λ z. z ≡ raised (kind_number (kind_of z))) refl refl refl refl refl refl

pub number_kind : (k : OrderKind) → kind_of (raised (kind_number k)) ≡ k
unfolding kind_of kind_number
number_kind MainVolume = refl
number_kind TrackVolume = refl
number_kind SendVolume = refl
number_kind RouteVolume = refl
number_kind Pause = refl
number_kind Resume = refl

-- ---- what is left

module _ (ts : Tables) (chosen : Choice) (routes_kept : kept_routes ts chosen ≡ kept_route_line (kept_tracks ts chosen) (scene_of ts)) (lines : ℕ → ℕ) where
  -- whether an order is left, by its kind and its index
  abbrev removed_index : ℕ → ℕ → Bool
  removed_index kind index =
      cond (eqb kind order_kind.send_volume) false (cond (eqb kind order_kind.route_volume) (names_removed (removed_route ts chosen) index) (names_removed (removed_track ts chosen) index))

  pub index_kept : (kind index : ℕ) → KindRange kind → index_names_line lines kind index ≡ true
      → not (removed_index kind (natural index)) ≡ kept_index (kept_tracks ts chosen) (scene_of ts) (kind_of kind) (natural index)
  unfolding index_names_line kind_of kept_index
  index_kept kind index =
      each_kind
      (λ z. index_names_line lines z index ≡ true → not (removed_index z (natural index)) ≡ kept_index (kept_tracks ts chosen) (scene_of ts) (kind_of z) (natural index))
      (λ e. ap (λ (n : ℕ). not (names_removed (removed_track ts chosen) (natural n))) (eqb-true index (raised 0) e) ∙ unfold names_removed in refl)
      (λ e. names_kept (removed_track ts chosen) (natural index))
      (λ e. refl)
      (λ e. names_kept (removed_route ts chosen) (natural index) ∙ ap (λ (keep : ℕ → Bool). kept_line keep (natural index)) routes_kept)
      (λ e. names_kept (removed_track ts chosen) (natural index))
      (λ e. names_kept (removed_track ts chosen) (natural index))
      kind

  -- an order counted anew, by its kind
  abbrev counted_as : ℕ → List ℕ → List ℕ
  counted_as kind row = cond (eqb kind order_kind.send_volume) row (cond (eqb kind order_kind.route_volume) (renumbered (kept_routes ts chosen) order_column.index row) (renumbered (kept_tracks ts chosen) order_column.index row))

  -- only the index changes
  other_field : (row : List ℕ) (k : ℕ) → k ≢ 2 → field (renumbered_order ts chosen row) k ≡ field row k
  unfolding renumbered_order
  other_field row k h = go (eqb (field row order_column.kind) order_kind.send_volume) (eqb (field row order_column.kind) order_kind.route_volume)
    where
      go : (a b : Bool) → field (cond a row (cond b (renumbered (kept_routes ts chosen) order_column.index row) (renumbered (kept_tracks ts chosen) order_column.index row))) k ≡ field row k
      go true b = refl
      go false true = counted_other (kept_routes ts chosen) order_column.index row k h
      go false false = counted_other (kept_tracks ts chosen) order_column.index row k h

  index_left : (row : List ℕ) → KindRange (field row order_column.kind) → index_names_line lines (field row order_column.kind) (field row order_column.index) ≡ true
      → natural (field (renumbered_order ts chosen row) order_column.index) ≡ new_index (kept_tracks ts chosen) (scene_of ts) (kind_of (field row order_column.kind)) (natural (field row order_column.index))
  unfolding renumbered_order index_names_line kind_of new_index
  index_left row =
      let tracks = counted_field (kept_tracks ts chosen) order_column.index row in
      each_kind
      (λ z. index_names_line lines z (field row order_column.index) ≡ true → natural (field (counted_as z row) order_column.index) ≡ new_index (kept_tracks ts chosen) (scene_of ts) (kind_of z) (natural (field row order_column.index)))
      (λ e. let none : natural (field row order_column.index) ≡ 0 = ap natural (eqb-true (field row order_column.index) (raised 0) e) in tracks ∙ ap (new_line (kept_tracks ts chosen)) none ∙ new_line_zero (kept_tracks ts chosen) ∙ sym none)
      (λ e. tracks)
      (λ e. refl)
      (λ e. counted_field (kept_routes ts chosen) order_column.index row ∙ ap (λ (keep : ℕ → Bool). new_line keep (natural (field row order_column.index))) routes_kept)
      (λ e. tracks)
      (λ e. tracks)
      (field row order_column.kind)

  pub order_left : (row : List ℕ) → KindRange (field row order_column.kind) → index_names_line lines (field row order_column.kind) (field row order_column.index) ≡ true
      → order_of (renumbered_order ts chosen row) ≡ new_order_line (kept_tracks ts chosen) (scene_of ts) (order_of row)
  unfolding order_of
  order_left row h e =
      rw (
        other_field row order_column.block (differ tt),
        other_field row order_column.kind (differ tt),
        index_left row h e,
        other_field row order_column.volume (differ tt),
        other_field row order_column.clock (differ tt),
        other_field row order_column.when (differ tt),
        other_field row order_column.part (differ tt),
        other_field row order_column.millis (differ tt),
        other_field row order_column.easing (differ tt),
        other_field row order_column.power (differ tt),
      )
