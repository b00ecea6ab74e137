-- Laws of muted tracks, as the code asks for them. Assumes nothing.
use mathlib.Core.Path.{◌≡◌, sym, ◌∙◌, ap}
use mathlib.Core.Bool.{Bool, true, false, cond, not}
use Prim.Native.Nat.{ℕ}
use borrow.Author.Tests.{not-true, not-false}
use lib.Dec.{eqb}
use Rattle.scene_tables.specs.Bytes.{every}
use Rattle.scene_tables.specs.Tables.{natural, tracks, routes, orders, track_column, route_column, order_column, order_kind}
use Rattle.scene_questions.specs.Questions.{Tables, rows_at, lines_at, cell}
use Rattle.noninterference.specs.Removed.{removed_track, names_removed}
use Rattle.noninterference.specs.Silent.{silent_volume, names, muted}

-- the tests of an order and of a route
abbrev pub order_test : Tables → ℕ → ℕ → Bool
order_test ts t i = cond (names ts order_kind.track_volume t i) (silent_volume (cell (rows_at ts orders) i order_column.volume)) true

abbrev pub is_below : Tables → ℕ → ℕ → Bool
is_below ts t r = names_removed (removed_track ts (eqb t)) (natural (cell (rows_at ts routes) r route_column.track))

abbrev pub route_test : Tables → ℕ → ℕ → Bool
route_test ts t r = not (is_below ts t r)

module _ (ts : Tables) (t z : ℕ) (a : Bool) (isz : z ≡ cell (rows_at ts tracks) t track_column.volume) (isa : a ≡ silent_volume z) where
  volume_is : silent_volume (cell (rows_at ts tracks) t track_column.volume) ≡ a
  volume_is = ap silent_volume (sym isz) ∙ sym isa

  pub volume_sounds : not a ≡ true → false ≡ muted ts t
  unfolding muted
  volume_sounds h = rw (volume_is, not-true a h)

  module _ (yes_a : not a ≡ false) (b : Bool) (isb : b ≡ every (lines_at ts orders) (order_test ts t)) where
    pub order_sounds : not b ≡ true → false ≡ muted ts t
    unfolding muted
    order_sounds h = rw (volume_is, not-false a yes_a, ← isb, not-true b h)

    pub muted_by_routes : not b ≡ false → (d : Bool) → d ≡ every (lines_at ts routes) (route_test ts t) → d ≡ muted ts t
    unfolding muted
    muted_by_routes h d isd = rw (volume_is, not-false a yes_a, ← isb, not-false b h) isd
