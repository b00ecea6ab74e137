-- Which lines of accepted tables are left, as the scene has them, and what a track, a route and an order become. Assumes nothing.
use mathlib.Core.Path.{◌≡◌, sym, ap, ◌∙◌, fun_ext}
use mathlib.Core.Bool.{Bool}
use mathlib.Core.List.{List, []}
use Prim.Native.Nat.{ℕ, suc, ◌<◌}
use lib.Dec.{lit<}
use lib.ListN.{get_or}
use Rattle.recordings.specs.Recordings.{Recordings}
use Rattle.scene_tables.specs.Tables.{natural, tracks, routes, sounds, placings, orders, track_column, route_column, sound_column, placing_column, order_column}
use Rattle.scene.specs.declared.scene.OrderLine.{OrderLine}
use Rattle.scene_questions.specs.Questions.{Tables, rows_at, lines_at, cell, parent_of}
use Rattle.scene.specs.Scene.{track_of, route_of, order_of, scene_of}
use Rattle.accepted.specs.Lines.{track_line}
use Rattle.accepted.proofs.laws.Passed.{TablesPass}
use Rattle.accepted.proofs.laws.Line.{line_ok}
use Rattle.noninterference.proofs.laws.Lines.{kept_line, open_line}
use Rattle.noninterference.specs.Removed.{Choice, removed_track, removed_route, removed_sound, removed_placing, removed_order, kept_tracks, kept_routes, kept_sounds, kept_placings, kept_orders, renumbered, renumbered_order}
use Rattle.noninterference.proofs.laws.SceneLeft.{kept_route_line, kept_sound_line, kept_index, kept_order, new_track_line, new_route_line, new_order_line}
use Rattle.noninterference.proofs.laws.Inside.{names_kept, open_line_lem}
use Rattle.noninterference.proofs.laws.LeftLines.{differ, counted_field, counted_other}
use Rattle.noninterference.proofs.laws.OrderLines.{index_kept, order_left}
use Rattle.noninterference.proofs.laws.SceneLines.{order_at, parent_at, route_track_at, sound_track_at, passed_early}

-- ---- lines counted anew, as the scene has them

pub track_new : (keep : ℕ → Bool) (row : List ℕ) → track_of (renumbered keep track_column.parent row) ≡ new_track_line keep (track_of row)
unfolding track_of
track_new keep row = rw (counted_field keep 0 row, counted_other keep 0 row 1 (differ tt))

pub route_new : (keep : ℕ → Bool) (row : List ℕ) → route_of (renumbered keep route_column.track row) ≡ new_route_line keep (route_of row)
unfolding route_of
route_new keep row = rw (counted_field keep 0 row, counted_other keep 0 row 1 (differ tt), counted_other keep 0 row 2 (differ tt))

-- ---- which lines are kept

module _ (ts : Tables) (chosen : Choice) where
  pub routes_kept : kept_routes ts chosen ≡ kept_route_line (kept_tracks ts chosen) (scene_of ts)
  unfolding removed_route
  routes_kept =
      fun_ext (λ r. names_kept (removed_track ts chosen) (natural (cell (rows_at ts routes) r route_column.track)) ∙ ap (kept_line (kept_tracks ts chosen)) (sym (route_track_at ts r)))

  module _ (samples : Recordings) (output : ℕ) (passed : TablesPass ts samples output) where
    pub track_kept : (t : ℕ) → kept_tracks ts chosen t ≡ open_line (kept_tracks ts chosen) chosen (track_line (scene_of ts) t).parent
    unfolding removed_track
    track_kept t =
        open_line_lem ts (passed_early ts samples output passed) chosen (parent_of (rows_at ts tracks) (suc t))
        ∙ ap (open_line (kept_tracks ts chosen) chosen) (sym (parent_at ts t))

    pub sounds_kept : kept_sounds ts chosen ≡ kept_sound_line (kept_tracks ts chosen) chosen (scene_of ts)
    unfolding removed_sound
    sounds_kept =
        fun_ext (λ k.
        open_line_lem ts (passed_early ts samples output passed) chosen (natural (cell (rows_at ts sounds) k sound_column.track))
        ∙ ap (open_line (kept_tracks ts chosen) chosen) (sym (sound_track_at ts k)))

    pub placing_kept : (p : ℕ) → kept_placings ts chosen p ≡ open_line (kept_tracks ts chosen) chosen (natural (cell (rows_at ts placings) p placing_column.track))
    unfolding removed_placing
    placing_kept p = open_line_lem ts (passed_early ts samples output passed) chosen (natural (cell (rows_at ts placings) p placing_column.track))

    pub order_kept : (i : ℕ) → i < lines_at ts orders → kept_orders ts chosen i ≡ kept_order (kept_tracks ts chosen) (scene_of ts) i
    unfolding removed_order order_of
    order_kept i h =
        let ok = line_ok ts passed.ranges passed.references orders i (lit< tt) h in
        index_kept ts chosen routes_kept (lines_at ts) (cell (rows_at ts orders) i order_column.kind) (cell (rows_at ts orders) i order_column.index) (ok.fields order_column.kind (lit< tt)) ok.whole.1
        ∙ ap (λ (o : OrderLine). kept_index (kept_tracks ts chosen) (scene_of ts) o.kind o.index) (sym (order_at ts i h))

    pub order_new : (i : ℕ) → i < lines_at ts orders
        → order_of (renumbered_order ts chosen (get_or (rows_at ts orders) i [])) ≡ new_order_line (kept_tracks ts chosen) (scene_of ts) (order_of (get_or (rows_at ts orders) i []))
    order_new i h =
        let ok = line_ok ts passed.ranges passed.references orders i (lit< tt) h in
        order_left ts chosen routes_kept (lines_at ts) (get_or (rows_at ts orders) i []) (ok.fields order_column.kind (lit< tt)) ok.whole.1
