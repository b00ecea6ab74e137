-- What lies inside chosen tracks: the lines that are removed (the customer's word is struck), and those that are left.
-- A choice says of each line of the tracks table, counted from 0, whether it is chosen.
use Rattle.std.specs.Prelude.{Bool, false, not, cond, ◌||◌, ℕ, zero, suc, eqb, List, [], ◌∷◌, length, set}
use Rattle.laws.specs.Kept.{rank, kept_of}
use Rattle.laws.specs.Loop.{changed}
use Rattle.scene_tables.specs.Tables.{natural, head, clocks, tracks, sends, routes, sounds, listener, placings, orders, raised, track_column, route_column, sound_column, placing_column, order_column, order_kind}
use Rattle.scene_questions.specs.Questions.{Tables, rows_at, field, cell, parent_of}

-- the number of a line among the lines kept
unfoldable pub new_line : (ℕ → Bool) → ℕ → ℕ
new_line keep zero = 0
new_line keep (suc p) = suc (rank keep p)

abbrev pub Choice : Type 0
Choice = ℕ → Bool

-- Whether a track, by its line number from 1, is chosen or stands below a chosen one. A parent stands on an earlier line, so as
-- many steps as the line's number are enough.
unfoldable pub inside_within : ℕ → Tables → Choice → ℕ → Bool
inside_within zero ts chosen line = false
inside_within (suc steps) ts chosen zero = false
inside_within (suc steps) ts chosen (suc t) = chosen t || inside_within steps ts chosen (parent_of (rows_at ts tracks) (suc t))

unfoldable pub inside : Tables → Choice → ℕ → Bool
inside ts chosen line = inside_within line ts chosen line

-- ---- removed lines, counted from 0

-- the tracks below chosen ones
unfoldable pub removed_track : Tables → Choice → ℕ → Bool
removed_track ts chosen t = inside ts chosen (parent_of (rows_at ts tracks) (suc t))

-- a line number from 1 that names a removed line
unfoldable pub names_removed : (ℕ → Bool) → ℕ → Bool
names_removed removed zero = false
names_removed removed (suc i) = removed i

unfoldable pub removed_route : Tables → Choice → ℕ → Bool
removed_route ts chosen r = names_removed (removed_track ts chosen) (natural (cell (rows_at ts routes) r route_column.track))

-- the sounds of chosen tracks, and those of removed ones
unfoldable pub removed_sound : Tables → Choice → ℕ → Bool
removed_sound ts chosen k = inside ts chosen (natural (cell (rows_at ts sounds) k sound_column.track))

-- the placings of chosen tracks, and those of removed ones
unfoldable pub removed_placing : Tables → Choice → ℕ → Bool
removed_placing ts chosen p = inside ts chosen (natural (cell (rows_at ts placings) p placing_column.track))

-- the orders that name a removed track or route: one of the main volume names no line
unfoldable pub removed_order : Tables → Choice → ℕ → Bool
removed_order ts chosen i =
    let kind = cell (rows_at ts orders) i order_column.kind in
    let index = natural (cell (rows_at ts orders) i order_column.index) in
    cond (eqb kind order_kind.send_volume) false
    (cond (eqb kind order_kind.route_volume) (names_removed (removed_route ts chosen) index) (names_removed (removed_track ts chosen) index))

-- ---- the lines left, with references counted among those lines alone

abbrev pub kept_tracks : Tables → Choice → ℕ → Bool
kept_tracks ts chosen t = not (removed_track ts chosen t)

abbrev pub kept_routes : Tables → Choice → ℕ → Bool
kept_routes ts chosen r = not (removed_route ts chosen r)

abbrev pub kept_sounds : Tables → Choice → ℕ → Bool
kept_sounds ts chosen k = not (removed_sound ts chosen k)

abbrev pub kept_placings : Tables → Choice → ℕ → Bool
kept_placings ts chosen p = not (removed_placing ts chosen p)

abbrev pub kept_orders : Tables → Choice → ℕ → Bool
kept_orders ts chosen i = not (removed_order ts chosen i)

-- a line whose field j names a line of a table
unfoldable pub renumbered : (ℕ → Bool) → ℕ → List ℕ → List ℕ
renumbered keep j row = set row j (raised (new_line keep (natural (field row j))))

unfoldable pub renumbered_order : Tables → Choice → List ℕ → List ℕ
renumbered_order ts chosen row =
    let kind = field row order_column.kind in
    cond (eqb kind order_kind.send_volume) row
    (cond (eqb kind order_kind.route_volume) (renumbered (kept_routes ts chosen) order_column.index row) (renumbered (kept_tracks ts chosen) order_column.index row))

-- the lines left of a table, each made anew
unfoldable pub lines_left : (ℕ → Bool) → (ℕ → List ℕ → List ℕ) → List (List ℕ) → List (List ℕ)
lines_left keep f rows = kept_of keep (changed f (length rows) rows)

unfoldable pub left_tables : Tables → Choice → Tables
left_tables ts chosen =
    rows_at ts head
    ∷ rows_at ts clocks
    ∷ lines_left (kept_tracks ts chosen) (λ t row. renumbered (kept_tracks ts chosen) track_column.parent row) (rows_at ts tracks)
    ∷ rows_at ts sends
    ∷ lines_left (kept_routes ts chosen) (λ r row. renumbered (kept_tracks ts chosen) route_column.track row) (rows_at ts routes)
    ∷ lines_left (kept_sounds ts chosen) (λ k row. renumbered (kept_tracks ts chosen) sound_column.track row) (rows_at ts sounds)
    ∷ rows_at ts listener
    ∷ lines_left (kept_placings ts chosen) (λ p row. renumbered (kept_tracks ts chosen) placing_column.track row) (rows_at ts placings)
    ∷ lines_left (kept_orders ts chosen) (λ i row. renumbered_order ts chosen row) (rows_at ts orders)
    ∷ []
