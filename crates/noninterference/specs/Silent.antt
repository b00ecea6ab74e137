-- Which tracks are silent by the input alone: muted ones (the customer's word is hushed) and held ones (docs/SILENCE.md).
use Rattle.std.specs.Prelude.{Bool, true, cond, not, ◌&&◌, ◌||◌, ℕ, suc, eqb, leb}
use Rattle.laws.specs.Loop.{upto}
use Rattle.scene_tables.specs.Bytes.{every}
use Rattle.scene_tables.specs.Tables.{natural, tracks, routes, orders, raised_minus, raised, track_column, route_column, order_column, order_kind}
use Rattle.scene_questions.specs.Questions.{Tables, rows_at, lines_at, cell}
use Rattle.noninterference.specs.Removed.{removed_track, names_removed}

-- at most -60 dB
unfoldable pub silent_volume : ℕ → Bool
silent_volume volume = leb volume (raised_minus 60000)

-- an order of a kind that names track t, counted from 0
unfoldable pub names : Tables → ℕ → ℕ → ℕ → Bool
names ts kind t i = eqb (cell (rows_at ts orders) i order_column.kind) kind && eqb (cell (rows_at ts orders) i order_column.index) (raised (suc t))

-- The track's volume and every volume order for it are at most -60 dB, and no track below it is routed.
unfoldable pub muted : Tables → ℕ → Bool
muted ts t =
    silent_volume (cell (rows_at ts tracks) t track_column.volume)
    && (every (lines_at ts orders) (λ i. cond (names ts order_kind.track_volume t i) (silent_volume (cell (rows_at ts orders) i order_column.volume)) true)
    && every (lines_at ts routes) (λ r. not (names_removed (removed_track ts (eqb t)) (natural (cell (rows_at ts routes) r route_column.track)))))

-- a pause or a resume of track t
unfoldable pub pauses_or_resumes : Tables → ℕ → ℕ → Bool
pauses_or_resumes ts t i = names ts order_kind.pause t i || names ts order_kind.resume t i

-- the pause that holds a track: block, clock, when and millis are 0
unfoldable pub is_holding : Tables → ℕ → ℕ → Bool
is_holding ts t i =
    names ts order_kind.pause t i
    && (eqb (cell (rows_at ts orders) i order_column.block) (raised 0)
    && (eqb (cell (rows_at ts orders) i order_column.clock) (raised 0) && (eqb (cell (rows_at ts orders) i order_column.when) (raised 0) && eqb (cell (rows_at ts orders) i order_column.millis) (raised 0))))

-- Of pauses and resumes exactly one names the track, and it is such a pause.
unfoldable pub held : Tables → ℕ → Bool
held ts t =
    eqb (upto (λ i n. cond (pauses_or_resumes ts t i) (suc n) n) (lines_at ts orders) 0) 1
    && every (lines_at ts orders) (λ i. cond (pauses_or_resumes ts t i) (is_holding ts t i) true)
