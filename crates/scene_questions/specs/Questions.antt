-- The ten questions that are asked of a scene, one definition each, in their order; docs/QUESTIONS.md has them in words. The tables of a
-- file are the lists of numbers that Grammar.antt reads; all numbers are raised by 2^31.
use Rattle.std.specs.Prelude.{Bool, true, cond, not, ◌&&◌, List, [], ◌∷◌, ◌++◌, ℕ, zero, suc, ◌+◌, ◌-◌, ◌*◌, ◌/◌, ◌%◌, eqb, leb, ltb, pos, length, get_or, Float}
use Rattle.std.specs.Float.{nan, binary32, binary64}
use Rattle.std.specs.Float.Ieee.{of_int, div, le, neg}
use Rattle.limits.specs.Limits.{file_bytes, track_depth}
use Rattle.recordings.specs.Recordings.{Recordings, from_house, from_visitor}
use Rattle.clock.specs.declared.clock_speed.ClockSpeed.{ClockSpeed}
use Rattle.clock.specs.declared.clock_speed.ClockSpeed.TheVariants.{SecondsPerTick, TicksPerSecond, TicksPerMinute}
use Rattle.clock.specs.ClockSpeed.{allowed_speed}
use Rattle.scene_tables.specs.declared.tables.Field.{Field}
use Rattle.scene_tables.specs.declared.tables.Field.TheVariants.{Number, Line, Earlier, Index}
use Rattle.scene_tables.specs.declared.tables.LineRule.{LineRule}
use Rattle.scene_tables.specs.declared.tables.LineRule.TheVariants.{Plain, Speed, Apart, Order}
use Rattle.scene_tables.specs.Bytes.{every}
use Rattle.scene_tables.specs.Tables.{tables, table_at, no_field, width, natural, head, tracks, sends, routes, sounds, placings, raised, head_column, clock_column, track_column, route_column, sound_column, placing_column, order_column, order_kind}
use Rattle.scene_file.specs.Grammar.{line_feed, lines_of, sections_of, are_tables, tables_of}

-- ---- the numbers of the tables, by place: lines and fields counted from 0

abbrev pub Tables : Type 0
Tables = List (List (List ℕ))

-- the lines of a table
abbrev pub rows_at : Tables → ℕ → List (List ℕ)
rows_at ts t = get_or ts t []

abbrev pub lines_at : Tables → ℕ → ℕ
lines_at ts t = length (rows_at ts t)

-- a field of a line
abbrev pub field : List ℕ → ℕ → ℕ
field row j = get_or row j 0

-- a field of a line of a table
abbrev pub cell : List (List ℕ) → ℕ → ℕ → ℕ
cell rows i j = field (get_or rows i []) j

-- a field of the head line
abbrev pub head_cell : Tables → ℕ → ℕ
head_cell ts j = cell (rows_at ts head) 0 j

-- ---- 1. Has the file 1 to 16,384 bytes, the last a line feed?

unfoldable pub size_ok : List ℕ → Bool
size_ok file = leb 1 (length file) && leb (length file) file_bytes && eqb (get_or file (length file - 1) 0) line_feed

-- ---- 2. Are the nine names lines there as spelled, in order, each value line with its count of numbers within
-- -2147483648..2147483647, and nothing else?

unfoldable pub spelled_ok : List ℕ → Bool
spelled_ok file = are_tables tables (sections_of (lines_of file))

-- ---- 3. Is each table's line count allowed?

unfoldable pub lines_ok : Tables → Bool
lines_ok ts =
    every (length tables)
    (λ t. leb (table_at t).least (lines_at ts t) && leb (lines_at ts t) (table_at t).most)

-- ---- What questions 4 and 5 ask of every line: each field by its rule, and the line as a whole by its rule.

unfoldable pub every_line : (Field → ℕ → ℕ → Bool) → (LineRule → List ℕ → Bool) → Tables → Bool
every_line field_passes line_passes ts =
    every (length tables)
    (λ t. every (lines_at ts t)
    (λ i. every (width (table_at t))
    (λ j. field_passes (get_or (table_at t).fields j no_field) i (cell (rows_at ts t) i j))
    && line_passes (table_at t).rule (get_or (rows_at ts t) i [])))

-- ---- 4. Is each field in its range, clock speeds included, line references aside?

-- the rule of the field, the number
unfoldable pub in_range : Field → ℕ → Bool
in_range (Number a b) z = leb a z && leb z b
in_range (Line k a) z = true
in_range Earlier z = true
in_range Index z = true

-- A clock's speed: the unit 0, 1 or 2, and speed / 1000 in f64.
unfoldable pub speed_of : ℕ → ℕ → ClockSpeed
speed_of unit speed =
    let number = div binary64 (of_int binary64 (pos (natural speed))) (of_int binary64 (pos 1000)) in
    cond (eqb unit (raised 0)) (SecondsPerTick number) (cond (eqb unit (raised 1)) (TicksPerSecond number) (TicksPerMinute number))

-- A pause and a resume, the last two kinds, have the volume 0.
unfoldable pub volume_fits : ℕ → ℕ → Bool
volume_fits kind volume = cond (leb order_kind.pause kind) (eqb volume (raised 0)) true

-- With clock 0 the part is 0.
unfoldable pub part_fits : ℕ → ℕ → Bool
part_fits clock part = cond (eqb clock (raised 0)) (eqb part (raised 0)) true

-- The millis of every kind but a resume are at least 1 where the order waits: it has a clock, or a `when` above 0.
unfoldable pub millis_fit : ℕ → ℕ → ℕ → ℕ → Bool
millis_fit kind clock when millis =
    cond (leb kind order_kind.pause) (cond (eqb clock (raised 0) && leb when (raised 0)) true (leb (raised 1) millis)) true

-- The power is 0 for easing 0, else at least 1.
unfoldable pub power_fits : ℕ → ℕ → Bool
power_fits easing power = cond (eqb easing (raised 0)) (eqb power (raised 0)) (leb (raised 1) power)

-- The block is less than blocks.
unfoldable pub order_fits : ℕ → List ℕ → Bool
order_fits blocks row =
    ltb (field row order_column.block) blocks
    && volume_fits (field row order_column.kind) (field row order_column.volume)
    && part_fits (field row order_column.clock) (field row order_column.part)
    && millis_fit (field row order_column.kind) (field row order_column.clock) (field row order_column.when) (field row order_column.millis)
    && power_fits (field row order_column.easing) (field row order_column.power)

-- A placing's nearest distance is less than its farthest.
unfoldable pub distances_apart : List ℕ → Bool
distances_apart row = ltb (field row placing_column.near) (field row placing_column.far)

unfoldable pub line_in_range : ℕ → LineRule → List ℕ → Bool
line_in_range blocks Plain row = true
line_in_range blocks Speed row = allowed_speed (speed_of (field row clock_column.unit) (field row clock_column.speed))
line_in_range blocks Apart row = distances_apart row
line_in_range blocks Order row = order_fits blocks row

unfoldable pub ranges_ok : Tables → Bool
ranges_ok ts = every_line (λ f own z. in_range f z) (line_in_range (head_cell ts head_column.blocks)) ts

-- ---- 5. Does each parent, track, send, index and clock name a line that is there (a parent: an earlier one)?

-- how many lines each table has, the rule of the field, the line's own number from 0, the number
unfoldable pub names_line : (ℕ → ℕ) → Field → ℕ → ℕ → Bool
names_line lines (Number a b) own z = true
names_line lines (Line k a) own z = leb a z && leb (natural z) (lines k)
names_line lines Earlier own z = leb (raised 0) z && leb (natural z) own
names_line lines Index own z = true

-- which table an order's index is of, where it is no order of the main volume
unfoldable pub index_table : ℕ → ℕ
index_table kind = cond (eqb kind order_kind.send_volume) sends (cond (eqb kind order_kind.route_volume) routes tracks)

-- An order's index is the line number, 0 for the main volume.
unfoldable pub index_names_line : (ℕ → ℕ) → ℕ → ℕ → Bool
index_names_line lines kind index =
    cond (eqb kind order_kind.main_volume) (eqb index (raised 0)) (leb (raised 1) index && leb (natural index) (lines (index_table kind)))

unfoldable pub line_names_line : (ℕ → ℕ) → LineRule → List ℕ → Bool
line_names_line lines Plain row = true
line_names_line lines Speed row = true
line_names_line lines Apart row = true
line_names_line lines Order row = index_names_line lines (field row order_column.kind) (field row order_column.index)

unfoldable pub references_ok : Tables → Bool
references_ok ts = every_line (names_line (lines_at ts)) (line_names_line (lines_at ts)) ts

-- ---- 6. Is every depth at most 4?

-- the parent of a track line: lines count from 1, and 0 is the mixer
unfoldable pub parent_of : List (List ℕ) → ℕ → ℕ
parent_of rows zero = 0
parent_of rows (suc i) = natural (cell rows i track_column.parent)

-- A line's depth is at most d: it is the mixer, or its parent's depth is at most d - 1.
unfoldable pub within_depth : ℕ → List (List ℕ) → ℕ → Bool
within_depth zero rows line = eqb line 0
within_depth (suc d) rows line = cond (eqb line 0) true (within_depth d rows (parent_of rows line))

unfoldable pub depths_fit : List (List ℕ) → Bool
depths_fit rows = every (length rows) (λ i. within_depth track_depth rows (suc i))

-- ---- 7. Is no track-and-send pair routed twice, and no track placed twice?

unfoldable pub same_pair : List (List ℕ) → ℕ → ℕ → Bool
same_pair rows i k =
    eqb (cell rows i route_column.track) (cell rows k route_column.track) && eqb (cell rows i route_column.send) (cell rows k route_column.send)

-- no line before line i has its pair
unfoldable pub new_pair : List (List ℕ) → ℕ → Bool
new_pair rows i = every i (λ k. not (same_pair rows i k))

unfoldable pub routes_fit : List (List ℕ) → Bool
routes_fit rows = every (length rows) (new_pair rows)

-- no line before line i places its track
unfoldable pub new_placing : List (List ℕ) → ℕ → Bool
new_placing rows i = every i (λ k. not (eqb (cell rows i placing_column.track) (cell rows k placing_column.track)))

unfoldable pub placings_fit : List (List ℕ) → Bool
placings_fit rows = every (length rows) (new_placing rows)

-- ---- 8. Has the sample buffer an even length, and does the first + count of each sound from it stay within its frames?

-- a sound from another buffer fits
unfoldable pub sound_fits : List (List ℕ) → ℕ → ℕ → ℕ → Bool
sound_fits rows from frames i =
    cond (eqb (natural (cell rows i sound_column.from)) from) (leb (natural (cell rows i sound_column.first) + natural (cell rows i sound_column.count)) frames) true

-- of one buffer: a frame is two samples
unfoldable pub sounds_fit : List (List ℕ) → ℕ → List Float → Bool
sounds_fit rows from samples =
    eqb (length samples % 2) 0 && every (length rows) (sound_fits rows from (length samples / 2))

-- ---- 9. Is every sample finite and in -1.0..1.0?

-- A NaN is in no order with a number and an infinity lies outside, so that what lies within is finite.
unfoldable pub sample_ok : Float → Bool
sample_ok x = le (neg (of_int binary32 (pos 1))) x && le x (of_int binary32 (pos 1))

unfoldable pub samples_ok : List Float → Bool
samples_ok samples = every (length samples) (λ i. sample_ok (get_or samples i nan))

-- ---- 10. Is the output length block times blocks times channels?

unfoldable pub output_length : Tables → ℕ
output_length ts =
    natural (head_cell ts head_column.block) * natural (head_cell ts head_column.blocks) * natural (head_cell ts head_column.channels)

-- ---- The answer: the number of the first question that says no, else 0.

-- a question's number, and whether it says yes
abbrev pub Question : Type 0
Question = ℕ × Bool

unfoldable pub first_no : List Question → ℕ
first_no [] = 0
first_no (question ∷ questions) = cond question.1 (first_no questions) question.0

-- questions 8 and 9 are each asked of the house's samples, then of the visitor's
unfoldable pub table_questions : Tables → Recordings → List Question
table_questions ts samples =
    (3, lines_ok ts)
    ∷ (4, ranges_ok ts)
    ∷ (5, references_ok ts)
    ∷ (6, depths_fit (rows_at ts tracks))
    ∷ (7, routes_fit (rows_at ts routes))
    ∷ (7, placings_fit (rows_at ts placings))
    ∷ (8, sounds_fit (rows_at ts sounds) from_house samples.house)
    ∷ (8, sounds_fit (rows_at ts sounds) from_visitor samples.visitor)
    ∷ (9, samples_ok samples.house)
    ∷ (9, samples_ok samples.visitor)
    ∷ []

-- questions 1 to 9, of a file and its samples
unfoldable pub input_questions : List ℕ → Recordings → List Question
input_questions file samples = (1, size_ok file) ∷ (2, spelled_ok file) ∷ table_questions (tables_of file) samples

unfoldable pub answer : List ℕ → Recordings → ℕ → ℕ
answer file samples output = first_no (input_questions file samples ++ ((10, eqb output (output_length (tables_of file))) ∷ []))
