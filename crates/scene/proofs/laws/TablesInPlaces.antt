-- Laws of all tables in their places: the questions asked of the places are those asked of the tables, and the scene read from the
-- places is the tables'.
use Rattle.std.proofs.Common.{◌≡◌, ℕ, zero, suc, ◌+◌, ◌*◌, ◌<◌, ◌≤◌, Bool, true, false, cond, ◌&&◌, ltb, leb, List, [], ◌∷◌, length, get_or, take, drop, sym, refl, ap, ◌∙◌, add-zero, zero-add, zero-mul, arith, take-append-drop, drop-cons, get_or-take, get_or-append-add, ltb-false, ltb-true, leb-true}
use mathlib.Core.Path.{fun_ext}
use lib.ListN.{get_or-append, get_or-eq_default}
use Rattle.limits.specs.Limits.{clock_lines, track_lines, send_lines, route_lines, sound_lines, order_lines}
use Rattle.laws.specs.Loop.{upto}
use Rattle.laws.proofs.laws.Choice.{and_left, and_right, and_same}
use Rattle.scene_tables.specs.declared.tables.Field.{Field}
use Rattle.scene_tables.specs.declared.tables.LineRule.{LineRule}
use Rattle.scene_tables.specs.declared.tables.LineRule.TheVariants.{Plain, Speed, Apart, Order}
use Rattle.scene.specs.declared.scene.Head.{Head}
use Rattle.scene.specs.declared.scene.ClockLine.{ClockLine}
use Rattle.scene.specs.declared.scene.TrackLine.{TrackLine}
use Rattle.scene.specs.declared.scene.SendLine.{SendLine}
use Rattle.scene.specs.declared.scene.RouteLine.{RouteLine}
use Rattle.scene.specs.declared.scene.SoundLine.{SoundLine}
use Rattle.scene.specs.declared.scene.TrackPlacing.{TrackPlacing}
use Rattle.scene.specs.declared.scene.OrderLine.{OrderLine}
use Rattle.scene.specs.declared.scene.Scene.{Scene}
use Rattle.scene_tables.specs.Bytes.{every, all}
use Rattle.scene_tables.specs.Tables.{Table, tables, no_table, no_field, width, table_at, head, clocks, tracks, sends, routes, sounds, placings, orders, head_column, clock_column, placing_column, order_column}
use Rattle.scene_tables.specs.InCode.{all_fields}
use Rattle.scene_questions.specs.Questions.{Tables, rows_at, lines_at, cell, field, head_cell, lines_ok, every_line, in_range, names_line, line_in_range, line_names_line, ranges_ok, references_ok, order_fits, distances_apart}
use Rattle.scene_questions.specs.Places.{rows_in, placed_from, count_at, counts_fit, field_passes, line_passes, fields_pass, table_passes, tables_pass, places_most, Low, stored}
use Rattle.scene.specs.Scene.{head_of, clock_of, track_of, send_of, route_of, sound_of, order_of, all_plain, placings_of, filled, scene_of}
use Rattle.scene_tables.proofs.laws.Every.{all_at, every_at, every_same}
use Rattle.scene_questions.proofs.laws.Places.{rows_length, row_at, cell_at, cell_beyond}
use Rattle.scene_rules.proofs.laws.Passes.{fields_join}
use Rattle.scene.proofs.laws.LineValues.{beyond_end, fill_none}

-- ---- lines of a table

module _ (starts counts v : List ℕ) where
  placed_from_lem : (ts : List Table) (k t : ℕ) → t < length ts
      → get_or (placed_from ts k starts counts v) t [] ≡ rows_in v (get_or starts (k + t) 0) (width (get_or ts t no_table)) (get_or counts (k + t) 0)
  unfolding placed_from
  placed_from_lem [] k t h = absurd (omega arith)
  placed_from_lem (x ∷ ts) k zero h = rw (add-zero k)
  placed_from_lem (x ∷ ts) k (suc t) h =
      let e : suc k + t ≡ k + suc t = omega arith in
      rw (← e) (placed_from_lem ts (suc k) t (omega arith))

  placed_length : (ts : List Table) (k : ℕ) → length (placed_from ts k starts counts v) ≡ length ts
  unfolding placed_from
  placed_length [] k = refl
  placed_length (x ∷ ts) k = ap suc (placed_length ts (suc k))

  pub rows_placed : (t : ℕ) → t < length tables → rows_at (stored starts counts v) t ≡ rows_in v (get_or starts t 0) (width (table_at t)) (get_or counts t 0)
  unfolding stored
  rows_placed t h = placed_from_lem tables 0 t h ∙ rw (zero-add t)

  pub lines_placed : (t : ℕ) → t < length tables → lines_at (stored starts counts v) t ≡ get_or counts t 0
  lines_placed t h = ap length (rows_placed t h) ∙ rows_length v (get_or starts t 0) (width (table_at t)) (get_or counts t 0)

  pub lines_all : (t : ℕ) → lines_at (stored starts counts v) t ≡ count_at counts t
  unfolding count_at stored
  lines_all t = go (ltb t (length tables)) refl
    where
      go : (b : Bool) → ltb t (length tables) ≡ b → lines_at (stored starts counts v) t ≡ cond b (get_or counts t 0) 0
      go true h = lines_placed t (ltb-true t (length tables) h)
      go false h =
          let k : length tables ≤ t = ltb-false t (length tables) h in
          ap length (get_or-eq_default (placed_from tables 0 starts counts v) [] {n = t} (omega (arith, placed_length tables 0)))

  pub lines_are : lines_at (stored starts counts v) ≡ count_at counts
  lines_are = fun_ext lines_all

  -- ---- question 3

  pub counts_are : lines_ok (stored starts counts v) ≡ counts_fit counts
  unfolding lines_ok counts_fit
  counts_are =
      every_same (length tables) (λ t. leb (table_at t).least (lines_at (stored starts counts v) t) && leb (lines_at (stored starts counts v) t) (table_at t).most)
      (λ t. leb (table_at t).least (get_or counts t 0) && leb (get_or counts t 0) (table_at t).most)
      (λ t h. rw (lines_placed t h))

-- ---- questions 4 and 5

-- how many fields the rule of a line looks at
needed : LineRule → ℕ
needed Plain = 0
needed Speed = width (table_at clocks)
needed Apart = width (table_at placings)
needed Order = width (table_at orders)

field_cut : (w : ℕ) (l : List ℕ) (j : ℕ) → j < w → field (take w l) j ≡ field l j
field_cut w l j h = get_or-take w l j 0 h

line_cut : (references : Bool) (lines : ℕ → ℕ) (blocks : ℕ) (rule : LineRule) (w : ℕ) (l : List ℕ) → needed rule ≤ w
    → line_passes references lines blocks rule (take w l) ≡ line_passes references lines blocks rule l
unfolding line_passes line_names_line line_in_range needed order_fits distances_apart
line_cut true lines blocks Plain w l h = refl
line_cut true lines blocks Speed w l h = refl
line_cut true lines blocks Apart w l h = refl
line_cut true lines blocks Order w l h = rw (field_cut w l order_column.kind (omega arith), field_cut w l order_column.index (omega arith))
line_cut false lines blocks Plain w l h = refl
line_cut false lines blocks Speed w l h = rw (field_cut w l clock_column.unit (omega arith), field_cut w l clock_column.speed (omega arith))
line_cut false lines blocks Apart w l h = rw (field_cut w l placing_column.near (omega arith), field_cut w l placing_column.far (omega arith))
line_cut false lines blocks Order w l h =
    rw (field_cut w l order_column.block (omega arith), field_cut w l order_column.kind (omega arith), field_cut w l order_column.volume (omega arith), field_cut w l order_column.clock (omega arith), field_cut w l order_column.when (omega arith), field_cut w l order_column.part (omega arith), field_cut w l order_column.millis (omega arith), field_cut w l order_column.easing (omega arith), field_cut w l order_column.power (omega arith))

-- every table has that many
wide : Table → Bool
wide t = leb (needed t.rule) (width t)

all-wide : all wide tables ≡ true
unfolding all wide needed
all-wide = refl

rule_wide : (t : ℕ) → t < length tables → needed (table_at t).rule ≤ width (table_at t)
unfolding wide
rule_wide t h = leb-true (needed (table_at t).rule) (width (table_at t)) (all_at wide tables t no_table h all-wide)

-- a field's rule, by its place among all fields
field_of : (ts : List Table) (t j : ℕ) → t < length ts → j < width (get_or ts t no_table)
    → get_or (all_fields ts) (length (all_fields (take t ts)) + j) no_field ≡ get_or (get_or ts t no_table).fields j no_field
unfolding all_fields
field_of ts t j h k =
    ap (λ (l : List Field). get_or l (length (all_fields (take t ts)) + j) no_field)
    (sym (ap all_fields (take-append-drop t ts)) ∙ fields_join (take t ts) (drop t ts))
    ∙ get_or-append-add (all_fields (take t ts)) (all_fields (drop t ts)) j no_field
    ∙ ap (λ (l : List Table). get_or (all_fields l) j no_field) (drop-cons ts t no_table h)
    ∙ get_or-append (get_or ts t no_table).fields (all_fields (drop (suc t) ts)) no_field j k

module _ (references : Bool) (lines : ℕ → ℕ) (blocks : ℕ) (v : List ℕ) where
  table_same : (T : Table) (first s n : ℕ) → ((j : ℕ) → j < width T → get_or (all_fields tables) (first + j) no_field ≡ get_or T.fields j no_field) → needed T.rule ≤ width T
      → every (length (rows_in v s (width T) n))
      (λ i. every (width T) (λ j. field_passes references lines (get_or T.fields j no_field) i (cell (rows_in v s (width T) n) i j))
      && line_passes references lines blocks T.rule (get_or (rows_in v s (width T) n) i []))
      ≡ table_passes references lines blocks T.rule first (width T) v s n
  unfolding table_passes fields_pass
  table_same T first s n same enough =
      ap (λ (m : ℕ). every m (λ i. every (width T) (λ j. field_passes references lines (get_or T.fields j no_field) i (cell (rows_in v s (width T) n) i j))
      && line_passes references lines blocks T.rule (get_or (rows_in v s (width T) n) i []))) (rows_length v s (width T) n)
      ∙ every_same n
      (λ i. every (width T) (λ j. field_passes references lines (get_or T.fields j no_field) i (cell (rows_in v s (width T) n) i j))
      && line_passes references lines blocks T.rule (get_or (rows_in v s (width T) n) i []))
      (λ i. every (width T) (λ j. field_passes references lines (get_or (all_fields tables) (first + j) no_field) i (get_or v (s + i * width T + j) 0))
      && line_passes references lines blocks T.rule (drop (s + i * width T) v))
      (λ i h. and_same
      (every_same (width T) (λ j. field_passes references lines (get_or T.fields j no_field) i (cell (rows_in v s (width T) n) i j))
      (λ j. field_passes references lines (get_or (all_fields tables) (first + j) no_field) i (get_or v (s + i * width T + j) 0))
      (λ j k. ap (λ (z : ℕ). field_passes references lines (get_or T.fields j no_field) i z) (cell_at v s (width T) n i j h k)
      ∙ ap (λ (f : Field). field_passes references lines f i (get_or v (s + i * width T + j) 0)) (sym (same j k))))
      (ap (line_passes references lines blocks T.rule) (row_at v s (width T) n i h)
      ∙ line_cut references lines blocks T.rule (width T) (drop (s + i * width T) v) enough))

  pub passes_are : (starts counts : List ℕ) → every_line (field_passes references lines) (line_passes references lines blocks) (stored starts counts v)
      ≡ tables_pass references lines blocks starts counts v
  unfolding every_line tables_pass
  passes_are starts counts =
      every_same (length tables)
      (λ t. every (lines_at (stored starts counts v) t)
      (λ i. every (width (table_at t)) (λ j. field_passes references lines (get_or (table_at t).fields j no_field) i (cell (rows_at (stored starts counts v) t) i j))
      && line_passes references lines blocks (table_at t).rule (get_or (rows_at (stored starts counts v) t) i [])))
      (λ t. table_passes references lines blocks (table_at t).rule (length (all_fields (take t tables))) (width (table_at t)) v (get_or starts t 0) (get_or counts t 0))
      (λ t h. ap (λ (R : List (List ℕ)). every (length R)
      (λ i. every (width (table_at t)) (λ j. field_passes references lines (get_or (table_at t).fields j no_field) i (cell R i j))
      && line_passes references lines blocks (table_at t).rule (get_or R i []))) (rows_placed starts counts v t h)
      ∙ table_same (table_at t) (length (all_fields (take t tables))) (get_or starts t 0) (get_or counts t 0) (λ j k. field_of tables t j h k) (rule_wide t h))

by_4 : (lines : ℕ → ℕ) (b : ℕ) (ts : Tables) → every_line (λ f own z. in_range f z) (line_in_range b) ts ≡ every_line (field_passes false lines) (line_passes false lines b) ts
unfolding field_passes line_passes
by_4 lines b ts = refl

by_5 : (lines : ℕ → ℕ) (b : ℕ) (ts : Tables) → every_line (names_line lines) (line_names_line lines) ts ≡ every_line (field_passes true lines) (line_passes true lines b) ts
unfolding field_passes line_passes
by_5 lines b ts = refl

module _ (starts counts v : List ℕ) where
  pub ranges_are : (lines : ℕ → ℕ) → ranges_ok (stored starts counts v) ≡ tables_pass false lines (head_cell (stored starts counts v) head_column.blocks) starts counts v
  unfolding ranges_ok
  ranges_are lines =
      by_4 lines (head_cell (stored starts counts v) head_column.blocks) (stored starts counts v)
      ∙ passes_are false lines (head_cell (stored starts counts v) head_column.blocks) v starts counts

  pub references_are : (b : ℕ) → references_ok (stored starts counts v) ≡ tables_pass true (count_at counts) b starts counts v
  unfolding references_ok
  references_are b =
      ap (λ (l : ℕ → ℕ). every_line (names_line l) (line_names_line l) (stored starts counts v)) (lines_are starts counts v)
      ∙ by_5 (count_at counts) b (stored starts counts v)
      ∙ passes_are true (count_at counts) b v starts counts

-- ---- the head line

module _ (starts counts v : List ℕ) (j : ℕ) where
  pub head_none : get_or counts head 0 ≡ 0 → 0 ≡ head_cell (stored starts counts v) j
  head_none h =
      sym (ap (λ (R : List (List ℕ)). cell R 0 j) (rows_placed starts counts v head (omega arith))
      ∙ cell_beyond v (get_or starts head 0) (width (table_at head)) (get_or counts head 0) 0 j (omega arith))

  pub head_there : (get_or counts head 0 ≡ 0 → ⊥) → j < width (table_at head) → (x : ℕ) → x ≡ get_or v (get_or starts head 0 + j) 0 → x ≡ head_cell (stored starts counts v) j
  head_there h k x e =
      e
      ∙ sym (ap (λ (R : List (List ℕ)). cell R 0 j) (rows_placed starts counts v head (omega arith))
      ∙ cell_at v (get_or starts head 0) (width (table_at head)) (get_or counts head 0) 0 j (omega arith) k
      ∙ rw (zero-mul (width (table_at head)), add-zero (get_or starts head 0)))

module _ (starts counts v : List ℕ) (fit : counts_fit counts ≡ true) where
  count_fits : (t : ℕ) → t < length tables → ((table_at t).least ≤ get_or counts t 0) × (get_or counts t 0 ≤ (table_at t).most)
  unfolding counts_fit
  count_fits t h =
      let e = every_at (length tables) (λ t. leb (table_at t).least (get_or counts t 0) && leb (get_or counts t 0) (table_at t).most) t h fit in (
        leb-true (table_at t).least (get_or counts t 0) (and_left (leb (table_at t).least (get_or counts t 0)) (leb (get_or counts t 0) (table_at t).most) e),
        leb-true (get_or counts t 0) (table_at t).most (and_right (leb (table_at t).least (get_or counts t 0)) (leb (get_or counts t 0) (table_at t).most) e),
      )

  pub lies : Low starts counts → (t : ℕ) → t < length tables
      → (get_or starts t 0 + get_or counts t 0 * width (table_at t) ≤ places_most) × (get_or counts t 0 ≤ (table_at t).most)
  lies low t h = (low t h, (count_fits t h).1)

-- ---- the scene

module _ (starts counts v : List ℕ) where
  -- the rows of a table, where it is placed
  abbrev placed : ℕ → List (List ℕ)
  placed t = rows_in v (get_or starts t 0) (width (table_at t)) (get_or counts t 0)

  scene_by : (h : Head) (r1 : List ClockLine) (r2 : List TrackLine) (r3 : List SendLine) (r4 : List RouteLine) (r5 : List SoundLine) (rp : List TrackPlacing) (r6 : List OrderLine)
      → h ≡ head_of (get_or (placed head) 0 [])
      → r1 ≡ filled clock_lines clock_of (placed clocks)
      → r2 ≡ filled track_lines track_of (placed tracks)
      → r3 ≡ filled send_lines send_of (placed sends)
      → r4 ≡ filled route_lines route_of (placed routes)
      → r5 ≡ filled sound_lines sound_of (placed sounds)
      → rp ≡ placings_of (stored starts counts v)
      → r6 ≡ filled order_lines order_of (placed orders)
      → ◌≡◌ {A = Scene} (record { head = h; clock_count = get_or counts clocks 0; clocks = r1; track_count = get_or counts tracks 0; tracks = r2; send_count = get_or counts sends 0; sends = r3; route_count = get_or counts routes 0; routes = r4; sound_count = get_or counts sounds 0; sounds = r5; placings = rp; order_count = get_or counts orders 0; orders = r6 }) (scene_of (stored starts counts v))
  unfolding scene_of
  scene_by h r1 r2 r3 r4 r5 rp r6 e0 e1 e2 e3 e4 e5 ep e6 =
      let rows : (t : ℕ) → t < length tables → rows_at (stored starts counts v) t ≡ placed t = rows_placed starts counts v in
      let lines : (t : ℕ) → t < length tables → get_or counts t 0 ≡ lines_at (stored starts counts v) t = λ t k. sym (lines_placed starts counts v t k) in
      same (e0 ∙ ap (λ (R : List (List ℕ)). head_of (get_or R 0 [])) (sym (rows head (omega arith))))
      (lines clocks (omega arith)) (e1 ∙ ap (filled clock_lines clock_of) (sym (rows clocks (omega arith))))
      (lines tracks (omega arith)) (e2 ∙ ap (filled track_lines track_of) (sym (rows tracks (omega arith))))
      (lines sends (omega arith)) (e3 ∙ ap (filled send_lines send_of) (sym (rows sends (omega arith))))
      (lines routes (omega arith)) (e4 ∙ ap (filled route_lines route_of) (sym (rows routes (omega arith))))
      (lines sounds (omega arith)) (e5 ∙ ap (filled sound_lines sound_of) (sym (rows sounds (omega arith))))
      ep
      (lines orders (omega arith)) (e6 ∙ ap (filled order_lines order_of) (sym (rows orders (omega arith))))
    where
      same : {h h' : Head} {n1 n1' : ℕ} {r1 r1' : List ClockLine} {n2 n2' : ℕ} {r2 r2' : List TrackLine} {n3 n3' : ℕ} {r3 r3' : List SendLine} {n4 n4' : ℕ} {r4 r4' : List RouteLine} {n5 n5' : ℕ} {r5 r5' : List SoundLine} {rp rp' : List TrackPlacing} {n6 n6' : ℕ} {r6 r6' : List OrderLine}
          → h ≡ h' → n1 ≡ n1' → r1 ≡ r1' → n2 ≡ n2' → r2 ≡ r2' → n3 ≡ n3' → r3 ≡ r3' → n4 ≡ n4' → r4 ≡ r4' → n5 ≡ n5' → r5 ≡ r5' → rp ≡ rp' → n6 ≡ n6' → r6 ≡ r6'
          → ◌≡◌ {A = Scene} (record { head = h; clock_count = n1; clocks = r1; track_count = n2; tracks = r2; send_count = n3; sends = r3; route_count = n4; routes = r4; sound_count = n5; sounds = r5; placings = rp; order_count = n6; orders = r6 }) (record { head = h'; clock_count = n1'; clocks = r1'; track_count = n2'; tracks = r2'; send_count = n3'; sends = r3'; route_count = n4'; routes = r4'; sound_count = n5'; sounds = r5'; placings = rp'; order_count = n6'; orders = r6' })
      same p0 q1 p1 q2 p2 q3 p3 q4 p4 q5 p5 pp q6 p6 = cc

  module _ (fit : counts_fit counts ≡ true) where
    pub scene_is : (h : Head) (r1 : List ClockLine) (r2 : List TrackLine) (r3 : List SendLine) (r4 : List RouteLine) (r5 : List SoundLine) (rp : List TrackPlacing) (r6 : List OrderLine)
        → h ≡ head_of (take (width (table_at head)) (drop (get_or starts head 0) v))
        → r1 ≡ filled clock_lines clock_of (placed clocks)
        → r2 ≡ filled track_lines track_of (placed tracks)
        → r3 ≡ filled send_lines send_of (placed sends)
        → r4 ≡ filled route_lines route_of (placed routes)
        → r5 ≡ filled sound_lines sound_of (placed sounds)
        → rp ≡ placings_of (stored starts counts v)
        → r6 ≡ filled order_lines order_of (placed orders)
        → ◌≡◌ {A = Scene} (record { head = h; clock_count = get_or counts clocks 0; clocks = r1; track_count = get_or counts tracks 0; tracks = r2; send_count = get_or counts sends 0; sends = r3; route_count = get_or counts routes 0; routes = r4; sound_count = get_or counts sounds 0; sounds = r5; placings = rp; order_count = get_or counts orders 0; orders = r6 }) (scene_of (stored starts counts v))
    scene_is h r1 r2 r3 r4 r5 rp r6 e0 =
        let k : 0 < get_or counts head 0 = (count_fits starts counts v fit head (omega arith)).0 in
        let z : get_or starts head 0 + 0 * width (table_at head) ≡ get_or starts head 0 = omega arith in
        scene_by h r1 r2 r3 r4 r5 rp r6 (rw (row_at v (get_or starts head 0) (width (table_at head)) (get_or counts head 0) 0 k, z) e0)

-- no line at all
pub no_scene_is : (h : Head) (r1 : List ClockLine) (r2 : List TrackLine) (r3 : List SendLine) (r4 : List RouteLine) (r5 : List SoundLine) (r6 : List OrderLine) (v : List ℕ) (s : ℕ)
    → h ≡ head_of (take (width (table_at head)) (drop (length v) v))
    → r1 ≡ filled clock_lines clock_of (rows_in v s (width (table_at clocks)) 0)
    → r2 ≡ filled track_lines track_of (rows_in v s (width (table_at tracks)) 0)
    → r3 ≡ filled send_lines send_of (rows_in v s (width (table_at sends)) 0)
    → r4 ≡ filled route_lines route_of (rows_in v s (width (table_at routes)) 0)
    → r5 ≡ filled sound_lines sound_of (rows_in v s (width (table_at sounds)) 0)
    → r6 ≡ filled order_lines order_of (rows_in v s (width (table_at orders)) 0)
    → ◌≡◌ {A = Scene} (record { head = h; clock_count = 0; clocks = r1; track_count = 0; tracks = r2; send_count = 0; sends = r3; route_count = 0; routes = r4; sound_count = 0; sounds = r5; placings = all_plain; order_count = 0; orders = r6 }) (scene_of [])
unfolding scene_of placings_of upto
no_scene_is h r1 r2 r3 r4 r5 r6 v s e0 e1 e2 e3 e4 e5 e6 =
    rw (e0, beyond_end v (width (table_at head)), e1, fill_none clock_lines clock_of v s (width (table_at clocks)), e2, fill_none track_lines track_of v s (width (table_at tracks)), e3, fill_none send_lines send_of v s (width (table_at sends)), e4, fill_none route_lines route_of v s (width (table_at routes)), e5, fill_none sound_lines sound_of v s (width (table_at sounds)), e6, fill_none order_lines order_of v s (width (table_at orders)))
