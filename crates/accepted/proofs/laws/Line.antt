-- What questions 3 to 5 say of each line of each table, and what stands at its place in the scene. One lemma for all tables. Assumes nothing.
use mathlib.Core.Path.{◌≡◌, refl, sym, ◌∙◌, subst}
use mathlib.Core.Bool.{Bool, true, ◌&&◌}
use mathlib.Core.List.{List, [], ◌∷◌, map}
use Prim.Native.Nat.{ℕ, zero, suc, ◌-◌, ◌≤◌, ◌<◌}
use native.Mathlib.Omega.{arith}
use borrow.Author.Tests.{leb-true, ltb-true}
use lib.Dec.{leb, ltb}
use lib.ListN.{length, get_or, replicate, length-append, length-map, length-replicate, get_or-append}
use Rattle.laws.proofs.laws.Choice.{and_left, and_right}
use Rattle.clock.specs.ClockSpeed.{allowed_speed}
use Rattle.scene_tables.specs.declared.tables.Field.{Field}
use Rattle.scene_tables.specs.declared.tables.Field.TheVariants.{Number, Line, Earlier, Index}
use Rattle.scene_tables.specs.declared.tables.LineRule.{LineRule}
use Rattle.scene_tables.specs.declared.tables.LineRule.TheVariants.{Plain, Speed, Apart, Order}
use Rattle.scene_tables.specs.Bytes.{every}
use Rattle.scene_tables.specs.Tables.{tables, table_at, no_field, natural, raised, head_column, clock_column, placing_column, order_column}
use Rattle.scene_questions.specs.Questions.{Tables, rows_at, lines_at, cell, field, head_cell, lines_ok, every_line, in_range, speed_of, volume_fits, part_fits, millis_fit, power_fits, order_fits, distances_apart, line_in_range, ranges_ok, names_line, index_names_line, line_names_line, references_ok}
use Rattle.scene.specs.Scene.{filled}
use Rattle.scene_tables.proofs.laws.Every.{every_at}

-- two comparisons that passed
pub both_le : (a b c d : ℕ) → (leb a b && leb c d) ≡ true → (a ≤ b) × (c ≤ d)
both_le a b c d e = (leb-true a b (and_left (leb a b) (leb c d) e), leb-true c d (and_right (leb a b) (leb c d) e))

-- ---- question 3

pub count_ok : (ts : Tables) → lines_ok ts ≡ true → (t : ℕ) → t < length tables → ((table_at t).least ≤ lines_at ts t) × (lines_at ts t ≤ (table_at t).most)
unfolding lines_ok
count_ok ts e t h = both_le (table_at t).least (lines_at ts t) (lines_at ts t) (table_at t).most (every_at (length tables) _ t h e)

-- ---- questions 4 and 5

-- a question that every line was asked, at one line: each of its fields, and the line as a whole
line_passes : (F : Field → ℕ → ℕ → Bool) (L : LineRule → List ℕ → Bool) (ts : Tables) → every_line F L ts ≡ true → (t i : ℕ) → t < length tables → i < lines_at ts t
    → ((j : ℕ) → j < length (table_at t).fields → F (get_or (table_at t).fields j no_field) i (cell (rows_at ts t) i j) ≡ true)
    × (L (table_at t).rule (get_or (rows_at ts t) i []) ≡ true)
unfolding every_line
line_passes F L ts e t i h k =
    let a = every_at (length tables) _ t h e in
    let b = every_at (lines_at ts t) _ i k a in
    let fields = every (length (table_at t).fields) (λ j. F (get_or (table_at t).fields j no_field) i (cell (rows_at ts t) i j)) in
    let whole = L (table_at t).rule (get_or (rows_at ts t) i []) in
    (λ j l. every_at (length (table_at t).fields) _ j l (and_left fields whole b), and_right fields whole b)

-- what the two questions say of a field, by its rule
abbrev pub FieldOk : (ℕ → ℕ) → Field → ℕ → ℕ → Type 0
FieldOk lines (Number a b) own z = (a ≤ z) × (z ≤ b)
FieldOk lines (Line k a) own z = (a ≤ z) × (natural z ≤ lines k)
FieldOk lines Earlier own z = natural z ≤ own
FieldOk lines Index own z = Unit {0}

field_ok : (lines : ℕ → ℕ) (f : Field) (own z : ℕ) → in_range f z ≡ true → names_line lines f own z ≡ true → FieldOk lines f own z
unfolding in_range names_line
field_ok lines (Number a b) own z e g = both_le a z z b e
field_ok lines (Line k a) own z e g = both_le a z (natural z) (lines k) g
field_ok lines Earlier own z e g = (both_le (raised 0) z (natural z) own g).1
field_ok lines Index own z e g = tt

-- and of a line as a whole, as far as the layers above use it
abbrev pub RuleOk : (ℕ → ℕ) → ℕ → LineRule → List ℕ → Type 0
RuleOk lines blocks Plain row = Unit {0}
RuleOk lines blocks Speed row = allowed_speed (speed_of (field row clock_column.unit) (field row clock_column.speed)) ≡ true
RuleOk lines blocks Apart row = field row placing_column.near < field row placing_column.far
RuleOk lines blocks Order row = (field row order_column.block < blocks) × (index_names_line lines (field row order_column.kind) (field row order_column.index) ≡ true)

rule_ok : (lines : ℕ → ℕ) (blocks : ℕ) (r : LineRule) (row : List ℕ) → line_in_range blocks r row ≡ true → line_names_line lines r row ≡ true → RuleOk lines blocks r row
unfolding line_in_range line_names_line order_fits distances_apart
rule_ok lines blocks Plain row e g = tt
rule_ok lines blocks Speed row e g = e
rule_ok lines blocks Apart row e g = ltb-true (field row placing_column.near) (field row placing_column.far) e
rule_ok lines blocks Order row e g =
    let block = ltb (field row order_column.block) blocks in
    let volume = block && volume_fits (field row order_column.kind) (field row order_column.volume) in
    let part = volume && part_fits (field row order_column.clock) (field row order_column.part) in
    let millis = part && millis_fit (field row order_column.kind) (field row order_column.clock) (field row order_column.when) (field row order_column.millis) in
    (ltb-true (field row order_column.block) blocks (and_left block _ (and_left volume _ (and_left part _ (and_left millis (power_fits (field row order_column.easing) (field row order_column.power)) e)))), g)

pub record LineOk (ts : Tables) (t i : ℕ) : Type 0 where
  pub fields : (j : ℕ) → j < length (table_at t).fields → FieldOk (lines_at ts) (get_or (table_at t).fields j no_field) i (cell (rows_at ts t) i j)
  pub whole : RuleOk (lines_at ts) (head_cell ts head_column.blocks) (table_at t).rule (get_or (rows_at ts t) i [])

pub line_ok : (ts : Tables) → ranges_ok ts ≡ true → references_ok ts ≡ true → (t i : ℕ) → t < length tables → i < lines_at ts t → LineOk ts t i
unfolding ranges_ok references_ok
line_ok ts e g t i h k =
    let a = line_passes (λ f own z. in_range f z) (line_in_range (head_cell ts head_column.blocks)) ts e t i h k in
    let b = line_passes (names_line (lines_at ts)) (line_names_line (lines_at ts)) ts g t i h k in
    record {
      fields = λ j l. field_ok (lines_at ts) (get_or (table_at t).fields j no_field) i (cell (rows_at ts t) i j) (a.0 j l) (b.0 j l);
      whole = rule_ok (lines_at ts) (head_cell ts head_column.blocks) (table_at t).rule (get_or (rows_at ts t) i []) a.1 b.1;
    }

-- ---- a line's place in the scene

get_d_map : {X : Type 0} (f : List ℕ → X) (rows : List (List ℕ)) (i : ℕ) (none : X) → i < length rows → get_or (map f rows) i none ≡ f (get_or rows i [])
get_d_map f [] i none h = absurd (omega arith)
get_d_map f (row ∷ rows) zero none h = refl
get_d_map f (row ∷ rows) (suc i) none h = get_d_map f rows i none (omega arith)

module _ {X : Type 0} (places : ℕ) (f : List ℕ → X) (rows : List (List ℕ)) where
  pub filled-length : length rows ≤ places → length (filled places f rows) ≡ places
  unfolding filled
  filled-length h =
      length-append (map f rows) (replicate (places - length rows) (f []))
      ∙ rw (length-map rows f, length-replicate (places - length rows) (f [])) (omega arith)

  filled_at : (absent : X) (i : ℕ) → i < length rows → get_or (filled places f rows) i absent ≡ f (get_or rows i [])
  unfolding filled
  filled_at absent i h =
      get_or-append (map f rows) (replicate (places - length rows) (f [])) absent i (rw length-map h)
      ∙ get_d_map f rows i absent h

  -- what holds of every line holds of the place that it is put in
  pub every_place : (absent : X) (P : ℕ → X → Type 0) → ((i : ℕ) → i < length rows → P i (f (get_or rows i []))) → (i : ℕ) → i < length rows → P i (get_or (filled places f rows) i absent)
  every_place absent P h i k = subst (P i) (sym (filled_at absent i k)) (h i k)
