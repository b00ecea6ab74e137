-- Laws of the loops over fields, lines and tables that questions 3 to 5 ask.
use mathlib.Core.Path.{◌≡◌, refl, sym, ◌∙◌, ap}
use mathlib.Core.Bool.{Bool, true, false, ◌&&◌}
use mathlib.Core.List.{List, [], ◌∷◌, ◌++◌, append_assoc, append-nil}
use Prim.Native.Nat.{ℕ, suc, ◌+◌, ◌*◌, ◌<◌, ◌≤◌}
use native.Mathlib.Nat.{suc-mul, mul-le-mul_right}
use native.Mathlib.Numerals.{add-one}
use native.Mathlib.Omega.{arith}
use borrow.Author.Tests.{le-leb, lt-leb}
use lib.Dec.{leb}
use lib.ListN.{length, get_or, take, drop, length-append, take-append-drop}
use lib.Seq.{take-suc}
use mir.Syntax.{w64}
use mir.Val.{Fits}
use Rattle.laws.proofs.laws.Choice.{and_false}
use Rattle.scene_tables.specs.declared.tables.Field.{Field}
use Rattle.scene_tables.specs.declared.tables.LineRule.{LineRule}
use Rattle.scene_tables.specs.declared.tables.TableRule.{TableRule}
use Rattle.scene_tables.specs.Bytes.{every}
use Rattle.scene_tables.specs.Tables.{Table, tables, table_at, no_table, no_field, width}
use Rattle.scene_tables.specs.InCode.{all_fields, rule_of}
use Rattle.scene_questions.specs.Places.{field_passes, line_passes, fields_pass, table_passes, tables_pass, places_most, Low}
use Rattle.scene_tables.proofs.laws.Every.{every_none, every_passed, every_failed, every_done}

-- ---- the fields of a line

-- a field's rule stands in the list
pub field_place : (first w j : ℕ) → first + w ≤ length (all_fields tables) → j < w → first + j < length (all_fields tables)
field_place first w j h k = omega arith

pub field_place_fits : (first w j : ℕ) → first + w ≤ length (all_fields tables) → j < w → Fits w64 (first + j)
unfolding all_fields
field_place_fits first w j h k = omega arith

module _ (references : Bool) (lines : ℕ → ℕ) (first own : ℕ) (values : List ℕ) (a : ℕ) where
  test : ℕ → Bool
  test j = field_passes references lines (get_or (all_fields tables) (first + j) no_field) own (get_or values (a + j) 0)

  pub fields_none : fields_pass references lines first 0 own values a ≡ true
  unfolding fields_pass test
  fields_none = every_none test

  module _ (j : ℕ) (f : Field) (z : ℕ) (b : Bool) (isf : f ≡ get_or (all_fields tables) (first + j) no_field) (isz : z ≡ get_or values (a + j) 0) (isb : b ≡ field_passes references lines f own z) where
    is : b ≡ test j
    unfolding test
    is = rw (← isf, ← isz) isb

    pub fields_passed : b ≡ true → fields_pass references lines first j own values a ≡ true → fields_pass references lines first (j + 1) own values a ≡ true
    unfolding fields_pass test
    fields_passed h e = every_passed j test e (sym is ∙ h)

    pub fields_failed : (w : ℕ) → j < w → b ≡ false → false ≡ fields_pass references lines first w own values a
    unfolding fields_pass test
    fields_failed w k h = every_failed w test j k (sym is ∙ h)

  pub fields_done : (w j : ℕ) → w ≤ j → j ≤ w → fields_pass references lines first j own values a ≡ true → true ≡ fields_pass references lines first w own values a
  unfolding fields_pass test
  fields_done w j h k e = every_done w test j h k e

-- ---- the counts of lines

module _ (t n : ℕ) (rule : TableRule) (ruled : rule ≡ rule_of (table_at t)) where
  least_is : rule.least ≡ (table_at t).least
  unfolding rule_of
  least_is = rw ruled

  most_is : rule.most ≡ (table_at t).most
  unfolding rule_of
  most_is = rw ruled

  pub count_few : n < rule.least → leb rule.least n ≡ (leb (table_at t).least n && leb n (table_at t).most)
  count_few h = rw (← least_is, lt-leb rule.least n h)

  pub count_enough : rule.least ≤ n → leb n rule.most ≡ (leb (table_at t).least n && leb n (table_at t).most)
  count_enough h = rw (← least_is, ← most_is, le-leb rule.least n h)

-- ---- the lines of a table

-- where the next line begins
pub line_next : (start w i a : ℕ) → a ≡ start + i * w → a + w ≡ start + (i + 1) * w
line_next start w i a e = rw (add-one i, suc-mul i w, e) (omega arith)

pub line_fits : (start w n i a : ℕ) → a ≡ start + i * w → i < n → start + n * w ≤ places_most → Fits w64 (a + w)
line_fits start w n i a e h k = omega (arith, e, suc-mul i w, mul-le-mul_right {m = suc i} {n = n} w h)

module _ (references : Bool) (lines : ℕ → ℕ) (blocks : ℕ) (rule : LineRule) (first w : ℕ) (values : List ℕ) (start : ℕ) where
  line_test : ℕ → Bool
  line_test i = fields_pass references lines first w i values (start + i * w) && line_passes references lines blocks rule (drop (start + i * w) values)

  pub lines_none : table_passes references lines blocks rule first w values start 0 ≡ true
  unfolding table_passes line_test
  lines_none = every_none line_test

  module _ (i a : ℕ) (place : a ≡ start + i * w) (b : Bool) (isb : b ≡ fields_pass references lines first w i values a) where
    pub line_fields_failed : (n : ℕ) → i < n → b ≡ false → false ≡ table_passes references lines blocks rule first w values start n
    unfolding table_passes line_test
    line_fields_failed n k h = every_failed n line_test i k (rw (← place, ← isb, h))

    module _ (d : Bool) (isd : d ≡ line_passes references lines blocks rule (drop a values)) where
      pub line_whole_failed : (n : ℕ) → i < n → d ≡ false → false ≡ table_passes references lines blocks rule first w values start n
      unfolding table_passes line_test
      line_whole_failed n k h = every_failed n line_test i k (rw (← place, ← isd, h, and_false))

      pub line_passed : b ≡ true → d ≡ true → table_passes references lines blocks rule first w values start i ≡ true
          → table_passes references lines blocks rule first w values start (i + 1) ≡ true
      unfolding table_passes line_test
      line_passed h k e = every_passed i line_test e (rw (← place, ← isb, ← isd, h, k))

  pub lines_done : (n i : ℕ) → n ≤ i → i ≤ n → table_passes references lines blocks rule first w values start i ≡ true
      → true ≡ table_passes references lines blocks rule first w values start n
  unfolding table_passes line_test
  lines_done n i h k e = every_done n line_test i h k e

-- ---- the tables

pub fields_join : (xs ys : List Table) → all_fields (xs ++ ys) ≡ all_fields xs ++ all_fields ys
unfolding all_fields
fields_join [] ys = refl
fields_join (x ∷ xs) ys = rw (fields_join xs ys) (sym (append_assoc x.fields (all_fields xs) (all_fields ys)))

fields_next_of : (ts : List Table) (t : ℕ) → t < length ts
    → length (all_fields (take t ts)) + width (get_or ts t no_table) ≡ length (all_fields (take (t + 1) ts))
unfolding all_fields
fields_next_of ts t h =
    sym (
    rw (add-one t, take-suc ts t no_table h)
    (ap length (fields_join (take t ts) (get_or ts t no_table ∷ []))
    ∙ length-append (all_fields (take t ts)) ((get_or ts t no_table).fields ++ [])
    ∙ ap (λ (l : List Field). length (all_fields (take t ts)) + length l) (append-nil (get_or ts t no_table).fields))
    )

-- where the fields of a table stand among all fields
pub fields_next : (t : ℕ) → t < length tables
    → length (all_fields (take t tables)) + width (table_at t) ≡ length (all_fields (take (t + 1) tables))
fields_next t h = fields_next_of tables t h

fields_all : (t : ℕ) → length (all_fields (take t tables)) ≤ length (all_fields tables)
fields_all t =
    omega (arith, length-append (all_fields (take t tables)) (all_fields (drop t tables)), ap length (fields_join (take t tables) (drop t tables)), ap (λ (l : List Table). length (all_fields l)) (take-append-drop t tables))

module _ (t first : ℕ) (place : first ≡ length (all_fields (take t tables))) (more : t < length tables) (rule : TableRule) (ruled : rule ≡ rule_of (table_at t)) where
  width_is : rule.fields ≡ width (table_at t)
  unfolding rule_of
  width_is = rw ruled

  rule_is : rule.rule ≡ (table_at t).rule
  unfolding rule_of
  rule_is = rw ruled

  pub first_next : first + rule.fields ≡ length (all_fields (take (t + 1) tables))
  first_next = rw (width_is, place) (fields_next t more)

  pub first_room : first + rule.fields ≤ length (all_fields tables)
  first_room = omega (arith, first_next, fields_all (t + 1))

  pub first_fits : Fits w64 (first + rule.fields)
  unfolding all_fields
  first_fits = let k : first + rule.fields ≤ length (all_fields tables) = first_room in omega arith

  pub lines_low : (starts counts : List ℕ) → Low starts counts → get_or starts t 0 + get_or counts t 0 * rule.fields ≤ places_most
  lines_low starts counts h = rw width_is (h t more)

module _ (references : Bool) (lines : ℕ → ℕ) (blocks : ℕ) (starts counts values : List ℕ) where
  unfoldable pub table_test : ℕ → Bool
  table_test t =
      table_passes references lines blocks (table_at t).rule (length (all_fields (take t tables))) (width (table_at t)) values (get_or starts t 0) (get_or counts t 0)

  pub tables_none : every 0 table_test ≡ true
  tables_none = every_none table_test

  module _
      (t first : ℕ)
      (place : first ≡ length (all_fields (take t tables)))
      (rule : TableRule)
      (ruled : rule ≡ rule_of (table_at t))
      (more : t < length tables)
      (b : Bool)
      (isb : b ≡ table_passes references lines blocks rule.rule first rule.fields values (get_or starts t 0) (get_or counts t 0))
    where
      table_is : b ≡ table_test t
      unfolding table_test
      table_is =
          isb
          ∙ ap (λ (q : LineRule). table_passes references lines blocks q first rule.fields values (get_or starts t 0) (get_or counts t 0)) (rule_is t first place more rule ruled)
          ∙ ap (λ (q : ℕ). table_passes references lines blocks (table_at t).rule first q values (get_or starts t 0) (get_or counts t 0)) (width_is t first place more rule ruled)
          ∙ ap (λ (q : ℕ). table_passes references lines blocks (table_at t).rule q (width (table_at t)) values (get_or starts t 0) (get_or counts t 0)) place

      pub table_failed : b ≡ false → false ≡ tables_pass references lines blocks starts counts values
      unfolding tables_pass table_test
      table_failed h = every_failed (length tables) table_test t more (sym table_is ∙ h)

      pub table_passed : b ≡ true → every t table_test ≡ true → every (t + 1) table_test ≡ true
      table_passed h e = every_passed t table_test e (sym table_is ∙ h)

  pub tables_done : (t : ℕ) → length tables ≤ t → t ≤ length tables → every t table_test ≡ true → true ≡ tables_pass references lines blocks starts counts values
  unfolding tables_pass table_test
  tables_done t h k e = every_done (length tables) table_test t h k e
