-- A buffer that is written piece by piece from a place on: what is written and what is left to write are what is to be written. One law for the
-- loop over a line's fields, that over a table's lines and that over the tables; and what is written where nothing is refused.
use mathlib.Core.Path.{◌≡◌, refl, sym, ◌∙◌, ap}
use mathlib.Core.Bool.{true, false≢true}
use mathlib.Core.List.{List, [], ◌∷◌, ◌++◌, map, append_assoc, append-nil}
use Prim.Native.Nat.{ℕ, ◌+◌, ◌≤◌}
use native.Mathlib.Nat.{add-zero}
use native.Mathlib.Omega.{arith}
use borrow.Author.Tests.{eqb-true}
use lib.Dec.{eqb}
use lib.ListN.{length, length-append, length-map}
use Rattle.laws.specs.Pieces.{put_at}
use Rattle.laws.proofs.laws.Choice.{and_left, and_right}
use Rattle.laws.proofs.laws.Pieces.{put_nil, put_turn}
use Rattle.scene_tables.specs.Bytes.{all, joined, bytes_of, same_bytes}
use Rattle.scene_tables.specs.Tables.{Table, width}
use Rattle.scene_file.specs.Grammar.{fields_of, is_number, value_of, is_row, row_of, is_table, rows_of, are_tables}
use Rattle.scene_file.specs.Readings.{numbers_of, rows_written, section_written, tables_written, flat, is_section}

-- `whole` is to be written from `at` on; `left` is still to be written, from `place` on
pub record Written (whole before values : List ℕ) (at place : ℕ) (left : List ℕ) : Type 0 where
  pub done : List ℕ
  pub placed : place ≡ at + length done
  pub now : values ≡ put_at at done before
  pub rest : done ++ left ≡ whole

pub written_start : (whole before : List ℕ) (at : ℕ) → Written whole before before at at whole
written_start whole before at = record { done = []; placed = sym (add-zero at); now = sym (put_nil at before); rest = refl }

pub written_more : {whole before values left : List ℕ} {at place : ℕ} → Written whole before values at place left
    → (p : List ℕ) {more after : List ℕ} {next : ℕ} → left ≡ p ++ more → at ≤ length before → after ≡ put_at place p values → next ≡ place + length p
    → Written whole before after at next more
written_more {before = before} {at = at} w p {more} e h q k =
    record {
      done = w.done ++ p;
      placed = k ∙ omega (arith, w.placed, length-append w.done p);
      now = q ∙ put_turn at w.done p before h w.now w.placed;
      rest = append_assoc w.done p more ∙ ap (λ (l : List ℕ). w.done ++ l) (sym e) ∙ w.rest;
    }

module _ {whole before values left : List ℕ} {at place : ℕ} (w : Written whole before values at place left) (none : left ≡ []) where
  all_done : w.done ≡ whole
  all_done = sym (append-nil w.done) ∙ ap (λ (l : List ℕ). w.done ++ l) (sym none) ∙ w.rest

  pub written_end : values ≡ put_at at whole before
  written_end = w.now ∙ ap (λ (d : List ℕ). put_at at d before) all_done

  pub written_place : place ≡ at + length whole
  written_place = w.placed ∙ ap (λ (d : List ℕ). at + length d) all_done

-- ---- where nothing is refused

pub numbers_all : (fields : List (List ℕ)) → all is_number fields ≡ true → numbers_of fields ≡ map value_of fields
unfolding numbers_of all
numbers_all [] e = refl
numbers_all (field ∷ fields) e =
    rw (and_left (is_number field) (all is_number fields) e, numbers_all fields (and_right (is_number field) (all is_number fields) e))

module _ (w : ℕ) (line : List ℕ) (ok : is_row w line ≡ true) where
  pub row_numbers : numbers_of (fields_of line) ≡ row_of line
  unfolding is_row row_of
  row_numbers = numbers_all (fields_of line) (and_right (eqb (length (fields_of line)) w) (all is_number (fields_of line)) ok)

  pub row_width : length (numbers_of (fields_of line)) ≡ w
  unfolding is_row row_of
  row_width =
      ap length row_numbers
      ∙ length-map (fields_of line) value_of
      ∙ eqb-true (length (fields_of line)) w (and_left (eqb (length (fields_of line)) w) (all is_number (fields_of line)) ok)

pub rows_written_lem : (w : ℕ) (lines : List (List ℕ)) → all (is_row w) lines ≡ true → rows_written w lines ≡ joined (map row_of lines)
unfolding rows_written all joined
rows_written_lem w [] e = refl
rows_written_lem w (line ∷ lines) e =
    let here = and_left (is_row w line) (all (is_row w) lines) e in
    rw (here, row_numbers w line here, rows_written_lem w lines (and_right (is_row w line) (all (is_row w) lines) e))

pub section_written_lem : (names : List ℕ) (w : ℕ) (section : List (List ℕ)) → is_section names w section ≡ true → section_written names w section ≡ joined (rows_of section)
unfolding is_section section_written rows_of joined
section_written_lem names w [] e = refl
section_written_lem names w (line ∷ lines) e =
    rw (and_left (same_bytes line names) (all (is_row w) lines) e)
    (rows_written_lem w lines (and_right (same_bytes line names) (all (is_row w) lines) e))

pub table_is : (t : Table) (section : List (List ℕ)) → is_table t section ≡ is_section (bytes_of t.names) (width t) section
unfolding is_table is_section
table_is t [] = refl
table_is t (line ∷ lines) = refl

pub tables_written_lem : (ts : List Table) (sections : List (List (List ℕ))) → are_tables ts sections ≡ true → tables_written ts sections ≡ flat (map rows_of sections)
unfolding are_tables tables_written flat
tables_written_lem [] [] e = refl
tables_written_lem [] (s ∷ ss) e = absurd (false≢true e)
tables_written_lem (t ∷ ts) [] e = absurd (false≢true e)
tables_written_lem (t ∷ ts) (s ∷ ss) e =
    let here = and_left (is_table t s) (are_tables ts ss) e in
    rw (here, section_written_lem (bytes_of t.names) (width t) s (sym (table_is t s) ∙ here), tables_written_lem ts ss (and_right (is_table t s) (are_tables ts ss) e))
