-- What the leaf functions of src/ give, in the words of Grammar.antt.
use Rattle.std.specs.Prelude.{Option, Some, None, ◌≡◌, Bool, true, false, ◌&&◌, cond, List, [], ◌∷◌, ◌++◌, map, ℕ, suc, ◌+◌, ◌-◌, ◌*◌, ◌≤◌, leb, eqb, length, get_or, take, drop, replicate}
use Rattle.laws.specs.Pieces.{begun, put_at}
use Rattle.scene_file.specs.declared.grammar.TableRead.{TableRead}
use Rattle.scene_file.specs.declared.grammar.Layout.{Layout}
use Rattle.scene_tables.specs.Bytes.{bytes_of, same_bytes, all, joined}
use Rattle.scene_file.specs.Grammar.{is_digit, is_whole, digits_after, is_number, value_of, lines_of, fields_of, sections_of, is_row, is_table, rows_of, are_tables, tables_of}
use Rattle.scene_tables.specs.Tables.{Table, tables, width, raised, raised_minus}

-- the rest of a slice from a place on, as code lends it
abbrev pub tail_of : List ℕ → ℕ → List ℕ
tail_of l i = take (length l - i) (drop i l)

-- the place of the first such byte, or the length
unfoldable pub position_of : ℕ → List ℕ → ℕ
position_of b [] = 0
position_of b (x ∷ l) = cond (eqb x b) 0 (suc (position_of b l))

-- what digits stand for, up to 2^31
unfoldable pub magnitude_of : List ℕ → Option ℕ
magnitude_of l = cond (all is_digit l && leb (digits_after 0 l) 2147483648) (Some (digits_after 0 l)) None

-- a whole number, and one after a minus, raised by 2^31
unfoldable pub positive_of : List ℕ → Option ℕ
positive_of l = cond (is_whole l && leb (digits_after 0 l) 2147483647) (Some (raised (digits_after 0 l))) None

unfoldable pub negative_of : List ℕ → Option ℕ
negative_of l =
    cond (is_whole l && leb 1 (digits_after 0 l) && leb (digits_after 0 l) 2147483648) (Some (raised_minus (digits_after 0 l))) None

unfoldable pub number_of : List ℕ → Option ℕ
number_of l = cond (is_number l) (Some (value_of l)) None

-- ---- what is read of a line, of a table, of the file. Numbers are written one after the other, and no more once a line is refused; `before` and
-- `after` are their buffer.

-- the numbers of a line's fields, up to the first field that is none
unfoldable pub numbers_of : List (List ℕ) → List ℕ
numbers_of [] = []
numbers_of (field ∷ fields) = cond (is_number field) (value_of field ∷ numbers_of fields) []

-- the numbers of value lines of w fields, up to the first line that is none
unfoldable pub rows_written : ℕ → List (List ℕ) → List ℕ
rows_written w [] = []
rows_written w (line ∷ lines) = numbers_of (fields_of line) ++ cond (is_row w line) (rows_written w lines) []

-- a names line, and then value lines
unfoldable pub is_section : List ℕ → ℕ → List (List ℕ) → Bool
is_section names w [] = false
is_section names w (line ∷ lines) = same_bytes line names && all (is_row w) lines

unfoldable pub section_written : List ℕ → ℕ → List (List ℕ) → List ℕ
section_written names w [] = []
section_written names w (line ∷ lines) = cond (same_bytes line names) (rows_written w lines) []

-- the numbers of a file's tables, up to what is refused first
unfoldable pub tables_written : List Table → List (List (List ℕ)) → List ℕ
tables_written [] sections = []
tables_written (t ∷ ts) [] = []
tables_written (t ∷ ts) (section ∷ sections) =
    section_written (bytes_of t.names) (width t) section ++ cond (is_table t section) (tables_written ts sections) []

pub record RowRead (line : List ℕ) (width at : ℕ) (before : List ℕ) (ok : Bool) (after : List ℕ) : Type 0 where
  pub answer : ok ≡ is_row width line
  pub wrote : after ≡ put_at at (numbers_of (fields_of line)) before
  pub room : ok ≡ true → width + width ≤ length line + 1

-- the first table's lines from a place on, and the tables after it
unfoldable pub section_from : List ℕ → ℕ → List (List ℕ)
section_from file from = get_or (sections_of (lines_of (drop from file))) 0 []

unfoldable pub sections_after : List ℕ → ℕ → List (List (List ℕ))
sections_after file from = drop 1 (sections_of (lines_of (drop from file)))

-- the tables from a place on, where there are more
unfoldable pub sections_left : List ℕ → Bool → ℕ → List (List (List ℕ))
sections_left file more next = cond more (sections_of (lines_of (drop next file))) []

-- a refusal
abbrev pub no_rows : TableRead
no_rows = record { ok = false; lines = 0; next = 0; at = 0; more = false }

-- Where the next table begins is said by what is left from there on.
pub record RowsRead (file : List ℕ) (from width at : ℕ) (before : List ℕ) (r : TableRead) (after : List ℕ) : Type 0 where
  pub answer : r.ok ≡ all (is_row width) (section_from file from)
  pub refused : r.ok ≡ false → r ≡ no_rows
  pub lines : r.ok ≡ true → r.lines ≡ length (section_from file from)
  pub place : r.ok ≡ true → r.at ≡ at + length (rows_written width (section_from file from))
  pub wrote : after ≡ put_at at (rows_written width (section_from file from)) before
  pub left : r.ok ≡ true → sections_after file from ≡ sections_left file r.more r.next
  pub room : r.ok ≡ true → r.at + r.at ≤ r.next
  pub within : r.ok ≡ true → r.next ≤ length file + 1

pub record SectionRead (file : List ℕ) (from : ℕ) (names : List ℕ) (width at : ℕ) (before : List ℕ) (r : TableRead) (after : List ℕ) : Type 0 where
  pub answer : r.ok ≡ is_section names width (section_from file from)
  pub refused : r.ok ≡ false → r ≡ no_rows
  pub lines : r.ok ≡ true → r.lines ≡ length (rows_of (section_from file from))
  pub place : r.ok ≡ true → r.at ≡ at + length (section_written names width (section_from file from))
  pub wrote : after ≡ put_at at (section_written names width (section_from file from)) before
  pub left : r.ok ≡ true → sections_after file from ≡ sections_left file r.more r.next
  pub room : r.ok ≡ true → r.at + r.at ≤ r.next
  pub within : r.ok ≡ true → r.next ≤ length file + 1

-- all numbers of some tables, one after the other, and where those of each table begin
unfoldable pub flat : List (List (List ℕ)) → List ℕ
flat [] = []
flat (rows ∷ ts) = joined rows ++ flat ts

unfoldable pub starts_from : ℕ → List (List (List ℕ)) → List ℕ
starts_from at [] = []
starts_from at (rows ∷ ts) = at ∷ starts_from (at + length (joined rows)) ts

-- a refusal
abbrev pub no_layout : Layout
no_layout = record { ok = false; starts = replicate (length tables) 0; counts = replicate (length tables) 0 }

unfoldable pub layout_of : List ℕ → Layout
layout_of file =
    cond (are_tables tables (sections_of (lines_of file)))
    (record { ok = true; starts = starts_from 0 (tables_of file); counts = map length (tables_of file) })
    no_layout

pub record LayoutRead (file before : List ℕ) (r : Layout) (after : List ℕ) : Type 0 where
  pub layout : r ≡ layout_of file
  pub wrote : after ≡ begun (tables_written tables (sections_of (lines_of file))) before
  pub room : r.ok ≡ true → length (flat (tables_of file)) * 2 ≤ length file + 1
