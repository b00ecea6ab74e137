-- The file's numbers as the code holds them: one list, with the place where each table begins and its count of lines.
-- What the functions of src/ ask of them, in the words of Questions.antt; that it is the same is shown in `scene`.
use Rattle.std.specs.Prelude.{Bool, true, false, cond, ◌&&◌, List, [], ◌∷◌, ℕ, zero, suc, ◌+◌, ◌*◌, ◌≤◌, ◌<◌, leb, ltb, length, get_or, take, drop}
use Rattle.scene_tables.specs.declared.tables.Field.{Field}
use Rattle.scene_tables.specs.declared.tables.LineRule.{LineRule}
use Rattle.scene_tables.specs.Bytes.{every}
use Rattle.scene_tables.specs.Tables.{Table, tables, table_at, no_field, width}
use Rattle.scene_tables.specs.InCode.{all_fields}
use Rattle.scene_questions.specs.Questions.{Tables, in_range, names_line, line_in_range, line_names_line}

-- a list cut in n lines of w numbers
unfoldable pub cut : ℕ → ℕ → List ℕ → List (List ℕ)
cut w zero l = []
cut w (suc n) l = take w l ∷ cut w n (drop w l)

-- the lines of a table that begins at a place
unfoldable pub rows_in : List ℕ → ℕ → ℕ → ℕ → List (List ℕ)
rows_in values start w n = cut w n (drop start values)

-- the lines of some tables, of which the first is table t
unfoldable pub placed_from : List Table → ℕ → List ℕ → List ℕ → List ℕ → Tables
placed_from [] t starts counts values = []
placed_from (x ∷ ts) t starts counts values =
    rows_in values (get_or starts t 0) (width x) (get_or counts t 0) ∷ placed_from ts (suc t) starts counts values

unfoldable pub stored : List ℕ → List ℕ → List ℕ → Tables
stored starts counts values = placed_from tables 0 starts counts values

-- how many lines a table has; none beyond the list
unfoldable pub count_at : List ℕ → ℕ → ℕ
count_at counts t = cond (ltb t (length tables)) (get_or counts t 0) 0

-- question 3, of the counts
unfoldable pub counts_fit : List ℕ → Bool
counts_fit counts =
    every (length tables)
    (λ t. leb (table_at t).least (get_or counts t 0) && leb (get_or counts t 0) (table_at t).most)

-- one field and one line, by question 5 or by question 4
unfoldable pub field_passes : Bool → (ℕ → ℕ) → Field → ℕ → ℕ → Bool
field_passes true lines = names_line lines
field_passes false lines = λ f own z. in_range f z

unfoldable pub line_passes : Bool → (ℕ → ℕ) → ℕ → LineRule → List ℕ → Bool
line_passes true lines blocks = line_names_line lines
line_passes false lines blocks = line_in_range blocks

-- the fields of the line at a place; its rules begin at `first` of all fields
unfoldable pub fields_pass : Bool → (ℕ → ℕ) → ℕ → ℕ → ℕ → List ℕ → ℕ → Bool
fields_pass references lines first w own values a =
    every w (λ j. field_passes references lines (get_or (all_fields tables) (first + j) no_field) own (get_or values (a + j) 0))

-- the lines of a table that begins at a place
unfoldable pub table_passes : Bool → (ℕ → ℕ) → ℕ → LineRule → ℕ → ℕ → List ℕ → ℕ → ℕ → Bool
table_passes references lines blocks rule first w values start n =
    every n (λ i. fields_pass references lines first w i values (start + i * w)
    && line_passes references lines blocks rule (drop (start + i * w) values))

-- every table, of which t come before; its fields' rules begin at `first`
unfoldable pub tables_pass : Bool → (ℕ → ℕ) → ℕ → List ℕ → List ℕ → List ℕ → Bool
tables_pass references lines blocks starts counts values =
    every (length tables)
    (λ t. table_passes references lines blocks (table_at t).rule (length (all_fields (take t tables))) (width (table_at t)) values (get_or starts t 0) (get_or counts t 0))

-- each table's numbers lie low enough for every place to be a usize
abbrev pub places_most : ℕ
places_most = 100000

abbrev pub Low : List ℕ → List ℕ → Type 0
Low starts counts = (t : ℕ) → t < length tables → get_or starts t 0 + get_or counts t 0 * width (table_at t) ≤ places_most
