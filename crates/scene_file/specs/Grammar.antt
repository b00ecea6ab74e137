-- The file's grammar (docs/SCENE.md; question 2): bytes to lines, lines to tables and fields, a field to a number.
use Rattle.std.specs.Prelude.{Bool, true, false, cond, not, ◌&&◌, List, [], ◌∷◌, map, ℕ, ◌+◌, ◌-◌, ◌*◌, eqb, leb, ltb, length, get_or}
use Rattle.scene_tables.specs.Bytes.{bytes_of, all, onto, same_bytes}
use Rattle.scene_tables.specs.Tables.{Table, width, raised, raised_minus}

-- ---- lines and fields

abbrev pub line_feed : ℕ
line_feed = 10

abbrev pub space : ℕ
space = 32

abbrev pub dash : ℕ
dash = 45

abbrev pub zero_digit : ℕ
zero_digit = 48

abbrev pub nine_digit : ℕ
nine_digit = 57

-- The lines of a file: each ends with a line feed, which is no part of it.
unfoldable pub lines_of : List ℕ → List (List ℕ)
lines_of [] = []
lines_of (b ∷ l) = cond (eqb b line_feed) ([] ∷ lines_of l) (onto b (lines_of l))

-- A list cut where a test holds: what stands between two such elements, before the first and after the last is a part,
-- and may be empty; the elements themselves are no part.
unfoldable pub parted {ℓ} : {A : Type ℓ} → (A → Bool) → List A → List (List A)
parted f [] = [] ∷ []
parted f (x ∷ l) = cond (f x) ([] ∷ parted f l) (onto x (parted f l))

abbrev pub is_empty : List ℕ → Bool
is_empty [] = true
is_empty (x ∷ l) = false

-- The fields of a line are parted by one space.
unfoldable pub fields_of : List ℕ → List (List ℕ)
fields_of line = parted (λ b. eqb b space) line

-- The tables of a file, as lines, are parted by one empty line.
unfoldable pub sections_of : List (List ℕ) → List (List (List ℕ))
sections_of lines = parted is_empty lines

-- ---- numbers

abbrev pub is_digit : ℕ → Bool
is_digit b = leb zero_digit b && leb b nine_digit

-- the number that digits stand for, with what stands before them
unfoldable pub digits_after : ℕ → List ℕ → ℕ
digits_after m [] = m
digits_after m (b ∷ l) = digits_after (m * 10 + (b - zero_digit)) l

-- a zero with something after it
unfoldable pub leading_zero : List ℕ → Bool
leading_zero l = eqb (get_or l 0 0) zero_digit && ltb 1 (length l)

-- some digits and nothing else, with no leading zero
unfoldable pub is_whole : List ℕ → Bool
is_whole l = ltb 0 (length l) && not (leading_zero l) && all is_digit l

-- A number: an optional minus, then a whole number; `-0` is none; within -2147483648..2147483647.
unfoldable pub is_number : List ℕ → Bool
is_number [] = false
is_number (b ∷ l) =
    cond (eqb b dash)
    (is_whole l && leb 1 (digits_after 0 l) && leb (digits_after 0 l) 2147483648)
    (is_whole (b ∷ l) && leb (digits_after 0 (b ∷ l)) 2147483647)

-- its value, raised by 2^31
unfoldable pub value_of : List ℕ → ℕ
value_of [] = 0
value_of (b ∷ l) = cond (eqb b dash) (raised_minus (digits_after 0 l)) (raised (digits_after 0 (b ∷ l)))

-- ---- tables

-- a value line of w fields
unfoldable pub is_row : ℕ → List ℕ → Bool
is_row w line = eqb (length (fields_of line)) w && all is_number (fields_of line)

-- its numbers
unfoldable pub row_of : List ℕ → List ℕ
row_of line = map value_of (fields_of line)

-- a table's names line, spelled exactly, and then its value lines
unfoldable pub is_table : Table → List (List ℕ) → Bool
is_table t [] = false
is_table t (line ∷ lines) = same_bytes line (bytes_of t.names) && all (is_row (width t)) lines

unfoldable pub rows_of : List (List ℕ) → List (List ℕ)
rows_of [] = []
rows_of (line ∷ lines) = map row_of lines

-- every table of a list, in its order, and nothing else
unfoldable pub are_tables : List Table → List (List (List ℕ)) → Bool
are_tables [] [] = true
are_tables [] (b ∷ bs) = false
are_tables (t ∷ ts) [] = false
are_tables (t ∷ ts) (b ∷ bs) = is_table t b && are_tables ts bs

-- The numbers of a file: for each table its value lines, and for each line its numbers, all in the file's order.
unfoldable pub tables_of : List ℕ → List (List (List ℕ))
tables_of file = map rows_of (sections_of (lines_of file))
