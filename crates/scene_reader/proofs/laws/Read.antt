-- Laws of what is read: the tables in their places are the file's tables, and lie low enough.
use mathlib.Core.Path.{◌≡◌, refl, sym, ◌∙◌, ap}
use mathlib.Core.Bool.{Bool, true, false, false≢true}
use mathlib.Core.List.{List, [], ◌∷◌, ◌++◌, map, append_assoc}
use Prim.Native.Nat.{ℕ, zero, suc, ◌+◌, ◌*◌, ◌<◌, ◌≤◌}
use native.Mathlib.Nat.{zero-mul, suc-mul}
use native.Mathlib.Omega.{arith}
use borrow.Author.Tests.{eqb-true}
use lib.Dec.{eqb}
use lib.ListN.{length, get_or, drop, length-append, length-map}
use lib.Seq.{take_at, drop_at, get_or_at}
use Rattle.laws.proofs.laws.Choice.{and_left, and_right}
use Rattle.limits.specs.Limits.{file_bytes}
use Rattle.laws.specs.Pieces.{begun}
use Rattle.scene_file.specs.declared.grammar.Layout.{Layout}
use Rattle.scene_tables.specs.Bytes.{all, joined, bytes_of, same_bytes}
use Rattle.scene_tables.specs.Tables.{Table, tables, no_table, width}
use Rattle.scene_file.specs.Grammar.{lines_of, sections_of, fields_of, value_of, is_number, is_row, row_of, is_table, rows_of, are_tables, tables_of}
use Rattle.scene_file.specs.Readings.{flat, starts_from, layout_of, LayoutRead}
use Rattle.scene_file.proofs.laws.Written.{tables_written_lem}
use Rattle.scene_questions.specs.Questions.{Tables}
use Rattle.scene_questions.specs.Places.{cut, rows_in, placed_from, Low, stored}

-- ---- every line of a table has its count of numbers

abbrev Wide : ℕ → List (List ℕ) → Type 0
Wide w [] = Unit {0}
Wide w (row ∷ rows) = (length row ≡ w) × Wide w rows

abbrev Fit : List Table → Tables → Type 0
Fit [] [] = Unit {0}
Fit [] (rows ∷ ts) = ⊥
Fit (t ∷ ts) [] = ⊥
Fit (t ∷ ts) (rows ∷ rs) = Wide (width t) rows × Fit ts rs

row_wide : (w : ℕ) (line : List ℕ) → is_row w line ≡ true → length (row_of line) ≡ w
unfolding is_row row_of
row_wide w line e =
    length-map (fields_of line) value_of ∙ eqb-true (length (fields_of line)) w (and_left (eqb (length (fields_of line)) w) (all is_number (fields_of line)) e)

rows_wide : (w : ℕ) (lines : List (List ℕ)) → all (is_row w) lines ≡ true → Wide w (map row_of lines)
unfolding all
rows_wide w [] e = tt
rows_wide w (line ∷ lines) e =
    (row_wide w line (and_left (is_row w line) (all (is_row w) lines) e), rows_wide w lines (and_right (is_row w line) (all (is_row w) lines) e))

section_wide : (t : Table) (section : List (List ℕ)) → is_table t section ≡ true → Wide (width t) (rows_of section)
unfolding is_table rows_of
section_wide t [] e = tt
section_wide t (line ∷ lines) e = rows_wide (width t) lines (and_right (same_bytes line (bytes_of t.names)) (all (is_row (width t)) lines) e)

pub tables_fit : (ts : List Table) (bs : List (List (List ℕ))) → are_tables ts bs ≡ true → Fit ts (map rows_of bs)
unfolding are_tables
tables_fit [] [] e = tt
tables_fit [] (b ∷ bs) e = absurd (false≢true e)
tables_fit (t ∷ ts) [] e = absurd (false≢true e)
tables_fit (t ∷ ts) (b ∷ bs) e =
    (section_wide t b (and_left (is_table t b) (are_tables ts bs) e), tables_fit ts bs (and_right (is_table t b) (are_tables ts bs) e))

-- ---- numbers one after the other are cut into the lines again

cut-joined : (w : ℕ) (rows : List (List ℕ)) (l : List ℕ) → Wide w rows → cut w (length rows) (joined rows ++ l) ≡ rows
unfolding cut joined
cut-joined w [] l h = refl
cut-joined w (row ∷ rows) l h =
    let e : (row ++ joined rows) ++ l ≡ row ++ (joined rows ++ l) = append_assoc row (joined rows) l in
    rw (e, take_at row (joined rows ++ l) w h.0, drop_at row (joined rows ++ l) w h.0, cut-joined w rows l h.1)

joined_length : (w : ℕ) (rows : List (List ℕ)) → Wide w rows → length (joined rows) ≡ length rows * w
unfolding joined
joined_length w [] h = sym (zero-mul w)
joined_length w (row ∷ rows) h =
    length-append row (joined rows) ∙ rw (suc-mul (length rows) w) (omega (arith, h.0, joined_length w rows h.1))

snoc_length : (l : List ℕ) (x k : ℕ) → length l ≡ k → length (l ++ (x ∷ [])) ≡ suc k
snoc_length l x k e = length-append l (x ∷ []) ∙ omega (arith, e)

-- `a` stands before the tables, and so do `p` and `q`, one number for each table before
placed_back : (ts : List Table) (Ts : Tables) (k : ℕ) (a p q l : List ℕ) → Fit ts Ts → length p ≡ k → length q ≡ k
    → placed_from ts k (p ++ starts_from (length a) Ts) (q ++ map length Ts) (a ++ (flat Ts ++ l)) ≡ Ts
unfolding placed_from rows_in starts_from flat
placed_back [] [] k a p q l h e f = refl
placed_back [] (rows ∷ Ts) k a p q l h e f = absurd h
placed_back (t ∷ ts) [] k a p q l h e f = absurd h
placed_back (t ∷ ts) (rows ∷ Ts) k a p q l h e f =
    let n = length rows in
    let j = joined rows in
    let assoc : a ++ ((j ++ flat Ts) ++ l) ≡ a ++ (j ++ (flat Ts ++ l)) = ap (λ (m : List ℕ). a ++ m) (append_assoc j (flat Ts) l) in
    let next : a ++ (j ++ (flat Ts ++ l)) ≡ (a ++ j) ++ (flat Ts ++ l) = sym (append_assoc a j (flat Ts ++ l)) in
    let starts : p ++ (length a ∷ starts_from (length a + length j) Ts) ≡ (p ++ (length a ∷ [])) ++ starts_from (length (a ++ j)) Ts =
    rw (length-append a j) (sym (append_assoc p (length a ∷ []) (starts_from (length a + length j) Ts))) in
    let counts : q ++ (n ∷ map length Ts) ≡ (q ++ (n ∷ [])) ++ map length Ts = sym (append_assoc q (n ∷ []) (map length Ts)) in
    let here : cut (width t) (get_or (q ++ (n ∷ map length Ts)) k 0) (drop (get_or (p ++ (length a ∷ starts_from (length a + length j) Ts)) k 0) (a ++ ((j ++ flat Ts) ++ l))) ≡ rows =
    rw (get_or_at p (length a) (starts_from (length a + length j) Ts) 0 k e, get_or_at q n (map length Ts) 0 k f, assoc, drop_at a (j ++ (flat Ts ++ l)) (length a) refl)
    (cut-joined (width t) rows (flat Ts ++ l) h.0) in
    let there : placed_from ts (suc k) (p ++ (length a ∷ starts_from (length a + length j) Ts)) (q ++ (n ∷ map length Ts)) (a ++ ((j ++ flat Ts) ++ l)) ≡ Ts =
    rw (assoc, next, starts, counts)
    (placed_back ts Ts (suc k) (a ++ j) (p ++ (length a ∷ [])) (q ++ (n ∷ [])) l h.1 (snoc_length p (length a) k e) (snoc_length q n k f)) in
    join here there
  where
    join : {x y : List (List ℕ)} {xs ys : Tables} → x ≡ y → xs ≡ ys → x ∷ xs ≡ y ∷ ys
    join u w = cc

-- where a table ends
ends : (ts : List Table) (Ts : Tables) (a t : ℕ) → Fit ts Ts → t < length ts
    → get_or (starts_from a Ts) t 0 + get_or (map length Ts) t 0 * width (get_or ts t no_table) ≤ a + length (flat Ts)
unfolding starts_from flat
ends [] Ts a t h k = absurd (omega arith)
ends (x ∷ ts) [] a t h k = absurd h
ends (x ∷ ts) (rows ∷ Ts) a zero h k = omega (arith, joined_length (width x) rows h.0, length-append (joined rows) (flat Ts))
ends (x ∷ ts) (rows ∷ Ts) a (suc t) h k =
    omega (arith, ends ts Ts (a + length (joined rows)) t h.1 (omega arith), length-append (joined rows) (flat Ts))

-- ---- of what is read

module _ (file before : List ℕ) (r : Layout) (after : List ℕ) (read : LayoutRead file before r after) where
  by_test : (b : Bool) → are_tables tables (sections_of (lines_of file)) ≡ b → r.ok ≡ b
  unfolding layout_of
  by_test true e = ap (λ (l : Layout). l.ok) read.layout ∙ rw e
  by_test false e = ap (λ (l : Layout). l.ok) read.layout ∙ rw e

  pub layout_test : are_tables tables (sections_of (lines_of file)) ≡ r.ok
  layout_test = sym (by_test (are_tables tables (sections_of (lines_of file))) refl)

  module _ (ok : r.ok ≡ true) where
    tables_ok : are_tables tables (sections_of (lines_of file)) ≡ true
    tables_ok = layout_test ∙ ok

    read_fit : Fit tables (tables_of file)
    unfolding tables_of
    read_fit = tables_fit tables (sections_of (lines_of file)) tables_ok

    starts_are : r.starts ≡ starts_from 0 (tables_of file)
    unfolding layout_of
    starts_are = ap (λ (l : Layout). l.starts) read.layout ∙ rw tables_ok

    counts_are : r.counts ≡ map length (tables_of file)
    unfolding layout_of
    counts_are = ap (λ (l : Layout). l.counts) read.layout ∙ rw tables_ok

    -- the numbers, and then what stood there before
    values_are : after ≡ flat (tables_of file) ++ drop (length (flat (tables_of file))) before
    unfolding begun tables_of
    values_are = read.wrote ∙ ap (λ (l : List ℕ). begun l before) (tables_written_lem tables (sections_of (lines_of file)) tables_ok)

    pub read_placed : stored r.starts r.counts after ≡ tables_of file
    unfolding stored
    read_placed =
        rw (starts_are, counts_are, values_are)
        (placed_back tables (tables_of file) 0 [] [] [] (drop (length (flat (tables_of file))) before) read_fit refl refl)

    pub read_low : length file ≤ file_bytes → Low r.starts r.counts
    read_low small t h = rw (starts_are, counts_are) (omega (arith, ends tables (tables_of file) 0 t read_fit h, read.room ok))
