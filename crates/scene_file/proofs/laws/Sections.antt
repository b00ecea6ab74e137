-- Laws of a file's lines and of the tables that empty lines part: the loop that reads a table's value lines.
use mathlib.Core.Path.{◌≡◌, refl, sym, ◌∙◌, ap}
use mathlib.Core.Bool.{Bool, true, false, cond, true≢false}
use mathlib.Core.List.{List, [], ◌∷◌, ◌++◌}
use Prim.Native.Nat.{ℕ, suc, ◌+◌, ◌*◌, ◌^◌, ◌<◌, ◌≤◌}
use native.Mathlib.Nat.{add-zero, add-suc}
use native.Mathlib.Numerals.{add-one}
use native.Mathlib.Omega.{arith}
use lib.Dec.{eqb}
use lib.ListN.{length, get_or, take, drop, length-take, length-drop, drop_of_length-le}
use lib.Seq.{drop-drop}
use mir.Syntax.{w64}
use mir.Val.{Fits}
use Rattle.scene_file.specs.declared.grammar.TableRead.{TableRead}
use Rattle.scene_tables.specs.Bytes.{all, onto}
use Rattle.scene_file.specs.Grammar.{line_feed, is_empty, parted, lines_of, sections_of, fields_of, is_row}
use Rattle.scene_file.specs.Readings.{position_of, numbers_of, rows_written, no_rows, RowRead, RowsRead, section_from, sections_after, sections_left, tail_of}
use Rattle.scene_file.proofs.laws.Numbers.{position_within}
use Rattle.scene_file.proofs.laws.Written.{Written, written_start, written_more, written_end, written_place, row_width}
use Rattle.scene_file.proofs.laws.Tails.{tail_is, tail_length}

-- ---- lines

-- the first line ends at the first line feed, and the others are the lines of what follows it
pub lines_at : (x : ℕ) (l : List ℕ) → lines_of (x ∷ l) ≡ take (position_of line_feed (x ∷ l)) (x ∷ l) ∷ lines_of (drop (suc (position_of line_feed (x ∷ l))) (x ∷ l))
unfolding lines_of position_of onto
lines_at x [] = go (eqb x line_feed)
  where
    go : (b : Bool) → cond b ([] ∷ []) ((x ∷ []) ∷ []) ≡ take (cond b 0 1) (x ∷ []) ∷ lines_of (drop (suc (cond b 0 1)) (x ∷ []))
    go true = refl
    go false = refl
lines_at x (y ∷ l) = go (eqb x line_feed) (lines_at y l)
  where
    go : (b : Bool)
        → lines_of (y ∷ l) ≡ take (position_of line_feed (y ∷ l)) (y ∷ l) ∷ lines_of (drop (suc (position_of line_feed (y ∷ l))) (y ∷ l))
        → cond b ([] ∷ lines_of (y ∷ l)) (onto x (lines_of (y ∷ l)))
        ≡ take (cond b 0 (suc (position_of line_feed (y ∷ l)))) (x ∷ y ∷ l) ∷ lines_of (drop (suc (cond b 0 (suc (position_of line_feed (y ∷ l))))) (x ∷ y ∷ l))
    go true ih = refl
    go false ih = ap (onto x) ih

lines_cut : (l : List ℕ) → 0 < length l → lines_of l ≡ take (position_of line_feed l) l ∷ lines_of (drop (suc (position_of line_feed l)) l)
lines_cut [] h = absurd (omega arith)
lines_cut (x ∷ l) h = lines_at x l

-- the lines from a place on
pub lines_next : (file : List ℕ) (p e : ℕ) → p < length file → e ≡ position_of line_feed (tail_of file p)
    → lines_of (drop p file) ≡ take e (tail_of file p) ∷ lines_of (drop (p + e + 1) file)
lines_next file p e h q =
    let l = drop p file in
    let k : e ≡ position_of line_feed l = q ∙ ap (position_of line_feed) (tail_is file p) in
    rw (tail_is file p) (
    lines_cut l (omega (arith, length-drop p file)) ∙ rw (← k, drop-drop (suc e) p file, add-one (p + e), ← add-suc p e)
    )

pub line_fits : (l : List ℕ) (i n : ℕ) → i ≤ length l → n ≡ position_of line_feed (tail_of l i) → length l * 1 < 2 ^ 63 → Fits w64 (i + n)
line_fits l i n h e k = omega (arith, tail_length l i, position_within line_feed (tail_of l i))

-- ---- tables as lines

pub sections_cons : (ls : List (List ℕ)) → sections_of ls ≡ get_or (sections_of ls) 0 [] ∷ drop 1 (sections_of ls)
unfolding sections_of parted onto
sections_cons [] = refl
sections_cons ([] ∷ ls) = refl
sections_cons ((x ∷ l) ∷ ls) = go (parted is_empty ls)
  where
    go : (bs : List (List (List ℕ))) → onto (x ∷ l) bs ≡ get_or (onto (x ∷ l) bs) 0 [] ∷ drop 1 (onto (x ∷ l) bs)
    go [] = refl
    go (b ∷ bs) = refl

sections_filled : (line : List ℕ) (ls : List (List ℕ)) → 0 < length line
    → (get_or (sections_of (line ∷ ls)) 0 [] ≡ line ∷ get_or (sections_of ls) 0 []) × (drop 1 (sections_of (line ∷ ls)) ≡ drop 1 (sections_of ls))
unfolding sections_of parted onto
sections_filled [] ls h = absurd (omega arith)
sections_filled (x ∷ l) ls h = go (parted is_empty ls) (sections_cons ls)
  where
    go : (bs : List (List (List ℕ))) → bs ≡ get_or bs 0 [] ∷ drop 1 bs
        → (get_or (onto (x ∷ l) bs) 0 [] ≡ (x ∷ l) ∷ get_or bs 0 []) × (drop 1 (onto (x ∷ l) bs) ≡ drop 1 bs)
    go [] e = (refl, refl)
    go (b ∷ bs) e = (refl, refl)

-- what is left past the end
pub section_end : (file : List ℕ) (p : ℕ) → length file ≤ p → (section_from file p ≡ []) × (sections_after file p ≡ [])
unfolding section_from sections_after sections_of parted lines_of
section_end file p h = (rw (drop_of_length-le file h), rw (drop_of_length-le file h))

-- at an empty line
pub section_empty : (file : List ℕ) (p e : ℕ) → p < length file → e ≡ position_of line_feed (tail_of file p) → e ≡ 0
    → (section_from file p ≡ []) × (sections_after file p ≡ sections_left file true (p + 1))
unfolding section_from sections_after sections_left sections_of parted
section_empty file p e h q z =
    let k : lines_of (drop p file) ≡ [] ∷ lines_of (drop (p + 1) file) = lines_next file p e h q ∙ rw (z, add-zero p) in
    (rw k, rw k)

-- at a line that is not empty
pub section_line : (file : List ℕ) (p e : ℕ) → p < length file → e ≡ position_of line_feed (tail_of file p) → (e ≡ 0 → ⊥)
    → (section_from file p ≡ take e (tail_of file p) ∷ section_from file (p + e + 1)) × (sections_after file p ≡ sections_after file (p + e + 1))
unfolding section_from sections_after
section_line file p e h q z =
    let k = lines_next file p e h q in
    let w : e ≤ length (tail_of file p) = omega (arith, position_within line_feed (tail_of file p)) in
    let f = sections_filled (take e (tail_of file p)) (lines_of (drop (p + e + 1) file)) (omega (arith, length-take e (tail_of file p))) in
    (rw k f.0, rw k f.1)

-- ---- the loop that reads the value lines of a table

pub record RowsLoop (file : List ℕ) (from width at : ℕ) (before values : List ℕ) (next k n : ℕ) : Type 0 where
  pub rows : all (is_row width) (section_from file next) ≡ all (is_row width) (section_from file from)
  pub counted : n + length (section_from file next) ≡ length (section_from file from)
  pub wrote : Written (rows_written width (section_from file from)) before values at k (rows_written width (section_from file next))
  pub left : sections_after file next ≡ sections_after file from
  pub room : k + k ≤ next
  pub few : n ≤ next
  pub within : next ≤ length file + 1
  pub kept : length values ≡ length before

pub rows_start : (file : List ℕ) (from width at : ℕ) (before : List ℕ) → at + at ≤ from → from ≤ length file + 1
    → RowsLoop file from width at before before from at 0
rows_start file from width at before h k =
    record { rows = refl; counted = omega arith; wrote = written_start (rows_written width (section_from file from)) before at; left = refl; room = h; few = omega arith; within = k; kept = refl }

module _
    (file : List ℕ)
    (from width at : ℕ)
    (before values : List ℕ)
    (next k n : ℕ)
    (inv : RowsLoop file from width at before values next k n)
  where
    pub rows_done : length file ≤ next
        → RowsRead file from width at before (record { ok = true; lines = n; next = next; at = k; more = false }) values
    unfolding all rows_written sections_left
    rows_done h =
        let e = section_end file next h in
        record {
          answer = sym (sym inv.rows ∙ rw e.0);
          refused = λ q. absurd (true≢false q);
          lines = λ q. omega (arith, inv.counted, ap length e.0);
          place = λ q. written_place inv.wrote (rw e.0);
          wrote = written_end inv.wrote (rw e.0);
          left = λ q. sym inv.left ∙ e.1;
          room = λ q. inv.room;
          within = λ q. inv.within;
        }

    module _ (e : ℕ) (more : next < length file) (place : e ≡ position_of line_feed (tail_of file next)) where
      pub rows_empty : e ≡ 0 → RowsRead file from width at before (record { ok = true; lines = n; next = next + 1; at = k; more = true }) values
      unfolding all rows_written
      rows_empty z =
          let b = section_empty file next e more place z in
          let r : k + k ≤ next = inv.room in
          record {
            answer = sym (sym inv.rows ∙ rw b.0);
            refused = λ q. absurd (true≢false q);
            lines = λ q. omega (arith, inv.counted, ap length b.0);
            place = λ q. written_place inv.wrote (rw b.0);
            wrote = written_end inv.wrote (rw b.0);
            left = λ q. sym inv.left ∙ b.1;
            room = λ q. omega arith;
            within = λ q. omega arith;
          }

      rows_fits : next + e ≤ length file
      rows_fits = omega (arith, tail_length file next, position_within line_feed (tail_of file next), place)

      pub rows_room : length file + 1 ≤ length before + length before → k + k + length (take e (tail_of file next)) + 1 ≤ length values + length values
      rows_room h =
          let r : k + k ≤ next = inv.room in
          let l : length values ≡ length before = inv.kept in
          let f : next + e ≤ length file = rows_fits in
          omega (arith, length-take e (tail_of file next))

      pub rows_add : length file * 1 < 2 ^ 63 → Fits w64 (next + e)
      rows_add h = let f : next + e ≤ length file = rows_fits in omega arith

      pub rows_add_one : length file * 1 < 2 ^ 63 → Fits w64 (next + e + 1)
      rows_add_one h = let f : next + e ≤ length file = rows_fits in omega arith

      module _
          (filled : e ≡ 0 → ⊥)
          (ok : Bool)
          (after : List ℕ)
          (read : RowRead (take e (tail_of file next)) width k values ok after)
        where
          -- what the line leaves to write
          left_is : rows_written width (section_from file next)
              ≡ numbers_of (fields_of (take e (tail_of file next))) ++ cond ok (rows_written width (section_from file (next + e + 1))) []
          unfolding rows_written
          left_is = rw ((section_line file next e more place filled).0, ← read.answer)

          pub rows_bad : ok ≡ false → (r : TableRead) → r ≡ no_rows → length file + 1 ≤ length before + length before → at + at ≤ from → from ≤ length file + 1
              → RowsRead file from width at before r after
          unfolding all
          rows_bad q r z space begins starts =
              let b = section_line file next e more place filled in
              let no : r.ok ≡ false = ap (λ (t : TableRead). t.ok) z in
              let none : (t : Bool) → t ≡ false → t ≡ true → ⊥ = λ t u v. true≢false (sym v ∙ u) in
              let w = written_more inv.wrote (numbers_of (fields_of (take e (tail_of file next)))) {more = []} (left_is ∙ rw q) (omega arith) read.wrote refl in
              record {
                answer = no ∙ sym (sym inv.rows ∙ rw (b.0, ← read.answer, q));
                refused = λ t. z;
                lines = λ t. absurd (none r.ok no t);
                place = λ t. absurd (none r.ok no t);
                wrote = written_end w refl;
                left = λ t. absurd (none r.ok no t);
                room = λ t. absurd (none r.ok no t);
                within = λ t. absurd (none r.ok no t);
              }

          pub rows_next : ok ≡ true → length after ≡ length values → at ≤ length before → RowsLoop file from width at before after (next + e + 1) (k + width) (n + 1)
          unfolding all
          rows_next q len inside =
              let b = section_line file next e more place filled in
              let r : k + k ≤ next = inv.room in
              let f : next + e ≤ length file = rows_fits in
              let s : width + width ≤ length (take e (tail_of file next)) + 1 = read.room q in
              let wide = row_width width (take e (tail_of file next)) (sym read.answer ∙ q) in
              record {
                rows = sym (sym inv.rows ∙ rw (b.0, ← read.answer, q));
                counted = omega (arith, inv.counted, ap length b.0);
                wrote = written_more inv.wrote (numbers_of (fields_of (take e (tail_of file next)))) {more = rows_written width (section_from file (next + e + 1))} (left_is ∙ rw q) inside read.wrote (rw wide);
                left = sym b.1 ∙ inv.left;
                room = omega (arith, length-take e (tail_of file next));
                few = omega (arith, inv.few);
                within = omega arith;
                kept = len ∙ inv.kept;
              }

          pub rows_add_place : ok ≡ true → length file * 1 < 2 ^ 63 → Fits w64 (k + width)
          rows_add_place q h =
              let r : k + k ≤ next = inv.room in
              let f : next + e ≤ length file = rows_fits in
              let s : width + width ≤ length (take e (tail_of file next)) + 1 = read.room q in
              omega (arith, length-take e (tail_of file next))
