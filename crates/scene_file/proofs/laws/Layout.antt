-- Laws of the file as a whole: one table with its names line, and the loop over the list of tables.
use mathlib.Core.Path.{◌≡◌, refl, sym, ◌∙◌, ap}
use mathlib.Core.Bool.{Bool, true, false, cond, not, ◌&&◌, true≢false, false≢true}
use mathlib.Core.List.{List, [], ◌∷◌, ◌++◌, map, append_assoc, append-nil}
use Prim.Native.Nat.{ℕ, suc, ◌+◌, ◌-◌, ◌*◌, ◌^◌, ◌<◌, ◌≤◌}
use native.Mathlib.Nat.{zero-add}
use native.Mathlib.Numerals.{add-one}
use native.Mathlib.Omega.{arith}
use lib.Dec.{eqb}
use lib.ListN.{length, take, drop, set, replicate, length-append, length-drop, length-set}
use lib.Seq.{drop-drop, take-suc-set, take_all, take-append_seam}
use mir.Syntax.{w64}
use mir.Val.{Fits}
use Rattle.laws.specs.Pieces.{begun, put_at}
use Rattle.laws.proofs.laws.Pieces.{put_nil}
use Rattle.scene_file.specs.declared.grammar.TableRead.{TableRead}
use Rattle.scene_file.specs.declared.grammar.Layout.{Layout}
use Rattle.scene_tables.specs.declared.tables.TableRule.{TableRule}
use Rattle.scene_tables.specs.Bytes.{all, joined, bytes_of, same_bytes}
use Rattle.scene_tables.specs.Tables.{Table, tables, table_at, no_table}
use Rattle.scene_file.specs.Grammar.{line_feed, lines_of, sections_of, row_of, is_table, rows_of, are_tables, tables_of}
use Rattle.scene_file.specs.Readings.{position_of, RowsRead, SectionRead, no_rows, section_written, tables_written, section_from, sections_after, sections_left, starts_from, no_layout, layout_of, LayoutRead, tail_of, is_section}
use Rattle.scene_tables.specs.InCode.{names_text, rule_of}
use Rattle.scene_tables.proofs.laws.Every.{all_at}
use Rattle.scene_file.proofs.laws.Numbers.{position_within}
use Rattle.scene_file.proofs.laws.Written.{table_is, Written, written_start, written_more, written_end, written_place, section_written_lem, tables_written_lem}
use Rattle.scene_file.proofs.laws.Tails.{rest, tail_is, tail_length}
use Rattle.scene_file.proofs.laws.Sections.{section_end, section_empty, section_line, sections_cons}

-- ---- one table

length_rows : (ls : List (List ℕ)) → length (map row_of ls) ≡ length ls
length_rows [] = refl
length_rows (l ∷ ls) = ap suc (length_rows ls)

no : (b : Bool) → b ≡ false → b ≡ true → ⊥
no b u v = true≢false (sym v ∙ u)

section_refused : (file : List ℕ) (from : ℕ) (names : List ℕ) (width at : ℕ) (before : List ℕ) (r : TableRead) → r ≡ no_rows
    → is_section names width (section_from file from) ≡ false → section_written names width (section_from file from) ≡ []
    → SectionRead file from names width at before r before
section_refused file from names width at before r z h w =
    let f : r.ok ≡ false = ap (λ (t : TableRead). t.ok) z in
    record {
      answer = f ∙ sym h;
      refused = λ t. z;
      lines = λ t. absurd (no r.ok f t);
      place = λ t. absurd (no r.ok f t);
      wrote = sym (ap (λ (p : List ℕ). put_at at p before) w ∙ put_nil at before);
      left = λ t. absurd (no r.ok f t);
      room = λ t. absurd (no r.ok f t);
      within = λ t. absurd (no r.ok f t);
    }

module _ (file : List ℕ) (from : ℕ) (names : List ℕ) (width at : ℕ) (before : List ℕ) (r : TableRead) where
  pub section_past : length file ≤ from → r ≡ no_rows → SectionRead file from names width at before r before
  unfolding is_section section_written
  section_past h z = section_refused file from names width at before r z (rw (section_end file from h).0) (rw (section_end file from h).0)

  module _ (e : ℕ) (more : from < length file) (place : e ≡ position_of line_feed (tail_of file from)) where
    pub section_none : e ≡ 0 → r ≡ no_rows → SectionRead file from names width at before r before
    unfolding is_section section_written
    section_none h z =
        let s = (section_empty file from e more place h).0 in
        section_refused file from names width at before r z (rw s) (rw s)

    section_fits : from + e ≤ length file
    section_fits = omega (arith, tail_length file from, position_within line_feed (tail_of file from), place)

    pub section_within : from + e + 1 ≤ length file + 1
    section_within = let f : from + e ≤ length file = section_fits in omega arith

    pub section_add : length file * 1 < 2 ^ 63 → Fits w64 (from + e)
    section_add h = let f : from + e ≤ length file = section_fits in omega arith

    pub section_add_one : length file * 1 < 2 ^ 63 → Fits w64 (from + e + 1)
    section_add_one h = let f : from + e ≤ length file = section_fits in omega arith

    module _ (filled : e ≡ 0 → ⊥) (b : Bool) (named : b ≡ same_bytes (take e (tail_of file from)) names) where
      pub section_other : b ≡ false → r ≡ no_rows → SectionRead file from names width at before r before
      unfolding is_section section_written
      section_other h z =
          let s = (section_line file from e more place filled).0 in
          section_refused file from names width at before r z (rw (s, ← named, h)) (rw (s, ← named, h))

      pub section_read : b ≡ true → (after : List ℕ) → RowsRead file (from + e + 1) width at before r after → SectionRead file from names width at before r after
      unfolding is_section rows_of section_written
      section_read h after q =
          let l = section_line file from e more place filled in
          record {
            answer = q.answer ∙ sym (rw (l.0, ← named, h));
            refused = q.refused;
            lines = λ t. rw l.0 (q.lines t ∙ sym (length_rows (section_from file (from + e + 1))));
            place = λ t. rw (l.0, ← named, h) (q.place t);
            wrote = rw (l.0, ← named, h) q.wrote;
            left = λ t. l.1 ∙ q.left t;
            room = q.room;
            within = q.within;
          }

-- ---- the names lines

-- how many bytes the names lines have
abbrev names_bytes : ℕ
names_bytes = 209

-- a line with no line feed in it ends at the one after it
name_length : (n l : List ℕ) → all (λ b. not (eqb b line_feed)) n ≡ true → position_of line_feed (n ++ line_feed ∷ l) ≡ length n
unfolding position_of all
name_length [] l h = refl
name_length (b ∷ n) l h = go (eqb b line_feed) h (name_length n l)
  where
    go : (t : Bool) → (not t && all (λ b. not (eqb b line_feed)) n) ≡ true → (all (λ b. not (eqb b line_feed)) n ≡ true → position_of line_feed (n ++ line_feed ∷ l) ≡ length n)
        → cond t 0 (suc (position_of line_feed (n ++ line_feed ∷ l))) ≡ suc (length n)
    go true u ih = absurd (false≢true u)
    go false u ih = ap suc (ih u)

take_front : (n l : List ℕ) → take (length n) (n ++ l) ≡ n
take_front n l = take-append_seam n l

drop_front : (n : List ℕ) (b : ℕ) (l : List ℕ) → drop (suc (length n)) (n ++ b ∷ l) ≡ l
drop_front [] b l = refl
drop_front (x ∷ n) b l = drop_front n b l

-- no names line has a line feed in it
named : Table → Bool
named t = all (λ b. not (eqb b line_feed)) (bytes_of t.names)

all_named : all named tables ≡ true
unfolding all named bytes_of
all_named = refl

-- ---- the loop over the list of tables

pub record TablesLoop (file before values starts counts : List ℕ) (t next at name : ℕ) (more : Bool) : Type 0 where
  pub asked : are_tables (drop t tables) (sections_left file more next) ≡ are_tables tables (sections_of (lines_of file))
  pub wrote : Written (tables_written tables (sections_of (lines_of file))) before values 0 at (tables_written (drop t tables) (sections_left file more next))
  pub began : take t starts ++ starts_from at (map rows_of (sections_left file more next)) ≡ starts_from 0 (tables_of file)
  pub counted : take t counts ++ map length (map rows_of (sections_left file more next)) ≡ map length (tables_of file)
  pub spelled : drop name (names_text tables) ≡ names_text (drop t tables)
  pub room : at + at ≤ next
  pub within : next ≤ length file + 1
  pub short : name ≤ length (names_text tables)
  pub few : t ≤ length tables
  pub starts_kept : length starts ≡ length tables
  pub counts_kept : length counts ≡ length tables
  pub kept : length values ≡ length before

pub tables_start : (file before : List ℕ) → TablesLoop file before before (replicate (length tables) 0) (replicate (length tables) 0) 0 0 0 0 true
unfolding sections_left tables_of
tables_start file before =
    record {
      asked = refl;
      wrote = written_start (tables_written tables (sections_of (lines_of file))) before 0;
      began = refl;
      counted = refl;
      spelled = refl;
      room = omega arith;
      within = omega arith;
      short = omega arith;
      few = omega arith;
      starts_kept = refl;
      counts_kept = refl;
      kept = refl;
    }

begun_put : (p l : List ℕ) → put_at 0 p l ≡ begun p l
unfolding put_at begun
begun_put p l = rw (zero-add (length p))

layout_refused : (file before after : List ℕ) (r : Layout) → r ≡ no_layout → are_tables tables (sections_of (lines_of file)) ≡ false
    → after ≡ put_at 0 (tables_written tables (sections_of (lines_of file))) before → LayoutRead file before r after
unfolding layout_of
layout_refused file before after r z h w =
    record {
      layout = z ∙ sym (rw h);
      wrote = w ∙ begun_put (tables_written tables (sections_of (lines_of file))) before;
      room = λ t. absurd (no r.ok (ap (λ (l : Layout). l.ok) z) t);
    }

module _
    (file before values starts counts : List ℕ)
    (t next at name : ℕ)
    (more : Bool)
    (inv : TablesLoop file before values starts counts t next at name more)
  where
    module _ (past : length tables ≤ t) where
      all_read : t ≡ length tables
      all_read = let f : t ≤ length tables = inv.few in omega arith

      none_left : tables_written (drop t tables) (sections_left file more next) ≡ []
      unfolding tables_written
      none_left = rw all_read

      -- more tables than there should be
      pub tables_more : more ≡ true → (r : Layout) → r ≡ no_layout → LayoutRead file before r values
      unfolding are_tables sections_left
      tables_more e r z =
          layout_refused file before values r z (sym inv.asked ∙ rw (all_read, e, sections_cons (lines_of (drop next file)))) (written_end inv.wrote none_left)

      pub tables_done : more ≡ false → LayoutRead file before (record { ok = true; starts = starts; counts = counts }) values
      unfolding are_tables sections_left starts_from layout_of tables_of
      tables_done e =
          let w : next ≤ length file + 1 = inv.within in
          let k : at + at ≤ next = inv.room in
          let ok : are_tables tables (sections_of (lines_of file)) ≡ true = sym inv.asked ∙ rw (all_read, e) in
          let begins : starts ≡ starts_from 0 (tables_of file) = sym (take_all t starts (omega (arith, inv.starts_kept))) ∙ sym (append-nil (take t starts)) ∙ ap (λ (l : List ℕ). take t starts ++ l) (rw e) ∙ inv.began in
          let counted : counts ≡ map length (tables_of file) = sym (take_all t counts (omega (arith, inv.counts_kept))) ∙ sym (append-nil (take t counts)) ∙ ap (λ (l : List ℕ). take t counts ++ l) (rw e) ∙ inv.counted in
          record {
            layout = rw (ok, ← begins, ← counted);
            wrote = written_end inv.wrote none_left ∙ begun_put (tables_written tables (sections_of (lines_of file))) before;
            room = λ q. omega (arith, written_place inv.wrote none_left, ap length (tables_written_lem tables (sections_of (lines_of file)) ok));
          }

    module _ (before_end : t < length tables) where
      tables_left : drop t tables ≡ table_at t ∷ drop (t + 1) tables
      tables_left = rest tables t no_table before_end

      pub tables_none : more ≡ false → (r : Layout) → r ≡ no_layout → LayoutRead file before r values
      unfolding are_tables sections_left tables_written
      tables_none z r q =
          layout_refused file before values r q (sym inv.asked ∙ rw (z, tables_left)) (written_end inv.wrote (rw (z, tables_left)))

      module _
          (names : List ℕ)
          (text : names ≡ names_text tables)
          (stop : ℕ)
          (place : stop ≡ name + position_of line_feed (tail_of names name))
        where
          e : ℕ
          e = position_of line_feed (tail_of names name)

          -- what is left of the names lines begins with this table's
          names_left : drop name names ≡ bytes_of (table_at t).names ++ line_feed ∷ names_text (drop (t + 1) tables)
          unfolding names_text
          names_left = rw text (inv.spelled ∙ rw tables_left)

          name_ends : e ≡ length (bytes_of (table_at t).names)
          unfolding named e
          name_ends =
              ap (position_of line_feed) (tail_is names name ∙ names_left)
              ∙ name_length (bytes_of (table_at t).names) (names_text (drop (t + 1) tables)) (all_at named tables t no_table before_end all_named)

          pub name_stops : stop ≡ name + length (bytes_of (table_at t).names)
          unfolding e
          name_stops = omega (arith, place, name_ends)

          pub name_is : take (stop - name) (drop name names) ≡ bytes_of (table_at t).names
          name_is =
              let k : stop - name ≡ length (bytes_of (table_at t).names) = omega (arith, name_stops) in
              rw (names_left, k) (take_front (bytes_of (table_at t).names) (line_feed ∷ names_text (drop (t + 1) tables)))

          pub name_room : stop + 1 ≤ length (names_text tables)
          name_room =
              omega (arith, length-drop name names, ap length names_left, ap length text, length-append (bytes_of (table_at t).names) (line_feed ∷ names_text (drop (t + 1) tables)), name_stops)

          pub name_start : name ≤ stop
          name_start = omega (arith, name_stops)

          pub name_within : stop ≤ length names
          name_within = omega (arith, name_room, ap length text)

          pub name_add : Fits w64 (stop + 1)
          unfolding names_text bytes_of
          name_add = let k : stop + 1 ≤ names_bytes = name_room in omega arith

          name_next : drop (stop + 1) (names_text tables) ≡ names_text (drop (t + 1) tables)
          name_next =
              let n = length (bytes_of (table_at t).names) in
              let k : stop + 1 ≡ name + suc n = omega (arith, name_stops) in
              rw (← text, k, ← drop-drop (suc n) name names, names_left)
              (drop_front (bytes_of (table_at t).names) line_feed (names_text (drop (t + 1) tables)))

          module _
              (again : more ≡ true)
              (rule : TableRule)
              (ruled : rule ≡ rule_of (table_at t))
              (r : TableRead)
              (after : List ℕ)
              (read : SectionRead file next (take (stop - name) (drop name names)) rule.fields at values r after)
            where
              section_is : r.ok ≡ is_table (table_at t) (section_from file next)
              unfolding rule_of
              section_is = read.answer ∙ rw (name_is, ruled) (sym (table_is (table_at t) (section_from file next)))

              left_is : sections_left file more next ≡ section_from file next ∷ sections_after file next
              unfolding sections_left section_from sections_after
              left_is = rw again (sections_cons (lines_of (drop next file)))

              -- what the table leaves to write
              still : tables_written (drop t tables) (sections_left file more next)
                  ≡ section_written (take (stop - name) (drop name names)) rule.fields (section_from file next) ++ cond r.ok (tables_written (drop (t + 1) tables) (sections_after file next)) []
              unfolding tables_written rule_of
              still = rw (left_is, tables_left, name_is, ruled, ← section_is)

              pub tables_bad : r.ok ≡ false → (l : Layout) → l ≡ no_layout → LayoutRead file before l after
              unfolding are_tables
              tables_bad z l q =
                  layout_refused file before after l q
                  (sym inv.asked ∙ rw (left_is, tables_left, ← section_is, z))
                  (written_end (written_more inv.wrote (section_written (take (stop - name) (drop name names)) rule.fields (section_from file next)) {more = []} (still ∙ rw z) (omega arith) read.wrote refl) refl)

              module _
                  (good : r.ok ≡ true)
                  (same_size : length after ≡ length values)
                where
                  rows_length : r.at ≡ at + length (joined (rows_of (section_from file next)))
                  unfolding rule_of
                  rows_length =
                      read.place good
                      ∙ ap (λ (l : List ℕ). at + length l) (section_written_lem (take (stop - name) (drop name names)) rule.fields (section_from file next) (sym read.answer ∙ good))

                  pub tables_next : TablesLoop file before after (set starts t at) (set counts t r.lines) (t + 1) r.next r.at (stop + 1) r.more
                  unfolding are_tables starts_from
                  tables_next =
                      let l = left_is in
                      let n = read.left good in
                      let i : t < length starts = omega (arith, inv.starts_kept) in
                      let j : t < length counts = omega (arith, inv.counts_kept) in
                      record {
                        asked = sym (sym inv.asked ∙ rw (l, tables_left, ← section_is, good, n));
                        wrote =
                            written_more inv.wrote (section_written (take (stop - name) (drop name names)) rule.fields (section_from file next)) {more = tables_written (drop (t + 1) tables) (sections_left file r.more r.next)} (still ∙ rw (good, n)) (omega arith) read.wrote (read.place good);
                        began =
                            rw (add-one t, take-suc-set starts t at i, append_assoc (take t starts) (at ∷ []), rows_length)
                            (sym (sym inv.began ∙ rw (l, n)));
                        counted =
                            rw (add-one t, take-suc-set counts t r.lines j, append_assoc (take t counts) (r.lines ∷ []), read.lines good)
                            (sym (sym inv.counted ∙ rw (l, n)));
                        spelled = name_next;
                        room = read.room good;
                        within = read.within good;
                        short = name_room;
                        few = omega arith;
                        starts_kept = length-set starts t at ∙ inv.starts_kept;
                        counts_kept = length-set counts t r.lines ∙ inv.counts_kept;
                        kept = same_size ∙ inv.kept;
                      }

    pub name_lies : (names : List ℕ) → names ≡ names_text tables → name ≤ length names
    name_lies names e = omega (arith, ap length e, inv.short)

    pub tables_space : length file + 1 ≤ length before + length before → length file + 1 ≤ length values + length values
    tables_space h = omega (arith, inv.kept)

pub names_count : (names : List ℕ) → names ≡ names_text tables → names_bytes ≡ length names
unfolding names_text bytes_of
names_count names e = sym (ap length e)
