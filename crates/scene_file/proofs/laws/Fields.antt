-- Laws of a line's fields: what is left of them from a place on, and the loop that reads them.
use mathlib.Core.Path.{◌≡◌, refl, sym, ◌∙◌, ap}
use mathlib.Core.Bool.{Bool, true, false, cond, false≢true}
use mathlib.Core.List.{List, [], ◌∷◌}
use Rattle.std.specs.Prelude.{Option, Some, None}
use Prim.Native.Nat.{ℕ, suc, ◌+◌, ◌*◌, ◌^◌, ◌<◌, ◌≤◌}
use native.Mathlib.Nat.{add-zero, add-suc}
use native.Mathlib.Numerals.{add-one}
use native.Mathlib.Omega.{arith}
use borrow.Author.Tests.{le-leb, lt-leb, lt-ltb, eqb-true}
use lib.Dec.{eqb, leb, ltb, leb-suc-suc, leb-zero}
use lib.ListN.{length, take, drop, set, length-take, length-drop, length-set}
use mir.Syntax.{w64}
use mir.Val.{Fits}
use lib.Seq.{drop-drop}
use Rattle.laws.proofs.laws.Choice.{and_false, and_true}
use Rattle.scene_tables.specs.Bytes.{all, onto}
use Rattle.scene_file.specs.Grammar.{space, parted, fields_of, is_number, value_of, is_row}
use Rattle.scene_file.specs.Readings.{position_of, number_of, numbers_of, RowRead, tail_of}
use Rattle.scene_file.proofs.laws.Numbers.{position_within}
use Rattle.laws.proofs.laws.Pieces.{set_put}
use Rattle.scene_file.proofs.laws.Written.{Written, written_start, written_more, written_end}
use Rattle.scene_file.proofs.laws.Tails.{leb_same, tail_is, tail_length}

-- ---- fields by places

-- the first field ends at the first space, and the others are the fields of what follows it
pub fields_at : (l : List ℕ) → fields_of l ≡ take (position_of space l) l ∷ cond (ltb (position_of space l) (length l)) (fields_of (drop (suc (position_of space l)) l)) []
unfolding fields_of parted position_of onto
fields_at [] = refl
fields_at (x ∷ l) = go (eqb x space) refl (fields_at l)
  where
    go : (b : Bool) → eqb x space ≡ b
        → parted (λ b. eqb b space) l ≡ take (position_of space l) l ∷ cond (ltb (position_of space l) (length l)) (parted (λ b. eqb b space) (drop (suc (position_of space l)) l)) []
        → parted (λ b. eqb b space) (x ∷ l) ≡ take (position_of space (x ∷ l)) (x ∷ l) ∷ cond (ltb (position_of space (x ∷ l)) (length (x ∷ l))) (parted (λ b. eqb b space) (drop (suc (position_of space (x ∷ l))) (x ∷ l))) []
    go true e ih = rw (e, lt-ltb 0 (length (x ∷ l)) (omega arith))
    go false e ih = rw (e, ih, leb-suc-suc (suc (position_of space l)) (length l))

-- the fields from a place on; none past the end
unfoldable pub fields_left : List ℕ → ℕ → List (List ℕ)
fields_left line from = cond (leb from (length line)) (fields_of (drop from line)) []

pub fields_start : (line : List ℕ) → fields_left line 0 ≡ fields_of line
unfolding fields_left
fields_start line = rw (leb-zero (length line))

pub fields_end : (line : List ℕ) (from : ℕ) → length line < from → fields_left line from ≡ []
unfolding fields_left
fields_end line from h = rw (lt-leb from (length line) h)

pub fields_next : (line : List ℕ) (from n : ℕ) → from ≤ length line → n ≡ position_of space (tail_of line from)
    → fields_left line from ≡ take n (tail_of line from) ∷ fields_left line (from + n + 1)
unfolding fields_left
fields_next line from n h e =
    let l = drop from line in
    let p : n ≡ position_of space l = e ∙ ap (position_of space) (tail_is line from) in
    rw (le-leb from (length line) h, tail_is line from) (
    fields_at l
    ∙ rw (← p, leb_same (suc n) (length l) (from + n + 1) (length line) (λ k. omega (arith, length-drop from line)) (λ k. omega (arith, length-drop from line)), drop-drop (suc n) from line, add-one (from + n), ← add-suc from n)
    )

-- ---- a field that is a number, and one that is none

num_cases : (b : Bool) (n z : ℕ) → cond b (Some n) None ≡ Some z → (b ≡ true) × (n ≡ z)
num_cases true n z e = (refl, cc)
num_cases false n z e = let q : ◌≡◌ {A = ℕ} 0 1 = cc in absurd (omega arith)

num_not : (b : Bool) (n : ℕ) → cond b (Some n) None ≡ None → b ≡ false
num_not true n e = let q : ◌≡◌ {A = ℕ} 0 1 = cc in absurd (omega arith)
num_not false n e = refl

pub number_known : (t : List ℕ) (r : Option ℕ) (z : ℕ) → r ≡ number_of t → r ≡ Some z → (is_number t ≡ true) × (value_of t ≡ z)
unfolding number_of
number_known t r z e k = num_cases (is_number t) (value_of t) z (sym e ∙ k)

pub number_none : (t : List ℕ) (r : Option ℕ) → r ≡ number_of t → r ≡ None → is_number t ≡ false
unfolding number_of
number_none t r e k = num_not (is_number t) (value_of t) (sym e ∙ k)

pub number_filled : (t : List ℕ) → is_number t ≡ true → 0 < length t
unfolding is_number
number_filled [] e = let q : ◌≡◌ {A = ℕ} 0 1 = cc in absurd (omega arith)
number_filled (b ∷ t) e = omega arith

-- ---- the loop that reads a line

-- `before` is the buffer as the loop begins, `values` as it is, j the fields read, `from` where the next one begins
pub record RowLoop (line : List ℕ) (at : ℕ) (before values : List ℕ) (j from : ℕ) : Type 0 where
  pub counted : j + length (fields_left line from) ≡ length (fields_of line)
  pub numbers : all is_number (fields_left line from) ≡ all is_number (fields_of line)
  pub wrote : Written (numbers_of (fields_of line)) before values at (at + j) (numbers_of (fields_left line from))
  pub small : j + j ≤ from
  pub within : from ≤ length line + 1
  pub kept : length values ≡ length before

pub row_start : (line : List ℕ) (at : ℕ) (before : List ℕ) → RowLoop line at before before 0 0
row_start line at before =
    record {
      counted = rw (fields_start line) (omega arith);
      numbers = rw (fields_start line);
      wrote = rw (fields_start line, add-zero at) (written_start (numbers_of (fields_of line)) before at);
      small = omega arith;
      within = omega arith;
      kept = refl;
    }

module _
    (line : List ℕ)
    (at : ℕ)
    (before values : List ℕ)
    (j from n : ℕ)
    (r : Option ℕ)
    (room : at + at + length line + 1 ≤ length before + length before)
    (inv : RowLoop line at before values j from)
    (more : from ≤ length line)
    (place : n ≡ position_of space (tail_of line from))
    (read : r ≡ number_of (take n (tail_of line from)))
  where
    row_filled : is_number (take n (tail_of line from)) ≡ true → 0 < n
    row_filled e = omega (arith, length-take n (tail_of line from), number_filled (take n (tail_of line from)) e)

    row_fits : from + n ≤ length line
    row_fits = omega (arith, tail_length line from, position_within space (tail_of line from), place)

    pub row_add_from : length line * 1 < 2 ^ 63 → Fits w64 (from + n)
    row_add_from h = let g : from + n ≤ length line = row_fits in omega arith

    pub row_add_one : length line * 1 < 2 ^ 63 → Fits w64 (from + n + 1)
    row_add_one h = let g : from + n ≤ length line = row_fits in omega arith

    pub row_room : (z : ℕ) → r ≡ Some z → at + j < length values
    row_room z k =
        let e = (number_known (take n (tail_of line from)) r z read k).0 in
        let f : 0 < n = row_filled e in
        let g : from + n ≤ length line = row_fits in
        let s : j + j ≤ from = inv.small in
        let l : length values ≡ length before = inv.kept in
        omega arith

    pub row_add_place : (z : ℕ) → r ≡ Some z → length before * 4 < 2 ^ 63 → Fits w64 (at + j)
    row_add_place z k h = let i : at + j < length values = row_room z k in let l : length values ≡ length before = inv.kept in omega arith

    pub row_mul_place : (z : ℕ) → r ≡ Some z → length before * 4 < 2 ^ 63 → Fits w64 ((at + j) * 4)
    row_mul_place z k h = let i : at + j < length values = row_room z k in let l : length values ≡ length before = inv.kept in omega arith

    pub row_next : (z : ℕ) → r ≡ Some z → RowLoop line at before (set values (at + j) z) (j + 1) (from + n + 1)
    unfolding all numbers_of
    row_next z k =
        let e = number_known (take n (tail_of line from)) r z read k in
        let f : 0 < n = row_filled e.0 in
        let g : from + n ≤ length line = row_fits in
        let s : j + j ≤ from = inv.small in
        let i : at + j < length values = row_room z k in
        let step = fields_next line from n more place in
        record {
          counted = omega (arith, ap length step, inv.counted);
          numbers = sym (sym inv.numbers ∙ rw (step, all, e.0));
          wrote = written_more inv.wrote (z ∷ []) (rw (step, e.0, e.1)) (omega arith) (set_put values (at + j) z i) (omega arith);
          small = omega arith;
          within = omega arith;
          kept = length-set values (at + j) z ∙ inv.kept;
        }

    pub row_bad : (width : ℕ) → r ≡ None → RowRead line width at before false values
    unfolding is_row all numbers_of
    row_bad width k =
        let e = number_none (take n (tail_of line from)) r read k in
        let step = fields_next line from n more place in
        record {
          answer = sym (rw (← inv.numbers, step, all, e) (and_false (eqb (length (fields_of line)) width)));
          wrote = written_end inv.wrote (rw (step, e));
          room = λ q. absurd (false≢true q);
        }

pub row_done : (line : List ℕ) (width at : ℕ) (before values : List ℕ) (j from : ℕ) → RowLoop line at before values j from → length line < from
    → RowRead line width at before (eqb j width) values
unfolding is_row all numbers_of
row_done line width at before values j from inv past =
    let none = fields_end line from past in
    let len : length (fields_of line) ≡ j = sym inv.counted ∙ rw none (add-zero j) in
    let s : j + j ≤ from = inv.small in
    let w : from ≤ length line + 1 = inv.within in
    record {
      answer = sym (rw (len, ← inv.numbers, none, all) (and_true (eqb j width)));
      wrote = written_end inv.wrote (rw none);
      room = λ q. let f : j ≡ width = eqb-true j width q in omega arith;
    }
