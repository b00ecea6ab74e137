-- Laws of the answer: the questions before it, and the tables of a file that is well spelled. Assumes nothing.
use mathlib.Core.Path.{◌≡◌, refl, sym, ◌∙◌, ap}
use mathlib.Core.Bool.{Bool, true, false, cond}
use mathlib.Core.List.{List, [], ◌∷◌}
use Prim.Native.Nat.{ℕ, ◌≤◌}
use native.Mathlib.Omega.{arith}
use borrow.Author.Tests.{eq-eqb, ne_eqb}
use lib.Dec.{eqb, lit<}
use lib.ListN.{length, get_or}
use Rattle.recordings.specs.Recordings.{Recordings}
use Rattle.laws.specs.Loop.{changed}
use Rattle.scene_tables.specs.Tables.{tracks}
use Rattle.scene_file.specs.declared.grammar.Layout.{Layout}
use Rattle.scene_file.specs.Grammar.{tables_of}
use Rattle.scene_file.specs.Readings.{LayoutRead}
use Rattle.scene_questions.specs.Questions.{Tables, lines_at, size_ok, spelled_ok, first_no, input_questions}
use Rattle.scene_questions.specs.Places.{stored, Low, places_most}
use Rattle.scene_questions.proofs.laws.FileSize.{size_small}
use Rattle.scene_questions.proofs.laws.FirstNo.{refused_first, passed_first, yes_at}
use Rattle.scene.proofs.laws.TablesInPlaces.{lines_placed}
use Rattle.scene_reader.specs.declared.answer.Answer.{Answer}
use Rattle.scene_reader.specs.Answer.{read_questions, answered}
use Rattle.scene_reader.proofs.laws.Also.{read_whole, input_numbered}
use Rattle.scene_reader.proofs.laws.Answer.{answered_number}
use Rattle.scene_reader.proofs.laws.Read.{layout_test, read_placed, read_low}
use Rattle.silent_tracks.specs.Silence.{silence_of, silent_answer, silences_of}
use Rattle.muted_or_held.proofs.laws.Places.{table_low}

abbrev pub room : List ℕ → List ℕ → Bool
room file numbers = eqb (length numbers) (lines_at (tables_of file) tracks)

abbrev pub silences : List ℕ → List ℕ → List ℕ
silences file numbers = changed (λ t z. silence_of (tables_of file) t) (length numbers) numbers

-- ---- after questions 1 to 9

module _ (file : List ℕ) (samples : Recordings) (numbers : List ℕ) (r : Answer) (read : r ≡ answered file (first_no (read_questions file samples true true))) where
  number_is : r.number ≡ first_no (input_questions file samples)
  number_is = answered_number file (first_no (read_questions file samples true true)) read ∙ ap first_no (read_whole file samples)

  module _ (no : r.number ≡ 0 → ⊥) where
    pub refused_number : r.number ≡ silent_answer file samples (length numbers)
    unfolding silent_answer
    refused_number = number_is ∙ sym (refused_first (input_questions file samples) ((10, room file numbers) ∷ []) (λ e. no (number_is ∙ e)))

    pub refused_unwritten : numbers ≡ silences_of file samples numbers
    unfolding silences_of
    refused_unwritten = rw (ne_eqb (silent_answer file samples (length numbers)) 0 (λ e. no (refused_number ∙ e)))

  module _ (yes_r : r.number ≡ 0) where
    passed : first_no (input_questions file samples) ≡ 0
    passed = sym number_is ∙ yes_r

    pub well_sized : size_ok file ≡ true
    unfolding input_questions
    well_sized = yes_at (input_questions file samples) (input_numbered file samples) passed 0

    pub well_spelled : spelled_ok file ≡ true
    unfolding input_questions
    well_spelled = yes_at (input_questions file samples) (input_numbered file samples) passed 1

    last_asked : silent_answer file samples (length numbers) ≡ cond (room file numbers) 0 10
    unfolding silent_answer first_no
    last_asked = passed_first (input_questions file samples) ((10, room file numbers) ∷ []) (input_numbered file samples) passed

    pub answered_last : (n : ℕ) → n ≡ cond (room file numbers) 0 10 → n ≡ silent_answer file samples (length numbers)
    answered_last n e = e ∙ sym last_asked

    pub written_last : (after : List ℕ) → after ≡ cond (room file numbers) (silences file numbers) numbers → after ≡ silences_of file samples numbers
    unfolding silences_of
    written_last after e = e ∙ rw last_asked (go (room file numbers))
      where
        go : (b : Bool) → cond b (silences file numbers) numbers ≡ cond (eqb (cond b 0 10) 0) (silences file numbers) numbers
        go true = refl
        go false = refl

-- ---- a file that is well spelled

module _ (file before : List ℕ) (l : Layout) (after : List ℕ) (read : LayoutRead file before l after) (sized : size_ok file ≡ true) (spelled : spelled_ok file ≡ true) where
  ok : l.ok ≡ true
  unfolding spelled_ok
  ok = sym (layout_test file before l after read) ∙ spelled

  pub layout_low : Low l.starts l.counts
  layout_low = read_low file before l after read ok (size_small file sized)

  tables_are : stored l.starts l.counts after ≡ tables_of file
  tables_are = read_placed file before l after read ok

  count_is : get_or l.counts tracks 0 ≡ lines_at (tables_of file) tracks
  count_is = sym (lines_placed l.starts l.counts after tracks (lit< tt)) ∙ ap (λ (ts : Tables). lines_at ts tracks) tables_are

  module _ (numbers : List ℕ) where
    pub few_tracks : length numbers ≡ get_or l.counts tracks 0 → length numbers ≤ places_most
    few_tracks e = omega (arith, e, table_low tracks (lit< tt) l.starts l.counts layout_low)

    no_room : (length numbers ≡ get_or l.counts tracks 0 → ⊥) → room file numbers ≡ false
    no_room h = ne_eqb (length numbers) (lines_at (tables_of file) tracks) (λ e. h (e ∙ sym count_is))

    has_room : length numbers ≡ get_or l.counts tracks 0 → room file numbers ≡ true
    has_room e = eq-eqb (length numbers) (lines_at (tables_of file) tracks) (e ∙ count_is)

    pub refused_10 : (length numbers ≡ get_or l.counts tracks 0 → ⊥) → ◌≡◌ {A = ℕ} 10 (cond (room file numbers) 0 10)
    refused_10 h = rw (no_room h)

    pub unwritten_10 : (length numbers ≡ get_or l.counts tracks 0 → ⊥) → numbers ≡ cond (room file numbers) (silences file numbers) numbers
    unwritten_10 h = rw (no_room h)

    pub accepted_10 : length numbers ≡ get_or l.counts tracks 0 → ◌≡◌ {A = ℕ} 0 (cond (room file numbers) 0 10)
    accepted_10 e = rw (has_room e)

    pub written_10 : length numbers ≡ get_or l.counts tracks 0 → (w : List ℕ) → w ≡ changed (λ t z. silence_of (stored l.starts l.counts after) t) (length numbers) numbers
        → w ≡ cond (room file numbers) (silences file numbers) numbers
    written_10 e w h = rw (has_room e) (h ∙ ap (λ (ts : Tables). changed (λ t z. silence_of ts t) (length numbers) numbers) tables_are)
