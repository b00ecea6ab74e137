-- Laws of the answer, as the code asks for it: each question of the tables is asked of their places (`asked_places`), the loop over them is any
-- list's (`FirstNo` of `scene_questions`), and questions 1 and 2 come before. Then the parts of an answer. Assumes nothing.
use mathlib.Core.Path.{◌≡◌, refl, sym, ◌∙◌, ap}
use mathlib.Core.Bool.{Bool, true, false, cond, not, ◌&&◌, true≢false}
use mathlib.Core.List.{List, [], ◌∷◌}
use Prim.Native.Nat.{ℕ, ◌≤◌}
use native.Mathlib.Omega.{arith}
use borrow.Author.Tests.{eq-eqb, ne_eqb, eqb-true, not-true, not-false}
use lib.Dec.{eqb}
use lib.ListN.{length, get_or}
use Rattle.recordings.specs.Recordings.{Recordings, from_house, from_visitor}
use Rattle.limits.specs.Limits.{file_bytes}
use Rattle.scene_file.specs.declared.grammar.Layout.{Layout}
use Rattle.scene_tables.specs.Tables.{table_at, width, tracks, routes, sounds, placings, head_column}
use Rattle.scene_file.specs.Grammar.{tables_of}
use Rattle.scene_file.specs.Readings.{LayoutRead}
use Rattle.scene.specs.declared.scene.Scene.{Scene}
use Rattle.std.specs.Prelude.{Result, Ok, Err}
use Rattle.std.specs.Result.{IsErrAnd}
use Rattle.scene_reader.specs.declared.answer.Answer.{Answer}
use Rattle.scene_reader.specs.declared.answer.Question.{Question as Asked}
use Rattle.scene_reader.specs.declared.answer.Question.TheVariants.{Size, Spelling, Lines, Ranges, References, Depths, Twice, Sounds, Samples, Output}
use Rattle.scene_questions.specs.Questions.{Tables, Question, head_cell, size_ok, spelled_ok, depths_fit, routes_fit, placings_fit, sounds_fit, samples_ok, first_no, table_questions}
use Rattle.scene_questions.specs.Places.{rows_in, count_at, counts_fit, tables_pass, stored}
use Rattle.scene.specs.Scene.{scene_of}
use Rattle.scene.specs.Placed.{PlacingsOk}
use Rattle.accepted.proofs.laws.Placed.{placings_ok}
use Rattle.scene_reader.specs.Answer.{also, read_table_questions, number, number_of, said, read_questions, refusal, answered}
use Rattle.scene_questions.proofs.laws.FileSize.{size_small}
use Rattle.scene_questions.proofs.laws.FirstNo.{question_at, numbered, yes_at}
use Rattle.scene.proofs.laws.TablesInPlaces.{rows_placed, counts_are, ranges_are, references_are}
use Rattle.scene_reader.proofs.laws.Read.{layout_test, read_placed}

-- ---- the questions of the tables

pub by_blocks : (starts counts v : List ℕ) (b z : ℕ) (r : Bool) → b ≡ z → r ≡ tables_pass false (count_at counts) b starts counts v
    → r ≡ tables_pass false (count_at counts) z starts counts v
by_blocks starts counts v b z r e h = rw (← e) h

abbrev is_ok : Result (Unit {0}) Asked → Bool
is_ok (Ok _) = true
is_ok (Err e) = false

ok_or_err : (e : Asked) → ◌≡◌ {A = Result (Unit {0}) Asked} (Err e) (Ok tt) → ⊥
ok_or_err e h = true≢false (sym (ap is_ok h))

-- a refusal that `?` hands on
pub residual : (r : Result (Unit {0}) Asked) (e : Asked) → IsErrAnd r (λ x. x ≡ e) → number_of r ≡ number e
residual (Ok u) e h = absurd h
residual (Err x) e h = ap number h

-- what is no refusal
pub ok_of : (r : Result (Unit {0}) Asked) → ((e : Asked) → r ≡ Err e → ⊥) → r ≡ Ok tt
ok_of (Ok tt) h = refl
ok_of (Err e) h = absurd (h e refl)

pub number_some : (q : Asked) → number q ≡ 0 → ⊥
number_some Size h = absurd (omega arith)
number_some Spelling h = absurd (omega arith)
number_some Lines h = absurd (omega arith)
number_some Ranges h = absurd (omega arith)
number_some References h = absurd (omega arith)
number_some Depths h = absurd (omega arith)
number_some Twice h = absurd (omega arith)
number_some Sounds h = absurd (omega arith)
number_some Samples h = absurd (omega arith)
number_some Output h = absurd (omega arith)

-- n is the number of the first of these questions that says no
pub record First (n : ℕ) (qs : List Question) : Type 0 where
  pub is : n ≡ first_no qs

-- a question that says yes, one that says no, and the last
module _ {b t : Bool} (question : Asked) (isb : b ≡ t) {r : Result (Unit {0}) Asked} (isr : r ≡ said b question) where
  by_test : r ≡ said t question
  by_test = isr ∙ ap (λ (x : Bool). said x question) isb

  pub said_yes : r ≡ Ok tt → {n : ℕ} {qs : List Question} → First n qs → First n ((number question, t) ∷ qs)
  unfolding first_no
  said_yes ok {n} {qs} e = record { is = go t (sym by_test ∙ ok) }
    where
      go : (x : Bool) → said x question ≡ Ok tt → n ≡ cond x (first_no qs) (number question)
      go true h = e.is
      go false h = absurd (ok_or_err question h)

  pub said_no : {e : Asked} → r ≡ Err e → {n : ℕ} {qs : List Question} → n ≡ number e → First n ((number question, t) ∷ qs)
  unfolding first_no
  said_no {e} err {n} {qs} q = record { is = go t (sym by_test ∙ err) }
    where
      go : (x : Bool) → said x question ≡ Err e → n ≡ cond x (first_no qs) (number question)
      go true h = absurd (ok_or_err e (sym h))
      go false h = q ∙ ap number_of (sym h)

  pub said_last : First (number_of r) ((number question, t) ∷ [])
  unfolding first_no
  said_last = record { is = ap number_of by_test ∙ go t }
    where
      go : (x : Bool) → number_of (said x question) ≡ cond x 0 (number question)
      go true = refl
      go false = refl

module _ (starts counts v : List ℕ) (samples : Recordings) (whole visitor_whole : Bool) where
  abbrev pub asked : List Question
  asked = read_table_questions (stored starts counts v) samples whole visitor_whole

  -- the rows of a table in its place
  abbrev pub placed : ℕ → List (List ℕ)
  placed t = rows_in v (get_or starts t 0) (width (table_at t)) (get_or counts t 0)

  -- the same questions, as the code asks them
  unfoldable pub by_places : List Question
  by_places =
      (3, counts_fit counts)
      ∷ (4, tables_pass false (count_at counts) (head_cell (stored starts counts v) head_column.blocks) starts counts v)
      ∷ (5, tables_pass true (count_at counts) 0 starts counts v)
      ∷ (6, depths_fit (placed tracks))
      ∷ (7, routes_fit (placed routes))
      ∷ (7, placings_fit (placed placings))
      ∷ (8, whole && sounds_fit (placed sounds) from_house samples.house)
      ∷ (8, visitor_whole && sounds_fit (placed sounds) from_visitor samples.visitor)
      ∷ (9, samples_ok samples.house)
      ∷ (9, samples_ok samples.visitor)
      ∷ []

  asked_places : asked ≡ by_places
  unfolding also read_table_questions table_questions by_places
  asked_places =
      rw (counts_are starts counts v, ranges_are starts counts v (count_at counts), references_are starts counts v 0, rows_placed starts counts v tracks (omega arith), rows_placed starts counts v routes (omega arith), rows_placed starts counts v placings (omega arith), rows_placed starts counts v sounds (omega arith))

  pub at_places : {n : ℕ} → First n by_places → n ≡ first_no asked
  at_places e = e.is ∙ ap first_no (sym asked_places)

  asked_numbered : numbered asked ≡ true
  unfolding numbered also read_table_questions table_questions
  asked_numbered = refl

-- ---- questions 1 to 9

module _ (file : List ℕ) (samples : Recordings) (whole visitor_whole : Bool) where
  abbrev pub all : List Question
  all = read_questions file samples whole visitor_whole

  pub answered_1 : (b : Bool) (r : Answer) → b ≡ size_ok file → not b ≡ true → r ≡ refusal 1 → r ≡ answered file (first_no all)
  unfolding answered read_questions first_no
  answered_1 b r e h p = rw (← e, not-true b h) p

  module _ (a : Bool) (isa : a ≡ size_ok file) (yes_a : not a ≡ false) where
    pub small_file : length file ≤ file_bytes
    small_file = size_small file (sym isa ∙ not-false a yes_a)

    module _ (before : List ℕ) (l : Layout) (after : List ℕ) (read : LayoutRead file before l after) where
      pub answered_2 : (r : Answer) → not l.ok ≡ true → r ≡ refusal 2 → r ≡ answered file (first_no all)
      unfolding answered read_questions first_no spelled_ok
      answered_2 r h p = rw (← isa, not-false a yes_a, layout_test file before l after read ∙ not-true l.ok h) p

      module _ (yes_l : not l.ok ≡ false) (n : ℕ) (isn : n ≡ first_no (asked l.starts l.counts after samples whole visitor_whole)) where
        good : l.ok ≡ true
        good = not-false l.ok yes_l

        first_is : first_no all ≡ n
        unfolding read_questions first_no spelled_ok
        first_is =
            rw (← isa, not-false a yes_a, layout_test file before l after read ∙ good)
            (sym (isn ∙ ap (λ (ts : Tables). first_no (read_table_questions ts samples whole visitor_whole)) (read_placed file before l after read good)))

        pub answered_n : (r : Answer) → (n ≡ 0 → ⊥) → r ≡ refusal n → r ≡ answered file (first_no all)
        unfolding answered
        answered_n r h p = rw (first_is, ne_eqb n 0 h) p

        -- question 3 said yes
        pub counts_known : n ≡ 0 → counts_fit l.counts ≡ true
        unfolding by_places
        counts_known h =
            let q = asked_places l.starts l.counts after samples whole visitor_whole in
            sym (ap (λ (p : List Question). (question_at p 0).1) q)
            ∙ yes_at (asked l.starts l.counts after samples whole visitor_whole) (asked_numbered l.starts l.counts after samples whole visitor_whole) (sym isn ∙ h) 0

        -- and 4 and 5 did
        pub placings_known : n ≡ 0 → PlacingsOk (stored l.starts l.counts after)
        unfolding also read_table_questions table_questions
        placings_known h =
            let yes : (i : ℕ) → (question_at (asked l.starts l.counts after samples whole visitor_whole) i).1 ≡ true =
            yes_at (asked l.starts l.counts after samples whole visitor_whole) (asked_numbered l.starts l.counts after samples whole visitor_whole) (sym isn ∙ h) in
            placings_ok (stored l.starts l.counts after) (yes 0) (yes 1) (yes 2)

        pub answered_0 : n ≡ 0 → (s : Scene) → s ≡ scene_of (stored l.starts l.counts after) → ◌≡◌ {A = Answer} (record { number = 0; scene = s }) (answered file (first_no all))
        unfolding answered
        answered_0 h s e = rw (first_is, eq-eqb n 0 h, e, read_placed file before l after read good)

-- ---- an answer's parts

module _ (file : List ℕ) (n : ℕ) {r : Answer} (e : r ≡ answered file n) where
  by_number : (b : Bool) → eqb n 0 ≡ b → (cond b (record { number = 0; scene = scene_of (tables_of file) }) (refusal n)).number ≡ n
  unfolding refusal
  by_number true t = sym (eqb-true n 0 t)
  by_number false t = refl

  pub answered_number : r.number ≡ n
  unfolding answered
  answered_number = ap (λ (x : Answer). x.number) e ∙ by_number (eqb n 0) refl

  pub answered_scene : r.number ≡ 0 → r.scene ≡ scene_of (tables_of file)
  unfolding answered
  answered_scene z =
      ap (λ (x : Answer). x.scene) e
      ∙ ap (λ (m : ℕ). (cond (eqb m 0) (record { number = 0; scene = scene_of (tables_of file) }) (refusal m)).scene) (sym answered_number ∙ z)
