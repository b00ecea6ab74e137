-- Laws of questions with a further test: where all say yes with it, all do without it; and samples that are whole. Assumes nothing.
use mathlib.Core.Path.{◌≡◌, refl}
use mathlib.Core.Bool.{Bool, true, false, cond, ◌&&◌}
use mathlib.Core.List.{List, [], ◌∷◌}
use Prim.Native.Nat.{ℕ, zero, suc, ◌+◌}
use Rattle.recordings.specs.Recordings.{Recordings}
use Rattle.scene_questions.specs.Questions.{Question, first_no, table_questions, input_questions}
use Rattle.scene_questions.proofs.laws.FirstNo.{numbered, first_numbered, rest_numbered}
use Rattle.scene_reader.specs.Answer.{also, house_sounds, visitor_sounds, read_table_questions, read_questions}

-- all say yes, with a further test
also_passed : (k : ℕ) (test : Bool) (qs : List Question) → numbered qs ≡ true → first_no (also k test qs) ≡ 0 → first_no qs ≡ 0
unfolding also first_no
also_passed zero test [] o e = refl
also_passed zero test (q ∷ qs) o e = go test q.1 e
  where
    go : (a b : Bool) → cond (a && b) (first_no qs) q.0 ≡ 0 → cond b (first_no qs) q.0 ≡ 0
    go true b e = e
    go false true e = absurd (first_numbered q qs o e)
    go false false e = e
also_passed (suc k) test [] o e = refl
also_passed (suc k) test (q ∷ qs) o e = go q.1 e (also_passed k test qs (rest_numbered q qs o))
  where
    go : (b : Bool) → cond b (first_no (also k test qs)) q.0 ≡ 0 → (first_no (also k test qs) ≡ 0 → first_no qs ≡ 0) → cond b (first_no qs) q.0 ≡ 0
    go true e ih = ih e
    go false e ih = e

module _ (file : List ℕ) (samples : Recordings) where
  pub input_numbered : numbered (input_questions file samples) ≡ true
  unfolding numbered input_questions table_questions
  input_numbered = refl

  -- whole samples
  pub read_whole : read_questions file samples true true ≡ input_questions file samples
  unfolding also read_questions read_table_questions input_questions table_questions
  read_whole = refl

  module _ (whole visitor_whole : Bool) where
    pub read_numbered : numbered (read_questions file samples whole visitor_whole) ≡ true
    unfolding numbered also read_questions read_table_questions table_questions
    read_numbered = refl

    visitor_numbered : numbered (also (2 + visitor_sounds) visitor_whole (input_questions file samples)) ≡ true
    unfolding numbered also input_questions table_questions
    visitor_numbered = refl

    -- two questions are asked before those of the tables
    pub read_passed : first_no (read_questions file samples whole visitor_whole) ≡ 0 → first_no (input_questions file samples) ≡ 0
    unfolding also read_questions read_table_questions input_questions
    read_passed e =
        also_passed (2 + visitor_sounds) visitor_whole (input_questions file samples) input_numbered
        (also_passed (2 + house_sounds) whole (also (2 + visitor_sounds) visitor_whole (input_questions file samples)) visitor_numbered e)
