-- Laws of the first question that says no: of questions that follow others, and of all that say yes. Each is over any list none of whose numbers is 0 (`numbered`), so that a question more changes no law.
use mathlib.Core.Path.{◌≡◌, refl, sym, ◌∙◌}
use mathlib.Core.Bool.{Bool, true, false, cond, not, ◌&&◌}
use mathlib.Core.List.{List, [], ◌∷◌, ◌++◌}
use Prim.Native.Nat.{ℕ, zero, suc}
use borrow.Author.Tests.{eqb-false, not-true}
use lib.Dec.{eqb}
use lib.ListN.{get_or}
use Rattle.laws.proofs.laws.Choice.{and_left, and_right}
use Rattle.scene_questions.specs.Questions.{Question, first_no}

-- no number is 0, which says that all say yes
unfoldable pub numbered : List Question → Bool
numbered [] = true
numbered (q ∷ qs) = not (eqb q.0 0) && numbered qs

module _ (q : Question) (qs : List Question) (some : numbered (q ∷ qs) ≡ true) where
  pub first_numbered : q.0 ≡ 0 → ⊥
  unfolding numbered
  first_numbered = eqb-false q.0 0 (not-true (eqb q.0 0) (and_left (not (eqb q.0 0)) (numbered qs) some))

  pub rest_numbered : numbered qs ≡ true
  unfolding numbered
  rest_numbered = and_right (not (eqb q.0 0)) (numbered qs) some

-- ---- all say yes

-- the question at a place of a list, counted from 0; beyond the list one that says yes
abbrev pub question_at : List Question → ℕ → Question
question_at questions i = get_or questions i (0, true)

pub yes_at : (qs : List Question) → numbered qs ≡ true → first_no qs ≡ 0 → (i : ℕ) → (question_at qs i).1 ≡ true
unfolding first_no
yes_at [] o e i = refl
yes_at (q ∷ qs) o e i = go q.1 refl e i (yes_at qs (rest_numbered q qs o))
  where
    go : (b : Bool) → q.1 ≡ b → cond b (first_no qs) q.0 ≡ 0 → (i : ℕ) → (first_no qs ≡ 0 → (j : ℕ) → (question_at qs j).1 ≡ true)
        → (question_at (q ∷ qs) i).1 ≡ true
    go true h e zero ih = h
    go true h e (suc i) ih = ih e i
    go false h e i ih = absurd (first_numbered q qs o e)

-- ---- questions that follow others

pub refused_first : (qs rs : List Question) → (first_no qs ≡ 0 → ⊥) → first_no (qs ++ rs) ≡ first_no qs
unfolding first_no
refused_first [] rs h = absurd (h refl)
refused_first (q ∷ qs) rs h = go q.1 h (refused_first qs rs)
  where
    go : (b : Bool) → (cond b (first_no qs) q.0 ≡ 0 → ⊥) → ((first_no qs ≡ 0 → ⊥) → first_no (qs ++ rs) ≡ first_no qs)
        → cond b (first_no (qs ++ rs)) q.0 ≡ cond b (first_no qs) q.0
    go true h ih = ih h
    go false h ih = refl

pub passed_first : (qs rs : List Question) → numbered qs ≡ true → first_no qs ≡ 0 → first_no (qs ++ rs) ≡ first_no rs
unfolding first_no
passed_first [] rs o e = refl
passed_first (q ∷ qs) rs o e =
    rw (yes_at (q ∷ qs) o e 0)
    (passed_first qs rs (rest_numbered q qs o) (sym (rw (yes_at (q ∷ qs) o e 0)) ∙ e))
