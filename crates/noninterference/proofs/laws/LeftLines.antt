-- A table's lines once some are removed and references are counted anew, and where they stand in the scene. One lemma each for all tables. A field that
-- is not there reads 0, and 0 stays 0, so that nothing is asked of a line's width. Assumes nothing.
use mathlib.Core.Path.{◌≡◌, refl, sym, ap, ◌∙◌, subst}
use mathlib.Core.Logic.{◌≢◌}
use mathlib.Core.Bool.{Bool, true, false, not, cond}
use mathlib.Core.List.{List, [], ◌∷◌, ◌++◌, map}
use Prim.Native.Nat.{ℕ, zero, suc, ◌-◌, ◌<◌}
use native.Mathlib.Omega.{arith}
use lib.Dec.{T, T_not, eqb}
use lib.Ieee.Fits.{eq→eqb}
use lib.ListN.{length, get_or, set, replicate}
use lib.Seq.{get_or-set_other}
use Rattle.laws.specs.Loop.{changed}
use Rattle.laws.proofs.laws.Loop.{changed-length, changed_below, changed-map}
use Rattle.laws.specs.Kept.{rank, kept_of}
use Rattle.laws.proofs.laws.Kept.{rank_lt, kept_of-length, kept_of_at}
use Rattle.scene_tables.specs.Tables.{natural, raised}
use Rattle.scene_questions.specs.Questions.{field}
use Rattle.scene.specs.Scene.{filled}
use Rattle.accepted.proofs.laws.Line.{every_place}
use Rattle.noninterference.specs.Removed.{new_line, renumbered, lines_left}
use Rattle.noninterference.proofs.laws.Lines.{new_line_zero}

-- two numerals that are not the same
pub differ : {j k : ℕ} → T (not (eqb j k)) → j ≢ k
differ {j} {k} t e = T_not (eqb j k) t (eq→eqb e)

-- ---- a field counted anew

pub natural_plus : (n : ℕ) → natural (raised n) ≡ n
natural_plus n = omega arith

changed_field : (g : ℕ → ℕ) → g 0 ≡ 0 → (row : List ℕ) (j : ℕ) → natural (field (set row j (raised (g (natural (field row j))))) j) ≡ g (natural (field row j))
changed_field g z [] j = sym z
changed_field g z (x ∷ row) zero = natural_plus (g (natural x))
changed_field g z (x ∷ row) (suc j) = changed_field g z row j

module _ (keep : ℕ → Bool) (j : ℕ) (row : List ℕ) where
  pub counted_field : natural (field (renumbered keep j row) j) ≡ new_line keep (natural (field row j))
  unfolding renumbered
  counted_field = changed_field (new_line keep) (new_line_zero keep) row j

  pub counted_other : (k : ℕ) → k ≢ j → field (renumbered keep j row) k ≡ field row k
  unfolding renumbered
  counted_other k h = get_or-set_other row j k (raised (new_line keep (natural (field row j)))) 0 h

-- ---- the lines left

module _ (keep : ℕ → Bool) (g : ℕ → List ℕ → List ℕ) (rows : List (List ℕ)) where
  pub left_length : length (lines_left keep g rows) ≡ rank keep (length rows)
  unfolding lines_left
  left_length = kept_of-length keep (changed g (length rows) rows) ∙ ap (rank keep) (changed-length g (length rows) rows)

  pub left_at : (i : ℕ) → i < length rows → T (keep i) → get_or (lines_left keep g rows) (rank keep i) [] ≡ g i (get_or rows i [])
  unfolding lines_left
  left_at i h t = kept_of_at keep (changed g (length rows) rows) i [] t (rw changed-length h) ∙ changed_below g (length rows) rows i [] h h

pub left_count : (keep : ℕ → Bool) (g : ℕ → List ℕ → List ℕ) (rows : List (List ℕ)) {rows' : List (List ℕ)} → lines_left keep g rows ≡ rows' → length rows' ≡ rank keep (length rows)
left_count keep g rows e = ap length (sym e) ∙ left_length keep g rows

-- lines that are removed first and made anew then
kept_map : (keep : ℕ → Bool) (g : List ℕ → List ℕ) (rows : List (List ℕ)) → kept_of keep (map g rows) ≡ map g (kept_of keep rows)
unfolding kept_of
kept_map keep g [] = refl
kept_map keep g (row ∷ rows) = go (keep 0) (kept_of (λ i. keep (suc i)) rows) (kept_map (λ i. keep (suc i)) g rows)
  where
    go : (b : Bool) {l : List (List ℕ)} (m : List (List ℕ)) → l ≡ map g m → cond b (g row ∷ l) l ≡ map g (cond b (row ∷ m) m)
    go true m e = ap (λ (r : List (List ℕ)). g row ∷ r) e
    go false m e = e

pub left_map : (keep : ℕ → Bool) (g : List ℕ → List ℕ) (rows : List (List ℕ)) → lines_left keep (λ i. g) rows ≡ map g (kept_of keep rows)
unfolding lines_left
left_map keep g rows = ap (kept_of keep) (changed-map g rows) ∙ kept_map keep g rows

-- ---- lines in their places

module _ {X : Type 0} (places : ℕ) (f : List ℕ → X) (absent : X) where
  pub place : (rows : List (List ℕ)) (i : ℕ) → i < length rows → get_or (filled places f rows) i absent ≡ f (get_or rows i [])
  place rows = every_place places f rows absent (λ i x. x ≡ f (get_or rows i [])) (λ i h. refl)

  -- a line that is left, at its new place
  pub place_left : (keep : ℕ → Bool) (g : ℕ → List ℕ → List ℕ) (h : X → X) (rows rows' : List (List ℕ)) → lines_left keep g rows ≡ rows'
      → ((i : ℕ) → i < length rows → f (g i (get_or rows i [])) ≡ h (f (get_or rows i [])))
      → (i : ℕ) → i < length rows → T (keep i) → get_or (filled places f rows') (rank keep i) absent ≡ h (get_or (filled places f rows) i absent)
  place_left keep g h rows rows' e a i k t =
      let there : rank keep i < length rows' = subst (λ (n : ℕ). rank keep i < n) (sym (left_length keep g rows) ∙ ap length e) (rank_lt keep i (length rows) t k) in
      place rows' (rank keep i) there
      ∙ ap (λ (r : List (List ℕ)). f (get_or r (rank keep i) [])) (sym e)
      ∙ ap f (left_at keep g rows i k t)
      ∙ a i k
      ∙ ap h (sym (place rows i k))

  -- a number of a line, also where no line stands, if it reads the same there
  pub place_number : (q : X → ℕ) → q absent ≡ q (f []) → (rows : List (List ℕ)) (i : ℕ) → q (get_or (filled places f rows) i absent) ≡ q (f (get_or rows i []))
  unfolding filled
  place_number q b rows i = go rows (places - length rows) i
    where
      go : (rows : List (List ℕ)) (n i : ℕ) → q (get_or (map f rows ++ replicate n (f [])) i absent) ≡ q (f (get_or rows i []))
      go [] zero i = b
      go [] (suc n) zero = refl
      go [] (suc n) (suc i) = go [] n i
      go (row ∷ rows) n zero = refl
      go (row ∷ rows) n (suc i) = go rows n i
