-- Laws of the walk from a line up to the mixer. Assumes nothing.
use mathlib.Core.Path.{◌≡◌, refl, sym, ◌∙◌, ap}
use mathlib.Core.Bool.{Bool, true, false, ◌||◌}
use mathlib.Core.List.{List}
use Prim.Native.Nat.{ℕ, zero, suc, ◌+◌, ◌-◌, ◌*◌, ◌<◌, ◌≤◌}
use native.Mathlib.Omega.{arith}
use borrow.Author.Tests.{eq-eqb, ne_eqb}
use lib.Dec.{eqb, lit<}
use lib.ListN.{get_or}
use Rattle.scene_tables.specs.Tables.{natural, table_at, width, tracks, routes, route_column}
use Rattle.scene_questions.specs.Questions.{Tables, rows_at, cell, parent_of}
use Rattle.scene_questions.specs.Places.{rows_in, stored}
use Rattle.noninterference.specs.Removed.{Choice, inside_within, inside, removed_track, names_removed}
use Rattle.scene.proofs.laws.TablesInPlaces.{rows_placed}
use Rattle.muted_or_held.proofs.laws.Places.{cell-stored}

-- ---- a line's parent

module _ (starts counts v : List ℕ) (line : ℕ) where
  abbrev rows : List (List ℕ)
  rows = rows_at (stored starts counts v) tracks

  pub parent_placed : {r : ℕ} → r ≡ parent_of (rows_in v (get_or starts tracks 0) (width (table_at tracks)) (get_or counts tracks 0)) line → r ≡ parent_of rows line
  parent_placed e = e ∙ ap (λ (l : List (List ℕ)). parent_of l line) (sym (rows_placed starts counts v tracks (lit< tt)))

-- ---- from a line up, as many steps as its number

module _ (ts : Tables) (chosen : Choice) (line : ℕ) where
  pub walk_begins : inside_within line ts chosen line ≡ inside ts chosen line
  unfolding inside
  walk_begins = refl

  module _ (steps reached : ℕ) (inv : inside_within steps ts chosen reached ≡ inside ts chosen line) where
    pub walk_ends : steps ≤ 0 → false ≡ inside ts chosen line
    unfolding inside_within
    walk_ends h = go steps h inv
      where
        go : (n : ℕ) → n ≤ 0 → inside_within n ts chosen reached ≡ inside ts chosen line → false ≡ inside ts chosen line
        go zero h e = e
        go (suc n) h e = absurd (omega arith)

    pub walk_mixer : reached ≡ 0 → false ≡ inside ts chosen line
    unfolding inside_within
    walk_mixer h = go steps reached h inv
      where
        go : (n l : ℕ) → l ≡ 0 → inside_within n ts chosen l ≡ inside ts chosen line → false ≡ inside ts chosen line
        go zero l h e = e
        go (suc n) zero h e = e
        go (suc n) (suc l) h e = absurd (omega arith)

    module _ (more : 0 < steps) (named : reached ≡ 0 → ⊥) where
      step : inside_within steps ts chosen reached ≡ (chosen (reached - 1) || inside_within (steps - 1) ts chosen (parent_of (rows_at ts tracks) reached))
      unfolding inside_within
      step = go steps reached more named
        where
          go : (n l : ℕ) → 0 < n → (l ≡ 0 → ⊥) → inside_within n ts chosen l ≡ (chosen (l - 1) || inside_within (n - 1) ts chosen (parent_of (rows_at ts tracks) l))
          go zero l h k = absurd (omega arith)
          go (suc n) zero h k = absurd (k refl)
          go (suc n) (suc l) h k =
              let u : suc n - 1 ≡ n = omega arith in
              let w : suc l - 1 ≡ l = omega arith in
              rw (u, w)

      by_choice : {b : Bool} → chosen (reached - 1) ≡ b → (b || inside_within (steps - 1) ts chosen (parent_of (rows_at ts tracks) reached)) ≡ inside ts chosen line
      by_choice e = sym (step ∙ ap (λ (x : Bool). x || inside_within (steps - 1) ts chosen (parent_of (rows_at ts tracks) reached)) e) ∙ inv

      pub walk_chosen : (b : Bool) → b ≡ chosen (reached - 1) → b ≡ true → true ≡ inside ts chosen line
      walk_chosen b is e = by_choice (sym is ∙ e)

      pub walk_on : (b : Bool) (p : ℕ) → b ≡ chosen (reached - 1) → b ≡ false → p ≡ parent_of (rows_at ts tracks) reached → inside_within (steps - 1) ts chosen p ≡ inside ts chosen line
      walk_on b p is e q = ap (inside_within (steps - 1) ts chosen) q ∙ by_choice (sym is ∙ e)

  -- the line stands below a chosen track where its parent lies inside
  pub below_parent : inside ts chosen (parent_of (rows_at ts tracks) line) ≡ names_removed (removed_track ts chosen) line
  below_parent = go line
    where
      go : (l : ℕ) → inside ts chosen (parent_of (rows_at ts tracks) l) ≡ names_removed (removed_track ts chosen) l
      go zero = unfold inside inside_within names_removed parent_of in refl
      go (suc t) = unfold removed_track names_removed in refl

-- ---- below one track

module _ (ts : Tables) (track line steps reached : ℕ) (inv : inside_within steps ts (eqb track) reached ≡ inside ts (eqb track) line) (more : 0 < steps) (named : reached ≡ 0 → ⊥) where
  pub walk_found : track ≡ reached - 1 → true ≡ inside ts (eqb track) line
  walk_found e = walk_chosen ts (eqb track) line steps reached inv more named true (sym (eq-eqb track (reached - 1) e)) refl

  pub walk_past : (p : ℕ) → (track ≡ reached - 1 → ⊥) → p ≡ parent_of (rows_at ts tracks) reached → inside_within (steps - 1) ts (eqb track) p ≡ inside ts (eqb track) line
  walk_past p e q = walk_on ts (eqb track) line steps reached inv more named false p (sym (ne_eqb track (reached - 1) e)) refl q

-- a route of a track below it
pub route_below : (starts counts v : List ℕ) (track route z line p : ℕ) (r : Bool) → route < get_or counts routes 0 → z ≡ get_or v (get_or starts routes 0 + route * width (table_at routes) + route_column.track) 0 → line ≡ natural z
    → p ≡ parent_of (rows_at (stored starts counts v) tracks) line → r ≡ inside (stored starts counts v) (eqb track) p
    → r ≡ names_removed (removed_track (stored starts counts v) (eqb track)) (natural (cell (rows_at (stored starts counts v) routes) route route_column.track))
route_below starts counts v track route z line p r h isz isl isp isr =
    let ts = stored starts counts v in
    let named = isl ∙ ap natural (cell-stored routes (lit< tt) starts counts v route route_column.track h (lit< tt) isz) in
    isr
    ∙ ap (inside ts (eqb track)) isp
    ∙ below_parent ts (eqb track) line
    ∙ ap (names_removed (removed_track ts (eqb track))) named
