-- Laws of the tables in their places: fields of their lines, and loops over all lines of one. Assumes nothing.
use mathlib.Core.Path.{◌≡◌, sym, ◌∙◌, ap}
use mathlib.Core.List.{List}
use Prim.Native.Nat.{ℕ, ◌+◌, ◌*◌, ◌<◌, ◌≤◌}
use lib.ListN.{length, get_or}
use Rattle.scene_tables.specs.Tables.{tables, table_at, width}
use Rattle.scene_questions.specs.Questions.{rows_at, cell}
use Rattle.scene_questions.specs.Places.{stored, Low, places_most}
use Rattle.scene_questions.proofs.laws.Places.{cell_at, cell_beyond}
use Rattle.scene.proofs.laws.TablesInPlaces.{rows_placed}

pub table_low : (t : ℕ) → t < length tables → (starts counts : List ℕ) → Low starts counts → get_or starts t 0 + get_or counts t 0 * width (table_at t) ≤ places_most
table_low t h starts counts low = low t h

module _ (t : ℕ) (there : t < length tables) (starts counts v : List ℕ) where
  module _ (i j : ℕ) where
    pub cell-stored : i < get_or counts t 0 → j < width (table_at t) → {z : ℕ} → z ≡ get_or v (get_or starts t 0 + i * width (table_at t) + j) 0 → z ≡ cell (rows_at (stored starts counts v) t) i j
    cell-stored h k e =
        e
        ∙ sym (cell_at v (get_or starts t 0) (width (table_at t)) (get_or counts t 0) i j h k)
        ∙ ap (λ (rows : List (List ℕ)). cell rows i j) (sym (rows_placed starts counts v t there))

    pub cell_none : get_or counts t 0 ≤ i → 0 ≡ cell (rows_at (stored starts counts v) t) i j
    cell_none h =
        sym (cell_beyond v (get_or starts t 0) (width (table_at t)) (get_or counts t 0) i j h)
        ∙ ap (λ (rows : List (List ℕ)). cell rows i j) (sym (rows_placed starts counts v t there))
