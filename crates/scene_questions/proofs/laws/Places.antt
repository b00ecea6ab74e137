-- Laws of the numbers in their places: a line and a field of a table that begins at a place.
use mathlib.Core.Path.{◌≡◌, refl, ◌∙◌, ap}
use mathlib.Core.List.{List, []}
use Prim.Native.Nat.{ℕ, zero, suc, ◌+◌, ◌*◌, ◌<◌, ◌≤◌}
use native.Mathlib.Nat.{zero-mul, suc-mul, add_comm}
use native.Mathlib.Omega.{arith}
use lib.ListN.{length, get_or, take, drop, get_or-eq_default}
use lib.Seq.{drop-drop, get_or-take, get_or-drop}
use Rattle.scene_questions.specs.Questions.{cell}
use Rattle.scene_questions.specs.Places.{cut, rows_in}

pub cut-length : (w n : ℕ) (l : List ℕ) → length (cut w n l) ≡ n
unfolding cut
cut-length w zero l = refl
cut-length w (suc n) l = ap suc (cut-length w n (drop w l))

pub cut_at : (w n : ℕ) (l : List ℕ) (i : ℕ) → i < n → get_or (cut w n l) i [] ≡ take w (drop (i * w) l)
unfolding cut
cut_at w zero l i h = absurd (omega arith)
cut_at w (suc n) l zero h = rw (zero-mul w)
cut_at w (suc n) l (suc i) h =
    cut_at w n (drop w l) i (omega arith) ∙ rw (drop-drop (i * w) w l, suc-mul i w, add_comm w (i * w))

pub rows_length : (v : List ℕ) (s w n : ℕ) → length (rows_in v s w n) ≡ n
unfolding rows_in
rows_length v s w n = cut-length w n (drop s v)

pub row_at : (v : List ℕ) (s w n i : ℕ) → i < n → get_or (rows_in v s w n) i [] ≡ take w (drop (s + i * w) v)
unfolding rows_in
row_at v s w n i h = cut_at w n (drop s v) i h ∙ ap (take w) (drop-drop (i * w) s v)

pub cell_at : (v : List ℕ) (s w n i j : ℕ) → i < n → j < w → cell (rows_in v s w n) i j ≡ get_or v (s + i * w + j) 0
cell_at v s w n i j h k = rw (row_at v s w n i h, get_or-take w (drop (s + i * w) v) j 0 k, get_or-drop (s + i * w) v j 0)

pub cell_beyond : (v : List ℕ) (s w n i j : ℕ) → n ≤ i → cell (rows_in v s w n) i j ≡ 0
cell_beyond v s w n i j h = rw (get_or-eq_default (rows_in v s w n) [] {n = i} (omega (arith, rows_length v s w n)))
