-- Laws of the loops of questions 6, 7 and 8, over the lines of one table.
use mathlib.Core.Path.{◌≡◌, refl, sym, ◌∙◌, ap}
use mathlib.Core.Bool.{Bool, true, false}
use mathlib.Core.List.{List}
use Prim.Native.Nat.{ℕ, zero, suc, ◌+◌, ◌-◌, ◌*◌, ◌/◌, ◌%◌, ◌<◌, ◌≤◌}
use native.Mathlib.Omega.{arith}
use borrow.Author.Tests.{eq-eqb, ne_eqb}
use lib.Dec.{eqb, leb}
use lib.ListN.{length, get_or}
use lib.Ieee.{Float}
use Rattle.limits.specs.Limits.{track_depth}
use Rattle.scene_tables.specs.Bytes.{every}
use Rattle.scene_tables.specs.Tables.{natural, table_at, width, tracks, routes, sounds, placings, track_column, route_column, sound_column, placing_column}
use Rattle.scene_questions.specs.Questions.{parent_of, within_depth, same_pair, cell, sound_fits, sounds_fit}
use Rattle.scene_questions.specs.Places.{rows_in}
use Rattle.scene_questions.proofs.laws.Places.{rows_length, cell_at, cell_beyond}

-- ---- 6. depths

module _ (v : List ℕ) (s n line : ℕ) where
  pub parent_mixer : line ≡ 0 → 0 ≡ parent_of (rows_in v s (width (table_at tracks)) n) line
  unfolding parent_of
  parent_mixer h = rw h

  pub parent_beyond : n < line → 0 ≡ parent_of (rows_in v s (width (table_at tracks)) n) line
  unfolding parent_of
  parent_beyond h = go line h
    where
      go : (l : ℕ) → n < l → 0 ≡ parent_of (rows_in v s (width (table_at tracks)) n) l
      go zero k = absurd (omega arith)
      go (suc l) k = rw (cell_beyond v s (width (table_at tracks)) n l track_column.parent (omega arith))

  pub parent_there : (z r : ℕ) → (line ≡ 0 → ⊥) → line ≤ n → z ≡ get_or v (s + (line - 1) * width (table_at tracks) + track_column.parent) 0 → r ≡ natural z → r ≡ parent_of (rows_in v s (width (table_at tracks)) n) line
  unfolding parent_of
  parent_there z r h k e q = go line h k e
    where
      go : (l : ℕ) → (l ≡ 0 → ⊥) → l ≤ n → z ≡ get_or v (s + (l - 1) * width (table_at tracks) + track_column.parent) 0 → r ≡ parent_of (rows_in v s (width (table_at tracks)) n) l
      go zero h k e = absurd (h refl)
      go (suc l) h k e =
          let p : suc l - 1 ≡ l = omega arith in
          q ∙ ap natural (e ∙ rw p (sym (cell_at v s (width (table_at tracks)) n l track_column.parent k (omega arith))))

module _ (rows : List (List ℕ)) (track line d : ℕ) (inv : within_depth d rows line ≡ within_depth track_depth rows track) where
  pub depth_mixer : 0 < d → line ≡ 0 → true ≡ within_depth track_depth rows track
  unfolding within_depth
  depth_mixer h e = go d h inv
    where
      go : (k : ℕ) → 0 < k → within_depth k rows line ≡ within_depth track_depth rows track → true ≡ within_depth track_depth rows track
      go zero h q = absurd (omega arith)
      go (suc k) h q = rw (eq-eqb line 0 e) at q

  pub depth_next : (p : ℕ) → 0 < d → (line ≡ 0 → ⊥) → p ≡ parent_of rows line → within_depth (d - 1) rows p ≡ within_depth track_depth rows track
  unfolding within_depth
  depth_next p h e f = go d h inv
    where
      go : (k : ℕ) → 0 < k → within_depth k rows line ≡ within_depth track_depth rows track → within_depth (k - 1) rows p ≡ within_depth track_depth rows track
      go zero h q = absurd (omega arith)
      go (suc k) h q =
          let u : suc k - 1 ≡ k = omega arith in
          rw (u, f) (rw (ne_eqb line 0 e) at q)

  pub depth_done : d ≤ 0 → eqb line 0 ≡ within_depth track_depth rows track
  unfolding within_depth
  depth_done h = go d h inv
    where
      go : (k : ℕ) → k ≤ 0 → within_depth k rows line ≡ within_depth track_depth rows track → eqb line 0 ≡ within_depth track_depth rows track
      go zero h q = q
      go (suc k) h q = absurd (omega arith)

-- ---- 7. routes

module _ (v : List ℕ) (s n : ℕ) where
  module _ (i k x0 y0 : ℕ) (hi : i < n) (hk : k < n) (isx : x0 ≡ get_or v (s + i * width (table_at routes) + route_column.track) 0) (isy : y0 ≡ get_or v (s + k * width (table_at routes) + route_column.track) 0) where
    pub pair_differs : (x0 ≡ y0 → ⊥) → false ≡ same_pair (rows_in v s (width (table_at routes)) n) i k
    unfolding same_pair
    pair_differs h = rw (cell_at v s (width (table_at routes)) n i route_column.track hi (omega arith), cell_at v s (width (table_at routes)) n k route_column.track hk (omega arith), ← isx, ← isy, ne_eqb x0 y0 h)

    pub pair_same : (x1 y1 : ℕ) → x1 ≡ get_or v (s + i * width (table_at routes) + route_column.send) 0 → y1 ≡ get_or v (s + k * width (table_at routes) + route_column.send) 0 → x0 ≡ y0 → eqb x1 y1 ≡ same_pair (rows_in v s (width (table_at routes)) n) i k
    unfolding same_pair
    pair_same x1 y1 e f h =
        rw (cell_at v s (width (table_at routes)) n i route_column.track hi (omega arith), cell_at v s (width (table_at routes)) n k route_column.track hk (omega arith), ← isx, ← isy, eq-eqb x0 y0 h, cell_at v s (width (table_at routes)) n i route_column.send hi (omega arith), cell_at v s (width (table_at routes)) n k route_column.send hk (omega arith), ← e, ← f)

-- ---- 7. placings

module _ (v : List ℕ) (s n i k x y : ℕ) (hi : i < n) (hk : k < n) (isx : x ≡ get_or v (s + i * width (table_at placings) + placing_column.track) 0) (isy : y ≡ get_or v (s + k * width (table_at placings) + placing_column.track) 0) where
  pub track_same : eqb x y ≡ eqb (cell (rows_in v s (width (table_at placings)) n) i placing_column.track) (cell (rows_in v s (width (table_at placings)) n) k placing_column.track)
  track_same = rw (cell_at v s (width (table_at placings)) n i placing_column.track hi (omega arith), cell_at v s (width (table_at placings)) n k placing_column.track hk (omega arith), ← isx, ← isy)

-- ---- 8. sounds

module _ (v : List ℕ) (s n from frames i z0 f : ℕ) (hi : i < n) (is0 : z0 ≡ get_or v (s + i * width (table_at sounds) + sound_column.from) 0) (isf : f ≡ natural z0) where
  from_is : natural (cell (rows_in v s (width (table_at sounds)) n) i sound_column.from) ≡ f
  from_is = rw (cell_at v s (width (table_at sounds)) n i sound_column.from hi (omega arith), ← is0, ← isf)

  pub sound_elsewhere : (f ≡ from → ⊥) → true ≡ sound_fits (rows_in v s (width (table_at sounds)) n) from frames i
  unfolding sound_fits
  sound_elsewhere h = rw (from_is, ne_eqb f from h)

  pub sound_here : (z1 z2 first count : ℕ) → f ≡ from → z1 ≡ get_or v (s + i * width (table_at sounds) + sound_column.first) 0 → z2 ≡ get_or v (s + i * width (table_at sounds) + sound_column.count) 0
      → first ≡ natural z1 → count ≡ natural z2 → leb (first + count) frames ≡ sound_fits (rows_in v s (width (table_at sounds)) n) from frames i
  unfolding sound_fits
  sound_here z1 z2 first count h is1 is2 ise isc =
      rw (from_is, eq-eqb f from h, cell_at v s (width (table_at sounds)) n i sound_column.first hi (omega arith), cell_at v s (width (table_at sounds)) n i sound_column.count hi (omega arith), ← is1, ← is2, ← ise, ← isc)

module _ (v : List ℕ) (s n from : ℕ) (samples : List Float) where
  unfoldable pub sound_test : ℕ → Bool
  sound_test = sound_fits (rows_in v s (width (table_at sounds)) n) from (length samples / 2)

  pub sounds_odd : (length samples % 2 ≡ 0 → ⊥) → false ≡ sounds_fit (rows_in v s (width (table_at sounds)) n) from samples
  unfolding sounds_fit
  sounds_odd h = rw (ne_eqb (length samples % 2) 0 h)

  pub sounds_asked : (b : Bool) → length samples % 2 ≡ 0 → b ≡ every n sound_test → b ≡ sounds_fit (rows_in v s (width (table_at sounds)) n) from samples
  unfolding sounds_fit sound_test
  sounds_asked b e q = rw (eq-eqb (length samples % 2) 0 e, rows_length v s (width (table_at sounds)) n) q
