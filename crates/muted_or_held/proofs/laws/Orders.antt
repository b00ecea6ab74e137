-- Laws of orders that name a track. Assumes nothing.
use mathlib.Core.Path.{◌≡◌, refl}
use mathlib.Core.Bool.{Bool, true, false}
use Prim.Native.Nat.{ℕ, suc, ◌-◌}
use native.Mathlib.Omega.{arith}
use borrow.Author.Tests.{eq-eqb, ne_eqb, eqb-true, eqb-false}
use lib.Dec.{eqb}
use Rattle.scene_tables.specs.Tables.{natural, raised, orders, order_column}
use Rattle.scene_questions.specs.Questions.{Tables, rows_at, cell}
use Rattle.noninterference.specs.Silent.{names}

-- a line number from 1, and the track that it names
module _ (t z line : ℕ) (isl : line ≡ natural z) where
  pub index_mixer : line ≡ 0 → eqb z (raised (suc t)) ≡ false
  index_mixer h = ne_eqb z (raised (suc t)) (λ e. omega (arith, e))

  pub index_track : (line ≡ 0 → ⊥) → eqb (line - 1) t ≡ eqb z (raised (suc t))
  index_track h = go (eqb z (raised (suc t))) refl
    where
      go : (b : Bool) → eqb z (raised (suc t)) ≡ b → eqb (line - 1) t ≡ b
      go true e = eq-eqb (line - 1) t (omega (arith, eqb-true z (raised (suc t)) e))
      go false e = ne_eqb (line - 1) t (λ q. eqb-false z (raised (suc t)) e (omega (arith, q)))

module _ (ts : Tables) (kind t i k : ℕ) (isk : k ≡ cell (rows_at ts orders) i order_column.kind) where
  pub other_kind : (k ≡ kind → ⊥) → false ≡ names ts kind t i
  unfolding names
  other_kind h = rw (← isk, ne_eqb k kind h)

  module _ (same : k ≡ kind) (z line : ℕ) (isz : z ≡ cell (rows_at ts orders) i order_column.index) (isl : line ≡ natural z) where
    pub names_none : line ≡ 0 → false ≡ names ts kind t i
    unfolding names
    names_none h = rw (← isk, ← isz, eq-eqb k kind same, index_mixer t z line isl h)

    pub names_this : (line ≡ 0 → ⊥) → eqb (line - 1) t ≡ names ts kind t i
    unfolding names
    names_this h = rw (← isk, ← isz, eq-eqb k kind same, index_track t z line isl h)
