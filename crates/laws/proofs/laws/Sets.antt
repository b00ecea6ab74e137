-- What storing one element does to a list. Assumes nothing.
use mathlib.Core.Path.{◌≡◌, refl, ap}
use mathlib.Core.Logic.{◌≢◌}
use mathlib.Core.List.{List, [], ◌∷◌}
use Prim.Native.Nat.{ℕ, zero, suc}
use lib.ListN.{get_or, set}

module _ {A : Type 0} where
  -- what holds of a line and of what is stored holds of the line after the store
  pub set_line : (P : A → Type 0) (l : List A) (i j : ℕ) (x d : A) → P (get_or l j d) → (i ≡ j → P x) → P (get_or (set l i x) j d)
  set_line P [] i j x d p h = p
  set_line P (y ∷ l) zero zero x d p h = h refl
  set_line P (y ∷ l) zero (suc j) x d p h = p
  set_line P (y ∷ l) (suc i) zero x d p h = p
  set_line P (y ∷ l) (suc i) (suc j) x d p h = set_line P l i j x d p (λ e. h (ap suc e))

  -- stores at two places, in either order
  pub set_comm : (l : List A) (i j : ℕ) (x y : A) → i ≢ j → set (set l i x) j y ≡ set (set l j y) i x
  set_comm [] i j x y h = refl
  set_comm (z ∷ l) zero zero x y h = absurd (h refl)
  set_comm (z ∷ l) zero (suc j) x y h = refl
  set_comm (z ∷ l) (suc i) zero x y h = refl
  set_comm (z ∷ l) (suc i) (suc j) x y h = ap (λ (r : List A). z ∷ r) (set_comm l i j x y (λ e. h (ap suc e)))

  -- at one place the later counts
  pub set_twice : (l : List A) (i : ℕ) (x y : A) → set (set l i x) i y ≡ set l i y
  set_twice [] i x y = refl
  set_twice (z ∷ l) zero x y = refl
  set_twice (z ∷ l) (suc i) x y = ap (λ (r : List A). z ∷ r) (set_twice l i x y)

  -- what stands there already
  pub set_own : (l : List A) (i : ℕ) (d : A) → set l i (get_or l i d) ≡ l
  set_own [] i d = refl
  set_own (z ∷ l) zero d = refl
  set_own (z ∷ l) (suc i) d = ap (λ (r : List A). z ∷ r) (set_own l i d)
