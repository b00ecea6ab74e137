-- Laws of `all`, and of `every`: one number more, one that fails, all of them; and of two tests that agree below a bound.
use mathlib.Core.Path.{◌≡◌, refl, sym, ◌∙◌, ap}
use mathlib.Core.Bool.{Bool, true, false}
use mathlib.Core.List.{List, [], ◌∷◌}
use Prim.Native.Nat.{ℕ, zero, suc, ◌+◌, ◌<◌, ◌≤◌}
use mathlib.Core.Logic.{◌⊎◌, inl, inr}
use native.Mathlib.Nat.{eq-or-lt_of_le, le_of_suc-le-suc}
use native.Mathlib.Numerals.{add-one}
use native.Mathlib.Omega.{arith}
use lib.ListN.{length, get_or}
use Rattle.laws.proofs.laws.Choice.{and_left, and_right}
use Rattle.scene_tables.specs.Bytes.{every, all}

pub all_at : {A : Type 0} (f : A → Bool) (l : List A) (i : ℕ) (d : A) → i < length l → all f l ≡ true → f (get_or l i d) ≡ true
unfolding all
all_at f [] i d h e = absurd (omega arith)
all_at f (x ∷ l) zero d h e = and_left (f x) (all f l) e
all_at f (x ∷ l) (suc i) d h e = all_at f l i d (omega arith) (and_right (f x) (all f l) e)

pub every_none : (f : ℕ → Bool) → every 0 f ≡ true
unfolding every
every_none f = refl

pub every_passed : (i : ℕ) (f : ℕ → Bool) → every i f ≡ true → f i ≡ true → every (i + 1) f ≡ true
unfolding every
every_passed i f e h = rw (add-one i, e, h)

pub every_at : (n : ℕ) (f : ℕ → Bool) (i : ℕ) → i < n → every n f ≡ true → f i ≡ true
unfolding every
every_at zero f i h e = absurd (omega arith)
every_at (suc n) f i h e = go (eq-or-lt_of_le (le_of_suc-le-suc h)) (λ k. every_at n f i k (and_left (every n f) (f n) e))
  where
    go : (i ≡ n) ⊎ (i < n) → (i < n → f i ≡ true) → f i ≡ true
    go (inl k) ih = rw k (and_right (every n f) (f n) e)
    go (inr k) ih = ih k

pub every_failed : (n : ℕ) (f : ℕ → Bool) (i : ℕ) → i < n → f i ≡ false → false ≡ every n f
every_failed n f i h e = go (every n f) refl
  where
    go : (b : Bool) → every n f ≡ b → false ≡ b
    go true k = sym e ∙ every_at n f i h k
    go false k = refl

pub every_done : (n : ℕ) (f : ℕ → Bool) (i : ℕ) → n ≤ i → i ≤ n → every i f ≡ true → true ≡ every n f
every_done n f i h k e = let q : i ≡ n = omega arith in sym e ∙ ap (λ (m : ℕ). every m f) q

pub every_same : (n : ℕ) (f g : ℕ → Bool) → ((i : ℕ) → i < n → f i ≡ g i) → every n f ≡ every n g
unfolding every
every_same zero f g h = refl
every_same (suc n) f g h = rw (every_same n f g (λ i k. h i (omega arith)), h n (omega arith))

pub every_all : (n : ℕ) (f : ℕ → Bool) → ((i : ℕ) → i < n → f i ≡ true) → every n f ≡ true
unfolding every
every_all zero f h = refl
every_all (suc n) f h = rw (every_all n f (λ i k. h i (omega arith)), h n (omega arith))
