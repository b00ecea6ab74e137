-- A table from which some lines are removed. `keep i` says whether line i stays, counted from 0.
use Rattle.std.specs.Prelude.{ℕ, zero, suc, Bool, cond, List, [], ◌∷◌}

-- how many of the lines 0 .. n - 1 are kept
unfoldable pub rank : (ℕ → Bool) → ℕ → ℕ
rank keep zero = 0
rank keep (suc n) = cond (keep n) (suc (rank keep n)) (rank keep n)

-- the lines that stay, in their order
unfoldable pub kept_of {ℓ} : {A : Type ℓ} → (ℕ → Bool) → List A → List A
kept_of keep [] = []
kept_of keep (x ∷ l) = cond (keep 0) (x ∷ kept_of (λ i. keep (suc i)) l) (kept_of (λ i. keep (suc i)) l)
