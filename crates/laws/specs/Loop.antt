-- The three loop forms that contracts are written in.
use Rattle.std.specs.Prelude.{List, [], ◌∷◌, ℕ, zero, suc}

-- f at 0, then at 1, and so on up to n - 1
unfoldable pub upto {ℓ} : {S : Type ℓ} → (ℕ → S → S) → ℕ → S → S
upto f zero s = s
upto f (suc n) s = f n (upto f n s)

-- f at n - 1, then at n - 2, and so on down to 0
unfoldable pub downto {ℓ} : {S : Type ℓ} → (ℕ → S → S) → ℕ → S → S
downto f zero s = s
downto f (suc n) s = downto f n (f n s)

-- each of the first n elements replaced by f of its index and itself
unfoldable pub changed {ℓ} : {A : Type ℓ} → (ℕ → A → A) → ℕ → List A → List A
changed f zero l = l
changed f (suc n) [] = []
changed f (suc n) (x ∷ l) = f 0 x ∷ changed (λ j. f (suc j)) n l
