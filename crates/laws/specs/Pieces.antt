-- Lists put together piece by piece, and a buffer whose pieces are written in turn.
use Rattle.std.specs.Prelude.{List, [], ◌++◌, ℕ, ◌+◌, length, take, drop}
use Rattle.laws.specs.Loop.{upto}

-- f 0, then f 1, and so on up to f (n - 1)
unfoldable pub pieces {ℓ} : {A : Type ℓ} → (ℕ → List A) → ℕ → List A
pieces f n = upto (λ i l. l ++ f i) n []

-- a buffer that begins with `done`, and goes on as it was
unfoldable pub begun {ℓ} : {A : Type ℓ} → List A → List A → List A
begun done l = done ++ drop (length done) l

-- a buffer with a piece put in from a place on
unfoldable pub put_at {ℓ} : {A : Type ℓ} → ℕ → List A → List A → List A
put_at at piece l = take at l ++ (piece ++ drop (at + length piece) l)
