-- Mixes that are handed over in pieces, cut anywhere.
use Rattle.std.specs.Prelude.{◌≡◌, List, [], ◌∷◌, ℕ}
use Rattle.month_reader.specs.declared.stream.Stream.{Stream}
use Rattle.month_reader.specs.Reading.{WithBytes, WithEnd}

-- a piece is handed over, and then the rest
pub record NextPiece (s : Stream) (piece : List ℕ) (Rest : Stream → Type 0) : Type 0 where
  pub next : Stream
  pub is : WithBytes s piece next
  pub rest : Rest next

-- the mix ends, and then the rest
pub record NextMix (s : Stream) (channels : ℕ) (Rest : Stream → Type 0) : Type 0 where
  pub next : Stream
  pub is : WithEnd s channels next
  pub rest : Rest next

abbrev pub Pieces : Stream → List (List ℕ) → (Stream → Type 0) → Type 0
Pieces s [] Rest = Rest s
Pieces s (p ∷ ps) Rest = NextPiece s p (λ t. Pieces t ps Rest)

-- from one stream to another, mixes of these channels are handed over, each in its pieces; a mix with none is empty
abbrev pub InPieces : Stream → List ℕ → List (List (List ℕ)) → Stream → Type 0
InPieces s [] files last = s ≡ last
InPieces s (c ∷ cs) [] last = NextMix s c (λ t. InPieces t cs [] last)
InPieces s (c ∷ cs) (file ∷ files) last = Pieces s file (λ u. NextMix u c (λ t. InPieces t cs files last))
