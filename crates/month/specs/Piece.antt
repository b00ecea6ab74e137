-- A piece of a mix, and totals put together.
use Rattle.std.specs.Prelude.{cond, List, [], ◌∷◌, ℕ, suc, ◌+◌, ◌*◌, ◌/◌, ◌^◌, ◌≤◌, ◌<◌, max, eqb, length}
use Rattle.laws.specs.Pieces.{pieces}
use Rattle.byte_order.specs.declared.bytes.ByteOrder.TheVariants.{Little}
use Rattle.byte_order.specs.Bytes.{number_at}
use Rattle.month.specs.declared.totals.Totals.{Totals}
use Rattle.month.specs.Month.{most_mixes, most_samples, magnitude, full, squares, no_peak, higher, peak_in}

-- a square of a 16-bit value, at most
abbrev pub square_most : ℕ
square_most = 2 ^ 30

-- the whole samples of some bytes, the lowest byte first
unfoldable pub words_of : List ℕ → List ℕ
words_of bytes = pieces (λ i. number_at Little bytes (4 * i) 4 ∷ []) (length bytes / 4)

unfoldable pub largest : List ℕ → ℕ
largest [] = 0
largest (w ∷ ws) = max (magnitude w) (largest ws)

-- how many samples stand before the first of a magnitude
unfoldable pub first_of : ℕ → List ℕ → ℕ
first_of m [] = 0
first_of m (w ∷ ws) = cond (eqb (magnitude w) m) 0 (suc (first_of m ws))

abbrev pub no_totals : Totals
no_totals = record { mixes = 0; frames = 0; full = 0; peak = no_peak; squares = 0 }

-- totals, with some samples of the next mix that has `before` samples in front of them
unfoldable pub with_samples : Totals → ℕ → List ℕ → Totals
with_samples t before ws =
    record { mixes = t.mixes; frames = t.frames; full = t.full + full ws; peak = higher t.peak (peak_in (t.mixes + 1) before ws); squares = t.squares + squares ws }

-- totals, with the next mix at its end
unfoldable pub with_mix : Totals → ℕ → ℕ → Totals
with_mix t samples channels =
    record { mixes = t.mixes + 1; frames = t.frames + samples / channels; full = t.full; peak = t.peak; squares = t.squares }

-- there is room in 64 bits for so many samples more
pub record Room (t : Totals) (before n : ℕ) : Type 0 where
  pub mixes : t.mixes < most_mixes
  pub samples : before + n ≤ most_samples
  pub full : t.full + n < 2 ^ 64
  pub squares : t.squares + n * square_most < 2 ^ 64
