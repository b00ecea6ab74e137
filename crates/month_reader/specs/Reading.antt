-- Mixes as they are read: what is kept of those that were read whole, and of a part of the next.
use Rattle.std.specs.Prelude.{◌≡◌, Bool, true, cond, ◌&&◌, List, [], ◌∷◌, ◌++◌, ℕ, ◌*◌, ◌/◌, ◌%◌, ◌<◌, eqb, leb, length, drop}
use Rattle.laws.specs.Pieces.{begun}
use Rattle.month.specs.declared.totals.Totals.{Totals}
use Rattle.month.specs.Month.{all_in, Mix, samples_of, totals, most_mixes, most_samples}
use Rattle.month.specs.Piece.{words_of, no_totals, with_samples}
use Rattle.month_reader.specs.declared.reading.Reading.{Reading}
use Rattle.month_reader.specs.declared.stream.Stream.{Stream}

-- a mix as its file has it
pub record MixFile : Type 0 where
  pub channels : ℕ
  pub bytes : List ℕ

-- question 26: not too many samples, whole numbers, whole frames
unfoldable pub mix_ok : MixFile → Bool
mix_ok m = leb (length m.bytes / 4) most_samples && (eqb (length m.bytes % 4) 0 && eqb (length m.bytes / 4 % m.channels) 0)

unfoldable pub mixes_ok : List MixFile → Bool
mixes_ok [] = true
mixes_ok (m ∷ ms) = mix_ok m && mixes_ok ms

unfoldable pub mixes_of : List MixFile → List Mix
mixes_of [] = []
mixes_of (m ∷ ms) = record { channels = m.channels; samples = words_of m.bytes } ∷ mixes_of ms

-- what is kept: by whether question 26 and then question 25 is passed so far
unfoldable pub kept : Bool → Bool → Totals → ℕ → Reading
kept ok in_range t samples =
    cond ok (cond in_range (record { number = 0; totals = t; samples = samples }) (record { number = 25; totals = no_totals; samples = samples }))
    (record { number = 26; totals = no_totals; samples = 0 })

-- of whole mixes, and of the samples of the next that came so far
unfoldable pub reading_of : List MixFile → List ℕ → Reading
reading_of done ws =
    kept (mixes_ok done && leb (length ws) most_samples) (all_in (samples_of (mixes_of done) ++ ws)) (with_samples (totals (mixes_of done)) 0 ws) (length ws)

abbrev pub no_bytes : List ℕ
no_bytes = 0 ∷ (0 ∷ (0 ∷ (0 ∷ [])))

-- of whole mixes, and of the bytes of the next that came so far; those of a number that is cut are held
unfoldable pub stream_of : List MixFile → List ℕ → Stream
stream_of done bytes =
    record { reading = reading_of done (words_of bytes); held = begun (drop (length bytes / 4 * 4) bytes) no_bytes; count = length bytes % 4 }

-- ---- from what is kept to what is kept next, whatever came before

-- with some samples more of the same mix
abbrev pub WithWords : Reading → List ℕ → Reading → Type 0
WithWords r words r' = (done : List MixFile) (ws : List ℕ) → r ≡ reading_of done ws → r' ≡ reading_of done (ws ++ words)

-- with some bytes more of the same mix
abbrev pub WithBytes : Stream → List ℕ → Stream → Type 0
WithBytes s piece s' = (done : List MixFile) (bytes : List ℕ) → s ≡ stream_of done bytes → s' ≡ stream_of done (bytes ++ piece)

-- with the mix at its end
abbrev pub WithEnd : Stream → ℕ → Stream → Type 0
WithEnd s channels s' =
    (done : List MixFile) (bytes : List ℕ) → s ≡ stream_of done bytes → s' ≡ stream_of (done ++ (record { channels = channels; bytes = bytes } ∷ [])) []

-- ---- what can be kept at all

-- some whole mixes, and room for one more, and some samples or bytes of it gave what is kept
pub record ReadingReached (r : Reading) : Type 0 where
  pub done : List MixFile
  pub words : List ℕ
  pub few : length done < most_mixes
  pub is : r ≡ reading_of done words

pub record Reached (s : Stream) : Type 0 where
  pub done : List MixFile
  pub bytes : List ℕ
  pub few : length done < most_mixes
  pub is : s ≡ stream_of done bytes
