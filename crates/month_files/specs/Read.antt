-- What loops that read keep: whatever the reads gave, it is some bytes, and what was made of them is what is made of those bytes.
use Rattle.std.specs.Prelude.{◌≡◌, List, [], ◌∷◌, ◌++◌, ℕ, take}
use Rattle.month_reader.specs.declared.stream.Stream.{Stream}
use Rattle.month_reader.specs.Reading.{MixFile, stream_of, WithBytes}
use Rattle.month_files.specs.declared.lines.Lines.{Lines}
use Rattle.month_files.specs.Lines.{no_lines, lines_from, head_bytes}
use Rattle.month_files.specs.Month.{TextOf}

-- ---- standard input

-- some bytes were read, after others
pub record MoreLines (before after : Lines) : Type 0 where
  pub bytes : List ℕ
  pub is : after ≡ lines_from before bytes

-- the first bytes were read, and then the rest
pub record AllLines (head : List ℕ) (lines : Lines) : Type 0 where
  pub rest : List ℕ
  pub first : head ≡ take head_bytes (head ++ rest)
  pub is : lines ≡ lines_from no_lines (head ++ rest)

-- ---- mixes

-- some bytes of the same mix were read
pub record Further (before after : Stream) : Type 0 where
  pub bytes : List ℕ
  pub is : WithBytes before bytes after

unfoldable pub channels_in : List MixFile → List ℕ
channels_in [] = []
channels_in (m ∷ ms) = m.channels ∷ channels_in ms

-- mixes of these channels were read to their ends
pub record Ended (channels : List ℕ) (s : Stream) : Type 0 where
  pub done : List MixFile
  pub channels_are : channels_in done ≡ channels
  pub is : s ≡ stream_of done []

-- ---- the whole

-- a buffer has the text of what was read: of an input whose first bytes are at the start of `head`, and of the files, whatever they were
pub record TextOfRead (head before : List ℕ) (n : ℕ) (after : List ℕ) : Type 0 where
  pub input : List ℕ
  pub files : List (List ℕ)
  pub count : ℕ
  pub first : take count head ≡ take head_bytes input
  pub is : TextOf input files before n after
