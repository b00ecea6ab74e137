-- What the program prints, over the bytes of standard input and of the mixes' files.
use Rattle.std.specs.Prelude.{◌≡◌, cond, List, [], ◌∷◌, ℕ, eqb, length, take}
use Rattle.laws.specs.Pieces.{begun}
use Rattle.text_output.specs.Text.{printed_refusal}
use Rattle.month.specs.Month.{all_in, samples_of, totals}
use Rattle.month_reader.specs.declared.stream.Stream.{Stream}
use Rattle.month_reader.specs.Reading.{MixFile, mixes_ok, mixes_of, stream_of}
use Rattle.month_files.specs.declared.lines.Lines.{Lines}
use Rattle.month_files.specs.Lines.{no_lines, lines_from, channels_of, head_bytes, input_number}
use Rattle.month_files.specs.Text.{printed_totals}

-- the mixes of the lines, each with its file's bytes; a file that is not there has none
unfoldable pub mix_files : List ℕ → List (List ℕ) → List MixFile
mix_files [] files = []
mix_files (c ∷ cs) [] = record { channels = c; bytes = [] } ∷ mix_files cs []
mix_files (c ∷ cs) (file ∷ files) = record { channels = c; bytes = file } ∷ mix_files cs files

-- 24, then 26 of the lines and of all mixes, then 25
unfoldable pub month_number : List ℕ → List (List ℕ) → ℕ
month_number input files =
    let mixes = mix_files (channels_of input) files in
    let number = input_number input in
    cond (eqb number 0) (cond (mixes_ok mixes) (cond (all_in (samples_of (mixes_of mixes))) 0 25) 26) number

unfoldable pub printed_month : List ℕ → List (List ℕ) → List ℕ
printed_month input files =
    let number = month_number input files in
    cond (eqb number 0) (printed_totals (totals (mixes_of (mix_files (channels_of input) files)))) (printed_refusal number)

-- ---- from what was read

-- of standard input the first bytes and the lines, and, where the lines are not refused, all mixes one after another
pub record WasRead (input : List ℕ) (files : List (List ℕ)) (head : List ℕ) (lines : Lines) (stream : Stream) : Type 0 where
  pub first : head ≡ take head_bytes input
  pub lines_are : lines ≡ lines_from no_lines input
  pub mixes_are : input_number input ≡ 0 → stream ≡ stream_of (mix_files (channels_of input) files) []

-- the month's text stands at the start of a buffer, whose contents were `before`
abbrev pub TextOf : List ℕ → List (List ℕ) → List ℕ → ℕ → List ℕ → Type 0
TextOf input files before n after = (n ≡ length (printed_month input files)) × (after ≡ begun (printed_month input files) before)
