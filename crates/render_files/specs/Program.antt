-- The render program: what it prints, over the bytes of its three files.
use Rattle.std.specs.Prelude.{◌≡◌, cond, List, [], ◌∷◌, ◌++◌, ℕ, ◌+◌, ◌*◌, ◌/◌, ◌%◌, eqb, leb, length, get_or, take, Float}
use Rattle.std.specs.Float.{nan, binary32}
use Rattle.std.specs.Float.Ieee.{of_bits, to_bits}
use Rattle.limits.specs.Limits.{file_bytes}
use Rattle.recordings.specs.Recordings.{Recordings, recordings}
use Rattle.laws.specs.Pieces.{pieces, begun}
use Rattle.float_bits.specs.Bits.{word_from}
use Rattle.scene_tables.specs.Bytes.{bytes_of}
use Rattle.scene_file.specs.Grammar.{tables_of}
use Rattle.scene_questions.specs.Questions.{output_length, first_no}
use Rattle.scene.specs.Scene.{scene_of}
use Rattle.scene_reader.specs.Answer.{read_questions}
use Rattle.renderer.specs.Renderer.{rendered}
use Rattle.text_output.specs.Text.{steps32, decimal, printed_refusal}

-- ---- samples.raw and visitor.raw: f32, little-endian

-- the whole samples
unfoldable pub samples_of : List ℕ → List Float
samples_of raw = pieces (λ i. of_bits binary32 (word_from raw (4 * i)) ∷ []) (length raw / 4)

-- ---- the number

-- the most whole samples, and the most samples of an output
abbrev pub most : ℕ
most = 8192

-- the samples of both files
abbrev pub recordings_of : List ℕ → List ℕ → Recordings
recordings_of raw visitor_raw = recordings (samples_of raw) (samples_of visitor_raw)

-- Questions 1 to 9, where a last number that is cut short is a no to question 8, at its buffer's turn; and question 12 before them, of the house's
-- samples, then of the visitor's, and after them, of the output, which is made as long as question 10 asks.
unfoldable pub program_answer : List ℕ → List ℕ → List ℕ → ℕ
program_answer file raw visitor_raw =
    first_no ((12, leb (length raw / 4) most)
    ∷ (12, leb (length visitor_raw / 4) most)
    ∷ (read_questions file (recordings_of raw visitor_raw) (eqb (length raw % 4) 0) (eqb (length visitor_raw % 4) 0) ++ ((12, leb (output_length (tables_of file)) most) ∷ [])))

-- ---- what is printed

-- `block place bits`, with its line feed
unfoldable pub line : ℕ → ℕ → ℕ → List ℕ
line block place bits = decimal block ++ (32 ∷ (decimal place ++ (32 ∷ (decimal bits ++ (10 ∷ [])))))

unfoldable pub printed_output : ℕ → List Float → List ℕ
printed_output width output =
    bytes_of "block place bits\n" ++ pieces (λ i. line (i / width) (i % width) (to_bits binary32 (get_or output i nan))) (length output)

unfoldable pub printed : List ℕ → List ℕ → List ℕ → List ℕ
printed file raw visitor_raw =
    let number = program_answer file raw visitor_raw in
    let scene = scene_of (tables_of file) in
    cond (eqb number 0) (printed_output (scene.head.block * scene.head.channels) (rendered scene (recordings_of raw visitor_raw))) (printed_refusal number)

-- how many bytes there are at most: of a number and the byte after it, of a line, and of the names line
abbrev pub number_bytes : ℕ
number_bytes = steps32 + 2

abbrev pub line_bytes : ℕ
line_bytes = 3 * number_bytes

abbrev pub names_bytes : ℕ
names_bytes = 17

-- ---- what the program reads of its files

-- one byte more than question 1 allows, and the bytes of one sample more than question 12 allows
abbrev pub scene_bytes : ℕ
scene_bytes = file_bytes + 1

abbrev pub sample_bytes : ℕ
sample_bytes = 4 * (most + 1)

-- the first n bytes of a buffer are the first bytes of a file, as many as the buffer takes
abbrev pub FirstOf : List ℕ → List ℕ → ℕ → Type 0
FirstOf file buffer n = take n buffer ≡ take (length buffer) file

-- the text of three files stands at the start of a buffer, whose contents were `before`
abbrev pub TextOf : List ℕ → List ℕ → List ℕ → List ℕ → ℕ → List ℕ → Type 0
TextOf file raw visitor_raw before n after = (n ≡ length (printed file raw visitor_raw)) × (after ≡ begun (printed file raw visitor_raw) before)
