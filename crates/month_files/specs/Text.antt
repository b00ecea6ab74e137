-- What the program prints of totals or of a refusal, and the names of its files.
use Rattle.std.specs.Prelude.{cond, List, [], ◌∷◌, ◌++◌, ℕ, ◌+◌, ◌*◌, eqb}
use Rattle.scene_tables.specs.Bytes.{bytes_of}
use Rattle.text_output.specs.Text.{decimal_within, steps64, printed_refusal}
use Rattle.month.specs.declared.totals.Totals.{Totals}
use Rattle.month_reader.specs.declared.reading.Reading.{Reading}

-- a number below 2^64, and the byte after it
abbrev pub number_then : ℕ → ℕ → List ℕ
number_then n after = decimal_within steps64 n ++ (after ∷ [])

-- with a space after each
unfoldable pub three_numbers : ℕ → ℕ → ℕ → List ℕ
three_numbers a b c = number_then a 32 ++ (number_then b 32 ++ number_then c 32)

unfoldable pub printed_totals : Totals → List ℕ
printed_totals t =
    bytes_of "mixes frames full peak mix sample squares\n"
    ++ (three_numbers t.mixes t.frames t.full ++ (three_numbers t.peak.bits t.peak.mix t.peak.sample ++ number_then t.squares 10))

unfoldable pub printed_reading : Reading → List ℕ
printed_reading r = cond (eqb r.number 0) (printed_totals r.totals) (printed_refusal r.number)

-- how many bytes there are at most: of a number and the byte after it, of the names line, and of all
abbrev pub number_bytes : ℕ
number_bytes = steps64 + 2

abbrev pub names_bytes : ℕ
names_bytes = 42

abbrev pub text_bytes : ℕ
text_bytes = names_bytes + 7 * number_bytes

-- mix 1 is in `mix1.raw`, and so on
unfoldable pub name_of : ℕ → List ℕ
name_of mix = bytes_of "mix" ++ (decimal_within steps64 mix ++ bytes_of ".raw")
