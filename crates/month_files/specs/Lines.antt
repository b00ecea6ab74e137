-- Standard input: a line for each mix, its channels.
use Rattle.std.specs.Prelude.{Bool, true, false, cond, ◌&&◌, List, [], ◌∷◌, ℕ, ◌+◌, ◌-◌, ◌*◌, min, eqb, leb, Result}
use Rattle.std.specs.declared.result.Result.TheVariants.{Ok, Err}
use Rattle.month.specs.Month.{most_mixes}
use Rattle.month_files.specs.declared.lines.Lines.{Lines}
use Rattle.month_files.specs.declared.lines.LinesRefusal.{LinesRefusal}
use Rattle.month_files.specs.declared.lines.LinesRefusal.TheVariants.{TooMany, Malformed}

abbrev pub no_lines : Lines
no_lines = record { feeds = 0; pending = false }

-- one byte more; line feeds are counted up to one more than there may be mixes
unfoldable pub line_byte : Lines → ℕ → Lines
line_byte l b = cond (eqb b 10) (record { feeds = min (l.feeds + 1) (most_mixes + 1); pending = false }) (record { feeds = l.feeds; pending = true })

unfoldable pub lines_from : Lines → List ℕ → Lines
lines_from l [] = l
lines_from l (b ∷ bs) = lines_from (line_byte l b) bs

-- bytes behind the last line feed are a line too
unfoldable pub line_count : Lines → ℕ
line_count l = l.feeds + cond l.pending 1 0

-- lines of one digit from 1 to 8, which are the bytes 49 to 56, and a line feed, which is 10
unfoldable pub formed : List ℕ → Bool
formed [] = true
formed (d ∷ []) = false
formed (d ∷ (f ∷ rest)) = leb 49 d && (leb d 56 && (eqb f 10 && formed rest))

-- what such lines say
unfoldable pub channels_of : List ℕ → List ℕ
channels_of [] = []
channels_of (d ∷ []) = []
channels_of (d ∷ (f ∷ rest)) = (d - 48) ∷ channels_of rest

-- one byte more than the lines of the most mixes have
abbrev pub head_bytes : ℕ
head_bytes = 2 * most_mixes + 1

abbrev pub refusal_number : LinesRefusal → ℕ
refusal_number TooMany = 24
refusal_number Malformed = 26

-- 0 where nothing is refused
abbrev pub answer_number : Result (Unit {0}) LinesRefusal → ℕ
answer_number (Ok _) = 0
answer_number (Err refusal) = refusal_number refusal

-- 24 is asked before 26
unfoldable pub lines_number : Lines → List ℕ → ℕ
lines_number l text = cond (leb (line_count l) most_mixes) (cond (formed text) 0 26) 24

-- what a whole input is refused by, 0 where it is not
abbrev pub input_number : List ℕ → ℕ
input_number input = lines_number (lines_from no_lines input) input
