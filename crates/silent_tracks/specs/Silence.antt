-- What the routine says of each track: muted, held, inside such a track, or none of these. The words are those of the claim about silence
-- (`noninterference`; docs/SILENCE.md); lines count from 0.
use Rattle.std.specs.Prelude.{cond, ◌||◌, List, [], ◌∷◌, ◌++◌, ℕ, eqb, length}
use Rattle.recordings.specs.Recordings.{Recordings}
use Rattle.laws.specs.Loop.{changed}
use Rattle.scene_tables.specs.Tables.{tracks}
use Rattle.scene_file.specs.Grammar.{tables_of}
use Rattle.scene_questions.specs.Questions.{Tables, lines_at, first_no, input_questions}
use Rattle.noninterference.specs.Removed.{Choice, removed_track}
use Rattle.noninterference.specs.Silent.{muted, held}

unfoldable pub muted_or_held : Tables → Choice
muted_or_held ts t = muted ts t || held ts t

-- the least above 0 that holds: 1 muted, 2 held, 3 inside such a track; else 0
unfoldable pub silence_of : Tables → ℕ → ℕ
silence_of ts t = cond (muted ts t) 1 (cond (held ts t) 2 (cond (removed_track ts (muted_or_held ts) t) 3 0))

-- Questions 1 to 9, and last whether there is a number for each track and none more.
unfoldable pub silent_answer : List ℕ → Recordings → ℕ → ℕ
silent_answer file samples numbers = first_no (input_questions file samples ++ ((10, eqb numbers (lines_at (tables_of file) tracks)) ∷ []))

-- The numbers after the call: each track's silence where the answer is 0, and what they were where it isn't.
unfoldable pub silences_of : List ℕ → Recordings → List ℕ → List ℕ
silences_of file samples numbers =
    cond (eqb (silent_answer file samples (length numbers)) 0) (changed (λ t before. silence_of (tables_of file) t) (length numbers) numbers) numbers
