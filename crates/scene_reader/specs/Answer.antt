-- What the reader answers: the number of the first question that says no, and where none does the tables of the file.
use Rattle.std.specs.Prelude.{Result, Ok, Err, Bool, cond, ◌&&◌, List, [], ◌∷◌, ℕ, zero, suc, eqb}
use Rattle.recordings.specs.Recordings.{Recordings}
use Rattle.scene_file.specs.Grammar.{tables_of}
use Rattle.scene_reader.specs.declared.answer.Answer.{Answer}
use Rattle.scene_reader.specs.declared.answer.Question.{Question as Asked}
use Rattle.scene_reader.specs.declared.answer.Question.TheVariants.{Size, Spelling, Lines, Ranges, References, Depths, Twice, Sounds, Samples, Output}
use Rattle.scene_questions.specs.Questions.{Tables, Question, size_ok, spelled_ok, table_questions}
use Rattle.scene.specs.Scene.{scene_of}

-- the same questions, the one at a place, counted from 0, with a further test
unfoldable pub also : ℕ → Bool → List Question → List Question
also zero test [] = []
also zero test (q ∷ questions) = (q.0, test && q.1) ∷ questions
also (suc place) test [] = []
also (suc place) test (q ∷ questions) = q ∷ also place test questions

-- where question 8 stands among the questions of the tables: of the house's samples, and of the visitor's
abbrev pub house_sounds : ℕ
house_sounds = 6

abbrev pub visitor_sounds : ℕ
visitor_sounds = 7

-- questions 3 to 9, of samples that may have been cut short: a buffer that is not whole is a no to question 8, at its turn
unfoldable pub read_table_questions : Tables → Recordings → Bool → Bool → List Question
read_table_questions ts samples whole visitor_whole = also house_sounds whole (also visitor_sounds visitor_whole (table_questions ts samples))

-- questions 1 to 9, of such samples
unfoldable pub read_questions : List ℕ → Recordings → Bool → Bool → List Question
read_questions file samples whole visitor_whole =
    (1, size_ok file) ∷ (2, spelled_ok file) ∷ read_table_questions (tables_of file) samples whole visitor_whole

-- a question's number, and that of the first that says no, or 0
abbrev pub number : Asked → ℕ
number Size = 1
number Spelling = 2
number Lines = 3
number Ranges = 4
number References = 5
number Depths = 6
number Twice = 7
number Sounds = 8
number Samples = 9
number Output = 10

abbrev pub number_of : Result (Unit {0}) Asked → ℕ
number_of (Ok _) = 0
number_of (Err question) = number question

abbrev pub said : Bool → Asked → Result (Unit {0}) Asked
said b question = cond b (Ok tt) (Err question)

-- a number other than 0, with a scene of no lines
unfoldable pub refusal : ℕ → Answer
refusal number = record { number = number; scene = scene_of [] }

unfoldable pub answered : List ℕ → ℕ → Answer
answered file number = cond (eqb number 0) (record { number = 0; scene = scene_of (tables_of file) }) (refusal number)
