-- The amplitudes of a list of levels.
use Rattle.std.specs.Prelude.{List, ℕ, min, length, get_or, Float}
use Rattle.std.specs.Float.{nan}
use Rattle.laws.specs.Loop.{changed}
use Rattle.decibels.specs.Answer.{amplitude_answer, written_over}

-- the answer to level i, written over what stands at place i
unfoldable pub written_at : List Float → ℕ → Float → Float
written_at levels i old = written_over (amplitude_answer (get_or levels i nan)).value old

unfoldable pub amplitudes_over : List Float → List Float → List Float
amplitudes_over levels old = changed (written_at levels) (min (length levels) (length old)) old
