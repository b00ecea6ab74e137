-- What `as_amplitude` answers: 0 with the amplitude, or 11.
use Rattle.std.specs.Prelude.{cond, ℕ, Float, None, Some}
use Rattle.std.specs.Prelude.{Option}
use Rattle.decibels.specs.declared.decibels.Amplitude.{Amplitude}
use Rattle.decibels.specs.Decibels.{amplitude, admitted}

-- the number (0, or 11), and the amplitude where there is one
pub record Answer : Type 0 where
  pub number : ℕ
  pub value : Option Float

-- what the method's answers stand for
unfoldable pub answered : Option Amplitude → Answer
answered (Some a) = record { number = 0; value = Some a.0 }
answered None = record { number = 11; value = None }

-- the answer to a number of decibels
unfoldable pub amplitude_answer : Float → Answer
amplitude_answer n = cond (admitted n) (record { number = 0; value = Some (amplitude n) }) (record { number = 11; value = None })

-- what a place holds once an answer is written over it: a refusal leaves what was there
unfoldable pub written_over : Option Float → Float → Float
written_over None old = old
written_over (Some a) old = a
