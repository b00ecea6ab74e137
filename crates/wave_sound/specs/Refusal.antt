-- The numbers that C gets: of a refusal, and of an answer, 0 where nothing is refused.
use Rattle.std.specs.Prelude.{ℕ, Result, Ok, Err}
use Rattle.wave_sound.specs.declared.refusal.Refusal.{Refusal}
use Rattle.wave_sound.specs.declared.refusal.Refusal.TheVariants.{Rate, OddSamples, SampleRange, Room, NoWave, Broken, OtherKind, NoAiff, NotWhole, FileRate}

abbrev pub refusal_number : Refusal → ℕ
refusal_number Rate = 4
refusal_number OddSamples = 8
refusal_number SampleRange = 9
refusal_number Room = 10
refusal_number NoWave = 13
refusal_number Broken = 14
refusal_number OtherKind = 15
refusal_number NoAiff = 16
refusal_number NotWhole = 17
refusal_number FileRate = 18

abbrev pub number_of : Result (Unit {0}) Refusal → ℕ
number_of (Ok _) = 0
number_of (Err refusal) = refusal_number refusal
