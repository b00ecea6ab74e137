-- The numbers of refusals, and the answers that a `?` passes on. Assumes nothing.
use mathlib.Core.Path.{◌≡◌, refl, sym, ap, ◌∙◌}
use mathlib.Core.Bool.{true≢false}
use native.Mathlib.Omega.{arith}
use Rattle.std.specs.Prelude.{Result, Ok, Err, IsErrAnd, IsOk}
use Rattle.std.proofs.lemmas.Result.{err_from_is_err_and}
use Rattle.wave_sound.specs.declared.refusal.Refusal.{Refusal}
use Rattle.wave_sound.specs.declared.refusal.Refusal.TheVariants.{Rate, OddSamples, SampleRange, Room, NoWave, Broken, OtherKind, NoAiff, NotWhole, FileRate}
use Rattle.wave_sound.specs.Refusal.{refusal_number, number_of}

-- no refusal has the number 0
pub refusal_counts : (r : Refusal) → refusal_number r ≡ 0 → ⊥
refusal_counts Rate e = omega arith
refusal_counts OddSamples e = omega arith
refusal_counts SampleRange e = omega arith
refusal_counts Room e = omega arith
refusal_counts NoWave e = omega arith
refusal_counts Broken e = omega arith
refusal_counts OtherKind e = omega arith
refusal_counts NoAiff e = omega arith
refusal_counts NotWhole e = omega arith
refusal_counts FileRate e = omega arith

pub number_passed : (r : Result (Unit {0}) Refusal) (y : Refusal) → IsErrAnd r (λ z. z ≡ y) → number_of r ≡ refusal_number y
number_passed r y h =
    let p = err_from_is_err_and r h in
    ap number_of p.1 ∙ ap refusal_number p.2

-- what is not refused has the number 0
pub ok_number : (r : Result (Unit {0}) Refusal) → IsOk r → number_of r ≡ 0
ok_number (Ok u) h = refl
ok_number (Err refusal) h = absurd (true≢false (sym h))
