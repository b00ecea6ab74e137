-- `Decibels::as_amplitude` meets its contract: the code's one test is the definition's, since no NaN is at most the limit.
-- Assumes nothing.
use mathlib.Core.Path.{◌≡◌, refl, sym, ap, ◌∙◌}
use mathlib.Core.Bool.{true, false}
use Rattle.std.specs.Prelude.{None, Some}
use lib.Ieee.{Float, nan, inf, fin, le, is_nan, of_int, of_bits}
use Rattle.laws.proofs.laws.Choice.{cond-true, cond-false, true-T}
use Rattle.decibels.specs.Decibels.{amplitude, admitted, limit}
use Rattle.decibels.specs.Answer.{Answer, answered, amplitude_answer}
use Rattle.decibels.proofs.decibels.Decibels.as_amplitude.Goals as goal

-- a NaN is at most nothing
test : (n : Float) → admitted n ≡ le n limit
unfolding admitted is_nan le
test nan = refl
test (inf s) = refl
test (fin s m e) = refl

told : (n a : Float) → le n limit ≡ true → a ≡ amplitude n → ◌≡◌ {A = Answer} (record { number = 0; value = Some a }) (amplitude_answer n)
unfolding amplitude_answer
told n a t e =
    ap (λ (z : Float). record { number = 0; value = Some z }) e
    ∙ sym (cond-true (admitted n) (record { number = 0; value = Some (amplitude n) }) (record { number = 11; value = None }) (test n ∙ t))

refused : (n : Float) → le n limit ≡ false → ◌≡◌ {A = Answer} (record { number = 11; value = None }) (amplitude_answer n)
unfolding amplitude_answer
refused n t = sym (cond-false (admitted n) (record { number = 0; value = Some (amplitude n) }) (record { number = 11; value = None }) (test n ∙ t))

pub as_amplitude_in-requires : goal.as_amplitude_in-requires
unfolding of_int of_bits
as_amplitude_in-requires c =
    let n = c.args.self.0 in
    record { gain_table = c.gain_table-table.ensures; admitted = true-T (admitted n) (test n ∙ c.if-n.true) }

pub returns-then-n : goal.returns-then-n
unfolding answered of_int of_bits
returns-then-n c = told c.args.self.0 c.as_amplitude_in.result.0 c.if-n.true c.as_amplitude_in.ensures

pub returns-else-n : goal.returns-else-n
unfolding answered of_int of_bits
returns-else-n c = refused c.args.self.0 c.if-n.false
