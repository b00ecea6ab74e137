-- `Decibels::as_amplitude_in` meets its contract: each test of the code picks the definition's case.
-- Assumes nothing.
use mathlib.Core.Path.{◌≡◌, sym, ap, ◌∙◌, subst}
use mathlib.Core.Bool.{true, false, cond}
use Prim.Native.Nat.{ℕ, ◌^◌, ◌≤◌}
use lib.Ieee.{Float, binary32, binary64, fits, eq, le, div, neg, of_int, of_bits}
use Rattle.laws.specs.Float.{whole}
use Rattle.rounding.specs.Narrow.{narrowed}
use Rattle.laws.proofs.laws.Choice.{cond-true, cond-false, false-T, true-T}
use Rattle.decibels.specs.Decibels.{silence, amplitude, curve, curve_at, last_entry, entry_below}
use Rattle.decibels.proofs.laws.Position.{steps, entry_most}
use Rattle.decibels.proofs.decibels.Decibels.as_amplitude_in.Goals as goal

at_zero : (n : Float) → eq n (whole 0) ≡ true → whole 1 ≡ amplitude n
unfolding amplitude
at_zero n e = sym (cond-true (eq n (whole 0)) (whole 1) (cond (le n silence) (whole 0) (curve n)) e)

silent : (n : Float) → eq n (whole 0) ≡ false → le n silence ≡ true → whole 0 ≡ amplitude n
unfolding amplitude
silent n e l =
    sym (cond-false (eq n (whole 0)) (whole 1) (cond (le n silence) (whole 0) (curve n)) e ∙ cond-true (le n silence) (whole 0) (curve n) l)

sounding : (n : Float) → eq n (whole 0) ≡ false → le n silence ≡ false → curve n ≡ amplitude n
unfolding amplitude
sounding n e l =
    sym (cond-false (eq n (whole 0)) (whole 1) (cond (le n silence) (whole 0) (curve n)) e ∙ cond-false (le n silence) (whole 0) (curve n) l)

pub returns-then-n : goal.returns-then-n
unfolding of_int of_bits
returns-then-n c = at_zero c.args.self.0 c.if-n.true

pub returns-then-n-2 : goal.returns-then-n-2
unfolding of_int of_bits neg
returns-then-n-2 c = silent c.args.self.0 c.if-n.false c.if-n-2.true

pub position_of-position-requires : goal.position_of-position-requires
unfolding of_int of_bits neg
position_of-position-requires c =
    let n = c.args.self.0 in
    record { admitted = c.requires.admitted; above_silence = false-T (le n silence) c.if-n-2.false; not_zero = false-T (eq n (whole 0)) c.if-n.false }

pub curve_at-value-requires : goal.curve_at-value-requires
unfolding of_int of_bits neg
curve_at-value-requires c =
    let n = c.args.self.0 in
    record { gain_table = c.requires.gain_table; entry_in_table = subst (λ (z : ℕ). z ≤ last_entry) (sym c.position_of-position.ensures.0) (entry_most n (steps n (true-T (fits binary32 n) c.well_formed.0.1.1.0.1) c.requires.admitted (false-T (le n silence) c.if-n-2.false) (false-T (eq n (whole 0)) c.if-n.false))) }

pub returns : goal.returns
unfolding curve of_int of_bits neg
returns c =
    let n = c.args.self.0 in
    c.f64_to_f32.ensures
    ∙ ap (λ (z : Float). narrowed (div binary64 z (whole (2 ^ 40)))) (c.curve_at-value.ensures ∙ ap (λ (z : ℕ). curve_at z c.position_of-position.result.rest) c.position_of-position.ensures.0 ∙ ap (curve_at (entry_below n)) c.position_of-position.ensures.1)
    ∙ sounding n c.if-n.false c.if-n-2.false
