-- `nanos_from_secs_f64` meets its contract: by the laws `nanos_tiny` and `nanos_from_bits`. Assumes nothing.
use mathlib.Core.Path.{◌≡◌, sym, ap, ◌∙◌}
use Prim.Native.Nat.{ℕ, ◌-◌, ◌*◌, ◌%◌, ◌^◌, ◌<◌}
use native.Mathlib.Omega.{arith}
use Rattle.rounding.proofs.laws.Fields.{holds}
use Rattle.rounding.specs.Nearest.{nearest_quotient, sticky_quotient}
use Rattle.rounding.proofs.laws.Nearest.{sticky_most}
use Rattle.rounding.proofs.laws.Duration.{exponent, digits, nanos_tiny, nanos_from_bits, hour_no_nan, hour_exponent}
use Rattle.rounding.proofs.duration.nanos_from_secs_f64.Goals as goal

-- the sticky quotient fits
sticky_small : (d r : ℕ) → d < 2 ^ 53 → r ≡ sticky_quotient (d * 5 ^ 9) (2 ^ 12) → r < 2 ^ 63
sticky_small d r h e = omega (arith, sticky_most (d * 5 ^ 9 % 2 ^ 12))

pub float_to_bits-bits : goal.float_to_bits-bits
float_to_bits-bits c = hour_no_nan c.args.seconds c.requires

pub returns-then-exponent-lt992 : goal.returns-then-exponent-lt992
returns-then-exponent-lt992 c = sym (nanos_tiny c.args.seconds (holds c.well_formed.0.1) (omega arith))

pub overflow_sub-exponent : goal.overflow_sub-exponent
overflow_sub-exponent c = omega (arith, hour_exponent c.args.seconds (holds c.well_formed.0.1) c.requires)

pub nearest_quotient-requires : goal.nearest_quotient-requires
nearest_quotient-requires c = record { fits_63_bits = sticky_small (digits c.args.seconds) c.times_five_to_the_ninth.result (omega arith) c.times_five_to_the_ninth.ensures; not_zero = omega (arith, hour_exponent c.args.seconds (holds c.well_formed.0.1) c.requires); below_64 = omega (arith, hour_exponent c.args.seconds (holds c.well_formed.0.1) c.requires) }

pub returns : goal.returns
returns c =
    let x = c.args.seconds in
    let F = holds c.well_formed.0.1 in
    c.nearest_quotient.ensures
    ∙ ap (λ (n : ℕ). nearest_quotient n (2 ^ (1055 - exponent x))) c.times_five_to_the_ninth.ensures
    ∙ sym (nanos_from_bits x F (omega arith) (hour_exponent x F c.requires))
