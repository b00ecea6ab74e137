-- `secs_f64_from_millis` meets its contract: its literal is a billion. Assumes nothing.
use mathlib.Core.Path.{◌≡◌, refl, ap}
use Prim.Native.Nat.{ℕ, ◌*◌, ◌/◌, ◌%◌, ◌^◌}
use lib.IntN.{pos}
use lib.Ieee.{Float, binary64, add, div, of_int, of_bits}
use Rattle.rounding.specs.Duration.{secs_from_millis}
use Rattle.rounding.proofs.duration.secs_f64_from_millis.Goals as goal

billion : of_bits binary64 4741671816366391296 ≡ of_int binary64 (pos (10 ^ 9))
unfolding of_bits of_int
billion = refl

computed : (n : ℕ)
    → add binary64 (of_int binary64 (pos (n / 1000))) (div binary64 (of_int binary64 (pos (n % 1000 * 1000000))) (of_bits binary64 4741671816366391296)) ≡ secs_from_millis n
unfolding secs_from_millis
computed n = ap (λ (x : Float). add binary64 (of_int binary64 (pos (n / 1000))) (div binary64 (of_int binary64 (pos (n % 1000 * 1000000))) x)) billion

pub returns : goal.returns
returns c = computed c.args.millis
