use Rattle.std.proofs.Common.{sym, subst}
use lib.Dec.{T}
use lib.Ieee.{of_bits, of_int}
use Rattle.test_rounding.proofs.has_nanoseconds.Goals as goal

pub nanos_from_secs_f64-requires : goal.nanos_from_secs_f64-requires
unfolding of_bits of_int
nanos_from_secs_f64-requires c = record { not_below = subst T (sym c.if-seconds.true) tt; not_above = subst T (sym c.if-seconds-2.true) tt }
