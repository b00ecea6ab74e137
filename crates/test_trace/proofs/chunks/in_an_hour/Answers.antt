-- `in_an_hour` meets its contract: its tests are what `InAnHour` asks. Assumes nothing.
use lib.Ieee.{of_bits, of_int}
use Rattle.laws.proofs.laws.Choice.{true-T}
use Rattle.test_trace.proofs.chunks.in_an_hour.Goals as goal

pub returns-then-dt : goal.returns-then-dt
unfolding of_bits of_int
returns-then-dt c e = record { not_below = true-T _ c.if-dt.true; not_above = true-T _ e }
