use Rattle.std.proofs.Common.{◌≡◌}
use Rattle.laws.specs.Loop.{changed}
use Rattle.test_amplitude_bench.specs.Amplitudes.{written_at}
use Rattle.test_amplitude_bench.proofs.room_desk_amplitudes.Given as goal

abbrev pub invariant-loop-i : goal.invariant-loop-i
invariant-loop-i l = l.amplitudes ≡ changed (written_at l.decibels) l.i l.initial.amplitudes
