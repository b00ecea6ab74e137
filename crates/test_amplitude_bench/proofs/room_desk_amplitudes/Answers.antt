-- `room_desk_amplitudes` meets its contract: the invariant is the loop form `changed`. Assumes nothing.
use Rattle.std.proofs.Common.{arith, ◌<◌, length, sym, ◌∙◌}
use lib.Ieee.{of_bits, of_int}
use Rattle.laws.proofs.laws.Loop.{changed_zero, changed_end}
use Rattle.test_amplitude_bench.specs.Amplitudes.{written_at, amplitudes_over}
use Rattle.test_amplitude_bench.proofs.laws.Turn.{is_admitted, turn_given, turn_refused}
use Rattle.test_amplitude_bench.proofs.room_desk_amplitudes.Goals as goal
use Rattle.test_amplitude_bench.proofs.room_desk_amplitudes.Goals.{then-level, else-level}

pub loop-i-init : goal.loop-i-init
loop-i-init c = sym (changed_zero _ _)

pub as_amplitude_in-amplitude-requires-clause-admitted : goal.as_amplitude_in-amplitude-requires-clause-admitted
unfolding of_bits of_int
as_amplitude_in-amplitude-requires-clause-admitted c = is_admitted _ c.if-level.true

pub loop-i-preserved : goal.loop-i-preserved
unfolding of_bits of_int
loop-i-preserved c =
    let levels = c.args.decibels.now in
    let old = c.args.amplitudes.now in
    let i = c.loop-i.i in
    let inside : i < length old = omega (arith, c.loop-i-test.true, c.min-i-end.ensures) in
    elim c.if-level.branch [
      | then-level w ↦ w.amplitudes-is ∙ turn_given levels old c.loop-i.amplitudes i inside c.loop-i.invariant w.as_amplitude_in-amplitude.result.0 w.if-level.true w.as_amplitude_in-amplitude.ensures
      | else-level w ↦ w.amplitudes-is ∙ turn_refused levels old c.loop-i.amplitudes i inside c.loop-i.invariant w.if-level.false
    ]

pub returns : goal.returns
unfolding amplitudes_over
returns c =
    changed_end (written_at c.args.decibels.now) c.args.amplitudes.now
    (omega (arith, c.loop-i-test.false, c.loop-i.auto.i-end, c.min-i-end.ensures)) c.loop-i.invariant
