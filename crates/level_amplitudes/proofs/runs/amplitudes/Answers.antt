-- `amplitudes` meets its contract. Assumes nothing.
use Prim.Native.Nat.{zero-le}
use native.Mathlib.Omega.{arith}
use Rattle.level_amplitudes.specs.Amplitudes.{with_amplitudes}
use Rattle.level_amplitudes.proofs.laws.Amplitudes.{tried_set, tried_left, with_amplitudes_none, with_amplitudes_run, with_amplitudes_end}
use Rattle.level_amplitudes.proofs.runs.amplitudes.Goals as goal

pub returns-then-frames-eq0 : goal.returns-then-frames-eq0
returns-then-frames-eq0 c = with_amplitudes_end c.args.before c.args.after c.args.parts.now c.args.factors.now (omega (arith, c.if-frames-eq0.true)) (with_amplitudes_none c.args.before c.args.after c.args.parts.now c.args.factors.now)

pub set_if_inside-requires : goal.set_if_inside-requires
set_if_inside-requires c = record { gain_table = c.requires.gain_table; nonempty_run_in_chunk = (omega (arith, c.if-frames-eq0.false), c.requires.frames_in_a_chunk); admitted = c.requires.admitted; monotone = c.requires.monotone }

pub returns-then-set_if_inside : goal.returns-then-set_if_inside
returns-then-set_if_inside c =
    let l = c.args.factors.now in
    let set = tried_set c.args.before c.args.after c.args.parts.now 0 c.args.frames l c.set_if_inside.ensures c.if-set_if_inside.true in
    with_amplitudes_run c.args.before c.args.after c.args.parts.now 0 c.args.frames l zero-le (with_amplitudes_none c.args.before c.args.after c.args.parts.now l) set

pub set_runs-requires : goal.set_runs-requires
set_runs-requires c = record { gain_table = c.requires.gain_table; frames_in_a_chunk = c.requires.frames_in_a_chunk; admitted = c.requires.admitted; monotone = c.requires.monotone }

pub returns : goal.returns
returns c =
    tried_left c.args.before c.args.after c.args.parts.now 0 c.args.frames c.args.factors.now (with_amplitudes c.args.before c.args.after c.args.parts.now c.args.frames)
    c.set_if_inside.ensures c.if-set_if_inside.false c.set_runs.ensures
