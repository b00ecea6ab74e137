-- A loop that replaces the first zeros by the parts: its invariant is `changed`.
use mathlib.Core.Path.{sym, ap, ◌∙◌}
use native.Mathlib.Omega.{arith}
use lib.ListN.{set, length-replicate}
use lib.IntN.{pos}
use lib.Ieee.{nan, binary32, of_bits, of_int}
use Rattle.laws.proofs.laws.Loop.{changed_zero, changed_turn, changed_end}
use Rattle.rounding.specs.Narrow.{narrowed}
use Rattle.limits.specs.Limits.{chunk_frames_most}
use Rattle.chunk.specs.Chunk.{part_at, parts_of}
use Rattle.chunk.proofs.chunk.parts_of.Invariants.{zeros, part}
use Rattle.chunk.proofs.chunk.parts_of.Goals as goal

pub loop-i-init : goal.loop-i-init
loop-i-init c = sym (changed_zero _ _)

pub loop-i-preserved : goal.loop-i-preserved
unfolding part_at of_bits of_int
loop-i-preserved c =
    let n = c.args.frames in
    let h = c.loop-i-test.true in
    let i = c.loop-i.i in
    let e = c.f64_to_f32.ensures ∙ ap narrowed c.amount_at.ensures in
    ap (set c.loop-i.parts i) e ∙ changed_turn (part n) i zeros nan (omega (arith, h, c.requires, length-replicate chunk_frames_most (of_int binary32 (pos 0)))) c.loop-i.invariant

pub returns : goal.returns
unfolding parts_of of_bits of_int
returns c = changed_end (part c.args.frames) zeros (omega (arith, c.loop-i-test.false, c.loop-i.auto.i-end)) c.loop-i.invariant
