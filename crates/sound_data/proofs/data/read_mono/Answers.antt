-- `read_mono` meets its contract. Assumes nothing.
use mathlib.Core.Path.{sym, ◌∙◌}
use Prim.Native.Nat.{◌/◌}
use native.Mathlib.Omega.{arith}
use borrow.Author.Rules.{rules}
use lib.ListN.{length, length-set}
use Rattle.laws.proofs.laws.Loop.{changed_zero, changed_end}
use Rattle.sound_data.proofs.laws.Frames.{inside, value_is, mono_turn, mono_end}
use Rattle.sound_data.proofs.data.read_mono.Goals as goal

pub loop-i-init : goal.loop-i-init
loop-i-init c = sym (changed_zero _ _)

pub overflow_mul-i : goal.overflow_mul-i
overflow_mul-i c = omega (arith, inside c.args.start c.loop-i.i (length c.args.samples.now / 2) c.width-step.result (length c.args.bytes.now) c.width-step.ensures.1 (search rules) c.requires.values_in_bytes)

pub overflow_add-start : goal.overflow_add-start
overflow_add-start c = omega (arith, inside c.args.start c.loop-i.i (length c.args.samples.now / 2) c.width-step.result (length c.args.bytes.now) c.width-step.ensures.1 (search rules) c.requires.values_in_bytes)

pub sample_at-x-requires : goal.sample_at-x-requires
sample_at-x-requires c = inside c.args.start c.loop-i.i (length c.args.samples.now / 2) c.width-step.result (length c.args.bytes.now) c.width-step.ensures.1 (search rules) c.requires.values_in_bytes

pub bounds-samples-i-in-loop-i : goal.bounds-samples-i-in-loop-i
bounds-samples-i-in-loop-i c = simp length-set (search rules)

pub loop-i-preserved : goal.loop-i-preserved
loop-i-preserved c = mono_turn c.args.encoding c.args.order c.args.bytes.now c.args.start c.loop-i.i c.args.samples.now (search rules) c.loop-i.invariant (value_is c.args.encoding c.args.order c.args.bytes.now c.args.start c.loop-i.i c.width-step.result c.width-step.ensures.1 c.sample_at-x.ensures)

pub returns : goal.returns
returns c = changed_end _ c.args.samples.now (omega (arith, c.requires.samples_in_pairs)) c.loop-i.invariant ∙ mono_end c.args.encoding c.args.order c.args.bytes.now c.args.start c.args.samples.now c.requires.samples_in_pairs
