-- `read_stereo` meets its contract. Assumes nothing.
use mathlib.Core.Path.{sym, ◌∙◌}
use native.Mathlib.Omega.{arith}
use borrow.Author.Rules.{rules}
use lib.ListN.{length}
use Rattle.laws.proofs.laws.Loop.{changed_zero, changed_end}
use Rattle.sound_data.proofs.laws.Frames.{inside, value_is, stereo_turn, stereo_end}
use Rattle.sound_data.proofs.data.read_stereo.Goals as goal

pub loop-i-init : goal.loop-i-init
loop-i-init c = sym (changed_zero _ _)

pub overflow_mul-i : goal.overflow_mul-i
overflow_mul-i c = omega (arith, inside c.args.start c.loop-i.i (length c.args.samples.now) c.width-step.result (length c.args.bytes.now) c.width-step.ensures.1 (search rules) c.requires.values_in_bytes)

pub overflow_add-start : goal.overflow_add-start
overflow_add-start c = omega (arith, inside c.args.start c.loop-i.i (length c.args.samples.now) c.width-step.result (length c.args.bytes.now) c.width-step.ensures.1 (search rules) c.requires.values_in_bytes)

pub sample_at-requires : goal.sample_at-requires
sample_at-requires c = inside c.args.start c.loop-i.i (length c.args.samples.now) c.width-step.result (length c.args.bytes.now) c.width-step.ensures.1 (search rules) c.requires.values_in_bytes

pub loop-i-preserved : goal.loop-i-preserved
loop-i-preserved c = stereo_turn c.args.encoding c.args.order c.args.bytes.now c.args.start c.loop-i.i c.args.samples.now (search rules) c.loop-i.invariant (value_is c.args.encoding c.args.order c.args.bytes.now c.args.start c.loop-i.i c.width-step.result c.width-step.ensures.1 c.sample_at.ensures)

pub returns : goal.returns
returns c = changed_end _ c.args.samples.now (omega (arith, c.requires.samples_in_pairs)) c.loop-i.invariant ∙ stereo_end c.args.encoding c.args.order c.args.bytes.now c.args.start c.args.samples.now c.requires.samples_in_pairs
