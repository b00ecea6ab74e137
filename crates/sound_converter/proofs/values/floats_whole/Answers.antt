-- `floats_whole` meets its contract: every value up to here is whole. Assumes nothing.
use mathlib.Core.Path.{refl, sym, ap, ◌∙◌}
use native.Mathlib.Omega.{arith}
use lib.ListN.{length}
use borrow.Author.Tests.{not-true, not-false}
use Rattle.scene_tables.proofs.laws.Every.{every_none, every_passed, every_failed, every_done}
use Rattle.pcm.specs.declared.sample.Encoding.TheVariants.{Float32}
use Rattle.pcm.specs.Sample.{whole16}
use Rattle.pcm.proofs.laws.Encodings.{float_width}
use Rattle.sound_data.specs.Data.{value_at}
use Rattle.sound_data.proofs.laws.Frames.{inside}
use Rattle.sound_converter.proofs.laws.Values.{float_value}
use borrow.Author.Rules.{rules}
use Rattle.sound_converter.proofs.values.floats_whole.Goals as goal

pub loop-i-init : goal.loop-i-init
loop-i-init c = every_none _

pub overflow_mul-i : goal.overflow_mul-i
overflow_mul-i c = omega (arith, inside c.args.start c.loop-i.i c.args.count 4 (length c.args.bytes.now) (sym (float_width Float32 refl)) (search rules) c.requires)

pub overflow_add-start : goal.overflow_add-start
overflow_add-start c = omega (arith, inside c.args.start c.loop-i.i c.args.count 4 (length c.args.bytes.now) (sym (float_width Float32 refl)) (search rules) c.requires)

pub sample_at-x-requires : goal.sample_at-x-requires
sample_at-x-requires c = inside c.args.start c.loop-i.i c.args.count 4 (length c.args.bytes.now) (sym (float_width Float32 refl)) (search rules) c.requires

pub returns-then-not-is_whole_16 : goal.returns-then-not-is_whole_16
returns-then-not-is_whole_16 c = every_failed c.args.count (λ k. whole16 (value_at Float32 c.args.order c.args.bytes.now c.args.start k)) c.loop-i.i (search rules) (ap whole16 (sym (c.sample_at-x.ensures ∙ float_value c.args.order c.args.bytes.now c.args.start c.loop-i.i)) ∙ sym c.is_whole_16.ensures ∙ not-true _ c.if-not-is_whole_16.true-raw)

pub loop-i-preserved : goal.loop-i-preserved
loop-i-preserved c = every_passed c.loop-i.i (λ k. whole16 (value_at Float32 c.args.order c.args.bytes.now c.args.start k)) c.loop-i.invariant (ap whole16 (sym (c.sample_at-x.ensures ∙ float_value c.args.order c.args.bytes.now c.args.start c.loop-i.i)) ∙ sym c.is_whole_16.ensures ∙ not-false _ c.if-not-is_whole_16.false-raw)

pub returns : goal.returns
returns c = every_done c.args.count (λ k. whole16 (value_at Float32 c.args.order c.args.bytes.now c.args.start k)) c.loop-i.i (search rules) (search rules) c.loop-i.invariant
