-- `copy_values` meets its contract. Assumes nothing.
use mathlib.Core.Path.{refl, sym, ap, ◌∙◌, subst}
use Prim.Native.Nat.{ℕ}
use native.Mathlib.Omega.{arith}
use lib.ListN.{length}
use Rattle.laws.specs.Pieces.{pieces, put_at}
use Rattle.laws.proofs.laws.Pieces.{put_zero}
use Rattle.pcm.specs.declared.sample.Encoding.TheVariants.{Pcm16}
use Rattle.pcm.specs.Sample.{InRange}
use Rattle.pcm.proofs.laws.Encodings.{pcm_width}
use Rattle.pcm.proofs.laws.Whole.{whole_in_range}
use Rattle.sound_data.proofs.laws.Frames.{inside, value_is}
use Rattle.sound_converter.specs.Convert.{value_as16}
use Rattle.sound_converter.proofs.laws.Values.{copy_turn, pcm_step}
use borrow.Author.Rules.{rules}
use Rattle.sound_converter.proofs.values.copy_values.Goals as goal

pub loop-i-init : goal.loop-i-init
loop-i-init c = put_zero _ _ _

pub overflow_mul-i : goal.overflow_mul-i
overflow_mul-i c = omega (arith, inside c.args.start c.loop-i.i c.args.count c.width-step.result (length c.args.bytes.now) c.width-step.ensures.1 (search rules) c.requires.values_in_bytes)

pub overflow_add-start : goal.overflow_add-start
overflow_add-start c = omega (arith, inside c.args.start c.loop-i.i c.args.count c.width-step.result (length c.args.bytes.now) c.width-step.ensures.1 (search rules) c.requires.values_in_bytes)

pub sample_at-x-requires : goal.sample_at-x-requires
sample_at-x-requires c = inside c.args.start c.loop-i.i c.args.count c.width-step.result (length c.args.bytes.now) c.width-step.ensures.1 (search rules) c.requires.values_in_bytes

pub overflow_mul-i-in-loop-i : goal.overflow_mul-i-in-loop-i
overflow_mul-i-in-loop-i c = omega (arith, inside c.args.place c.loop-i.i c.args.count 2 (length c.args.file.now) (sym (pcm_width Pcm16 refl)) (search rules) c.requires.room_for_values)

pub overflow_add-place : goal.overflow_add-place
overflow_add-place c = omega (arith, inside c.args.place c.loop-i.i c.args.count 2 (length c.args.file.now) (sym (pcm_width Pcm16 refl)) (search rules) c.requires.room_for_values)

pub put_sample-requires : goal.put_sample-requires
put_sample-requires c =
    let v = value_is c.args.encoding c.args.order c.args.bytes.now c.args.start c.loop-i.i c.width-step.result c.width-step.ensures.1 c.sample_at-x.ensures in
    record { room_for_sample = omega (arith, inside c.args.place c.loop-i.i c.args.count 2 (length c.args.file.now) (sym (pcm_width Pcm16 refl)) (search rules) c.requires.room_for_values); in_range = subst InRange (sym v) (whole_in_range _ (c.requires.values_of_16_bits.each c.loop-i.i (search rules))) }

pub loop-i-preserved : goal.loop-i-preserved
loop-i-preserved c =
    let v = value_is c.args.encoding c.args.order c.args.bytes.now c.args.start c.loop-i.i c.width-step.result c.width-step.ensures.1 c.sample_at-x.ensures in
    copy_turn c.args.encoding c.args.order c.args.bytes.now c.args.start c.args.into c.args.place c.args.file.now c.loop-i.i (search rules) (pcm_step c.args.place c.loop-i.i) v c.loop-i.invariant c.put_sample.ensures

pub returns : goal.returns
returns c = c.loop-i.invariant ∙ ap (λ (n : ℕ). put_at c.args.place (pieces (value_as16 c.args.encoding c.args.order c.args.bytes.now c.args.start c.args.into) n) c.args.file.now) (omega arith)
