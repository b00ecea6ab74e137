-- `write_values` meets its contract. Assumes nothing.
use mathlib.Core.Path.{refl, ap, ◌∙◌}
use Prim.Native.Nat.{ℕ, ◌*◌}
use native.Mathlib.Omega.{arith}
use borrow.Author.Rules.{rules}
use lib.ListN.{length}
use Rattle.laws.specs.Pieces.{pieces, put_at}
use Rattle.laws.proofs.laws.Pieces.{put_zero}
use Rattle.sound_data.specs.Data.{encoded_at}
use Rattle.sound_data.proofs.laws.Frames.{inside}
use Rattle.sound_data.proofs.laws.Written.{in_steps, write_turn}
use Rattle.sound_data.proofs.data.write_values.Goals as goal

pub loop-i-init : goal.loop-i-init
loop-i-init c = put_zero _ _ _

pub overflow_mul-i : goal.overflow_mul-i
overflow_mul-i c = omega (arith, inside c.args.start c.loop-i.i c.args.count c.width-size.result (length c.args.bytes.now) c.width-size.ensures.1 (search rules) c.requires.room_for_values)

pub overflow_add-start : goal.overflow_add-start
overflow_add-start c = omega (arith, inside c.args.start c.loop-i.i c.args.count c.width-size.result (length c.args.bytes.now) c.width-size.ensures.1 (search rules) c.requires.room_for_values)

pub overflow_mul-i-in-loop-i : goal.overflow_mul-i-in-loop-i
overflow_mul-i-in-loop-i c = omega (arith, in_steps c.loop-i.i c.args.step c.args.count (length c.args.samples.now) (search rules) c.requires.values_among_samples)

pub offset_bounds-samples-i : goal.offset_bounds-samples-i
offset_bounds-samples-i c = omega (arith, in_steps c.loop-i.i c.args.step c.args.count (length c.args.samples.now) (search rules) c.requires.values_among_samples, c.well_formed.0.1)

pub bounds-samples-i : goal.bounds-samples-i
bounds-samples-i c = in_steps c.loop-i.i c.args.step c.args.count (length c.args.samples.now) (search rules) c.requires.values_among_samples

pub put_sample-requires : goal.put_sample-requires
put_sample-requires c = record { room_for_sample = omega (arith, inside c.args.start c.loop-i.i c.args.count c.width-size.result (length c.args.bytes.now) c.width-size.ensures.1 (search rules) c.requires.room_for_values); in_range = c.requires.samples_in_range.each (c.loop-i.i * c.args.step) (in_steps c.loop-i.i c.args.step c.args.count (length c.args.samples.now) (search rules) c.requires.values_among_samples) }

pub loop-i-preserved : goal.loop-i-preserved
loop-i-preserved c =
    write_turn c.args.encoding c.args.order c.args.samples.now c.args.step c.args.start c.loop-i.i c.args.bytes.now (search rules) c.width-size.ensures.1 refl c.loop-i.invariant c.put_sample.ensures

pub returns : goal.returns
returns c = c.loop-i.invariant ∙ ap (λ (n : ℕ). put_at c.args.start (pieces (encoded_at c.args.encoding c.args.order c.args.samples.now c.args.step) n) c.args.bytes.now) (omega arith)
