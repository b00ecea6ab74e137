-- A loop over the frames of a buffer: its invariant is `with_first` of whichever step the calls make, and each turn puts back the frame that a call made.
use mathlib.Core.Path.{refl, sym, ap, ◌∙◌}
use lib.ListN.{length}
use Rattle.frame.specs.Layout.{scratch, frame_at, put_frame}
use Rattle.frame.proofs.laws.Layout.{first_zero, first_put, put_length}
use Rattle.frame.proofs.buffer.each_frame.Goals as goal

pub loop-i-init : goal.loop-i-init
loop-i-init g c = (refl, λ f h. sym (first_zero (scratch c.args.first c.args.frames) f c.args.buffer.now))

pub loop-i-preserved : goal.loop-i-preserved
loop-i-preserved g c =
    let L = scratch c.args.first c.args.frames in (
      ap length {y = put_frame L c.loop-i.buffer c.loop-i.i c.step-frame.result} c.put_frame.ensures
          ∙ put_length L c.loop-i.buffer c.loop-i.i c.step-frame.result
          ∙ c.loop-i.invariant.0,
      λ f h. (first_put L f c.loop-i.i c.args.buffer.now {b = c.step-frame.result} c.loop-i.invariant.0 (c.loop-i.invariant.1 f h)
          (h c.loop-i.i c.frame_at.result c.step-frame.result c.loop-i-test.true c.step-frame.ensures ∙ ap (f c.loop-i.i) {y = frame_at L c.loop-i.buffer c.loop-i.i} c.frame_at.ensures) c.put_frame.ensures).1,
    )
