-- A loop that begins at a frame: its invariant is `with_first` of the step from that frame on.
use mathlib.Core.Path.{refl, sym, ap₂, ◌∙◌}
use native.Mathlib.Omega.{arith}
use Rattle.frame.specs.Frame.{from_frame, added}
use Rattle.frame.specs.Layout.{scratch, frame_at}
use Rattle.sound.specs.Part.{added_zero}
use Rattle.frame.proofs.laws.Layout.{first_same, first_put, first_end, from_on, from_before}
use Rattle.sound.proofs.sound.add_silence.Goals as goal

pub loop-i-init : goal.loop-i-init
loop-i-init c = (refl, sym (first_same (scratch 0 c.args.frames) (from_frame c.args.first added_zero) c.args.first c.args.to.now (λ k h a. from_before c.args.first added_zero k a h)))

pub loop-i-preserved : goal.loop-i-preserved
loop-i-preserved c =
    let i = c.loop-i.i in
    let b = c.added-sum.ensures ∙ ap₂ added c.frame_at.ensures c.zero.ensures in
    first_put (scratch 0 c.args.frames) (from_frame c.args.first added_zero) i c.args.to.now c.loop-i.invariant.0 c.loop-i.invariant.1
    (b ∙ sym (from_on c.args.first added_zero i (frame_at (scratch 0 c.args.frames) c.loop-i.to i) (omega arith))) c.put_frame.ensures

pub returns : goal.returns
returns c = first_end (scratch 0 c.args.frames) (from_frame c.args.first added_zero) c.args.to.now (omega (arith, c.loop-i-test.false, c.requires.first_within_frames, c.loop-i.auto.i-end)) c.loop-i.invariant.1
