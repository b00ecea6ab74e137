-- A loop over the frames of three buffers: its invariant is `with_first` of the turn, for each of the two that are written.
use mathlib.Core.Path.{refl, sym, ap, ap₂, ◌∙◌}
use Prim.Native.Nat.{ℕ}
use Rattle.frame.specs.declared.frame.Frame.{Frame}
use Rattle.frame.specs.Frame.{added_from, added_scaled, added, scaled}
use Rattle.frame.specs.Layout.{scratch, frame_at}
use Rattle.frame.proofs.laws.Layout.{first_zero, first_put}
use Rattle.frame.proofs.buffer.add_to_both.Goals as goal

pub loop-i-init : goal.loop-i-init
loop-i-init c = (refl, refl, sym (first_zero (scratch 0 c.args.frames) _ _), sym (first_zero (scratch c.args.first c.args.frames) _ _))

pub loop-i-preserved : goal.loop-i-preserved
unfolding added_from added_scaled
loop-i-preserved c =
    let given : ℕ → Frame = frame_at (scratch 0 c.args.frames) c.args.from.now in
    let read = c.frame_at-frame.ensures in
    let sum = c.added-sum.ensures ∙ ap₂ added c.frame_at.ensures read in
    let sent = c.added-sent.ensures ∙ ap₂ added c.frame_at-in-loop-i.ensures (c.scaled.ensures ∙ ap (λ (a : Frame). scaled a c.args.factor) read) in
    let e = first_put (scratch 0 c.args.frames) (added_from given) c.loop-i.i c.args.to.now c.loop-i.invariant.0 c.loop-i.invariant.2 sum c.put_frame.ensures in
    let d = first_put (scratch c.args.first c.args.frames) (added_scaled given c.args.factor) c.loop-i.i c.args.other.now c.loop-i.invariant.1 c.loop-i.invariant.3 sent c.put_frame-in-loop-i.ensures in
    (e.0, d.0, e.1, d.1)
