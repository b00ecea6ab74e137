-- A loop over frames that a part has: its invariant is `with_first` of the turn; that each of them is what the part plays is `part_plays`.
use mathlib.Core.Path.{refl, sym, ap₂, ◌∙◌}
use native.Mathlib.Omega.{arith}
use Rattle.frame.specs.Frame.{added}
use Rattle.frame.specs.Layout.{scratch}
use Rattle.frame.proofs.laws.Layout.{first_zero, first_put, first_end}
use Rattle.sound.proofs.laws.Part.{played, part_plays}
use Rattle.sound.proofs.sound.add_played.Goals as goal

pub loop-i-init : goal.loop-i-init
loop-i-init c = (refl, sym (first_zero (scratch 0 _) _ _))

pub loop-i-preserved : goal.loop-i-preserved
loop-i-preserved c = first_put (scratch 0 c.args.frames) (played c.args.part.now) c.loop-i.i c.args.to.now c.loop-i.invariant.0 c.loop-i.invariant.1 (c.added-sum.ensures ∙ ap₂ added c.frame_at.ensures c.sample_frame.ensures) c.put_frame.ensures

pub returns : goal.returns
returns c =
    first_end (scratch 0 c.args.frames) (played c.args.part.now) c.args.to.now (omega (arith, c.loop-i-test.false, c.loop-i.auto.i-end)) c.loop-i.invariant.1
    ∙ part_plays c.args.part.now c.args.frames c.args.count c.args.to.now c.requires.played_frames_there.0
