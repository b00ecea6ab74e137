-- A loop over the inputs: its invariant is that of `upto` with a part's clearing as its turn.
use mathlib.Core.Path.{refl, sym, ◌∙◌}
use Rattle.frame.specs.Frame.{cleared}
use Rattle.frame.proofs.laws.Layout.{kept}
use Rattle.send_track.specs.Send.{send_layout}
use Rattle.send_track.proofs.laws.Send.{cleared_zero, cleared_turn}
use Rattle.send_track.proofs.send.clear_sends.Goals as goal

pub loop-s-init : goal.loop-s-init
loop-s-init c = (refl, sym (cleared_zero _ _))

pub loop-s-preserved : goal.loop-s-preserved
loop-s-preserved c =
    let e = c.clear_send.ensures in
    (kept (send_layout c.loop-s.s c.args.frames) cleared c.args.frames c.loop-s.sends e ∙ c.loop-s.invariant.0, cleared_turn c.args.frames c.loop-s.s c.args.sends.now c.loop-s.invariant.1 e)
