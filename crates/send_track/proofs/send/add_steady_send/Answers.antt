-- Each frame is added scaled by the one amplitude of a level that stands still (`laws`, Steady).
use mathlib.Core.Path.{◌∙◌}
use borrow.Author.Rules.{rules}
use Rattle.frame.specs.Layout.{scratch, frame_at}
use Rattle.send_track.proofs.laws.Steady.{sent, send_steady}
use Rattle.send_track.proofs.send.add_steady_send.Goals as goal

pub returns : goal.returns
returns c =
    let input = frame_at (scratch c.args.first c.args.frames) c.args.inputs.now in
    c.each_frame.ensures (sent input c.steady_amplitude-factor.result) (λ i a b p m. search rules)
    ∙ send_steady c.args.frames c.requires.room_for_chunk.0 c.args.level input c.args.out.now c.requires.steady_level c.requires.level_in_range c.steady_amplitude-factor.ensures
