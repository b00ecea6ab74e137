-- Each frame is scaled by the product of its two amplitudes (`laws`, Steady).
use mathlib.Core.Path.{◌∙◌}
use borrow.Author.Rules.{rules}
use Rattle.track_volume.proofs.laws.Steady.{scaled_along, along_track}
use Rattle.track_volume.proofs.volume.apply_each.Goals as goal

pub returns : goal.returns
returns c =
    c.each_frame.ensures (scaled_along c.args.track.volume c.args.track.fade c.args.frames) (λ i a b p m. search rules)
    ∙ along_track c.args.track c.args.frames c.args.out.now
