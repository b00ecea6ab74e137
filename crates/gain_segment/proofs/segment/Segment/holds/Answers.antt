-- `Segment::holds` meets its contract: its two tests are the definition's. Assumes nothing.
use mathlib.Core.Path.{sym, ap}
use mathlib.Core.Bool.{Bool, ◌&&◌}
use lib.Ieee.{lt}
use Rattle.gain_segment.specs.Segment.{contains}
use Rattle.gain_segment.proofs.segment.Segment.holds.Goals as goal

pub returns-then-self-n : goal.returns-then-self-n
unfolding contains
returns-then-self-n c = sym (ap (λ (b : Bool). b && lt c.args.level.0 c.args.self.high) c.if-self-n.true)

pub returns : goal.returns
unfolding contains
returns c = sym (ap (λ (b : Bool). b && lt c.args.level.0 c.args.self.high) c.if-self-n.false)
