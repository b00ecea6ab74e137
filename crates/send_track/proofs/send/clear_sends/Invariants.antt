use mathlib.Core.Path.{◌≡◌}
use lib.ListN.{length}
use Rattle.send_track.specs.Send.{cleared_sends}
use Rattle.send_track.proofs.send.clear_sends.Given as goal

abbrev pub invariant-loop-s : goal.invariant-loop-s
invariant-loop-s l = (length l.sends ≡ length l.initial.sends) × (l.sends ≡ cleared_sends l.frames l.s l.initial.sends)
