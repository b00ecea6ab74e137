use mathlib.Core.Path.{◌≡◌}
use Prim.Native.Nat.{◌+◌, ◌-◌, ◌≤◌}
use lib.ListN.{length}
use Rattle.laws.specs.Pieces.{pieces, put_at}
use Rattle.render_files.proofs.laws.Print.{line_at}
use Rattle.render_files.proofs.print.put_output.Given as goal

abbrev pub invariant-loop-i : goal.invariant-loop-i
invariant-loop-i l = (l.i ≤ length l.output) × (length l.text ≡ length l.initial.text) × (l.at ≡ l.initial.at + length (pieces (line_at l.width l.output) l.i)) × (l.text ≡ put_at l.initial.at (pieces (line_at l.width l.output) l.i) l.initial.text)

abbrev pub decreases-loop-i : goal.decreases-loop-i
decreases-loop-i l = length l.output - l.i
