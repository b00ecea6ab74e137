use mathlib.Core.Path.{◌≡◌}
use Prim.Native.Nat.{◌-◌, ◌≤◌}
use lib.ListN.{length}
use Rattle.frame.specs.Layout.{scratch, frame_at}
use Rattle.laws.specs.Pieces.{pieces, begun}
use Rattle.renderer.proofs.laws.Lengths.{frame_piece}
use Rattle.renderer.proofs.renderer.write_mono.Given as goal

abbrev pub invariant-loop-i : goal.invariant-loop-i
invariant-loop-i l = (l.i ≤ l.frames) × (length l.out ≡ length l.initial.out) × (l.out ≡ begun (pieces (frame_piece 1 (frame_at (scratch 0 l.frames) l.mix)) l.i) l.initial.out)

abbrev pub decreases-loop-i : goal.decreases-loop-i
decreases-loop-i l = l.frames - l.i
