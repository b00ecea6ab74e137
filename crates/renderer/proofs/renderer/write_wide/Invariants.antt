use mathlib.Core.Path.{◌≡◌}
use mathlib.Core.List.{◌++◌}
use Prim.Native.Nat.{◌-◌, ◌*◌, ◌≤◌}
use lib.ListN.{length, replicate}
use Rattle.frame.specs.Layout.{scratch, frame_at}
use Rattle.frame.specs.Frame.{zero_sample}
use Rattle.laws.specs.Pieces.{pieces}
use Rattle.renderer.proofs.laws.Lengths.{frame_piece}
use Rattle.renderer.proofs.renderer.write_wide.Given as goal

abbrev pub invariant-loop-i : goal.invariant-loop-i
invariant-loop-i l = (l.i ≤ l.frames) × (l.at ≡ l.i * l.channels) × (length l.out ≡ length l.initial.out) × (l.out ≡ pieces (frame_piece l.channels (frame_at (scratch 0 l.frames) l.mix)) l.i ++ replicate ((l.frames - l.i) * l.channels) zero_sample)

abbrev pub decreases-loop-i : goal.decreases-loop-i
decreases-loop-i l = l.frames - l.i
