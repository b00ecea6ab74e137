use mathlib.Core.Path.{◌≡◌}
use Prim.Native.Nat.{ℕ}
use lib.ListN.{length}
use Rattle.frame.specs.declared.frame.Frame.{Frame}
use Rattle.frame.specs.Layout.{scratch, with_first, StepIs}
use Rattle.frame.proofs.buffer.each_frame.Given as goal

abbrev pub invariant-loop-i : goal.invariant-loop-i
invariant-loop-i g l =
    (length l.buffer ≡ length l.initial.buffer)
    × ((f : ℕ → Frame → Frame) → StepIs l.frames (goal.F-post g l.step) f → l.buffer ≡ with_first (scratch l.first l.frames) f l.i l.initial.buffer)
