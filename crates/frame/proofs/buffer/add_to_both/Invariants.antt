use mathlib.Core.Path.{◌≡◌}
use lib.ListN.{length}
use Rattle.frame.specs.Frame.{added_from, added_scaled}
use Rattle.frame.specs.Layout.{scratch, frame_at, with_first}
use Rattle.frame.proofs.buffer.add_to_both.Given as goal

abbrev pub invariant-loop-i : goal.invariant-loop-i
invariant-loop-i l = (length l.to ≡ length l.initial.to)
    × (length l.other ≡ length l.initial.other)
    × (l.to ≡ with_first (scratch 0 l.frames) (added_from (frame_at (scratch 0 l.frames) l.from)) l.i l.initial.to)
    × (l.other ≡ with_first (scratch l.first l.frames) (added_scaled (frame_at (scratch 0 l.frames) l.from) l.factor) l.i l.initial.other)
