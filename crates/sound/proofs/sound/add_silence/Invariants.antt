use mathlib.Core.Path.{◌≡◌}
use lib.ListN.{length}
use Rattle.frame.specs.Frame.{from_frame}
use Rattle.frame.specs.Layout.{scratch, with_first}
use Rattle.sound.specs.Part.{added_zero}
use Rattle.sound.proofs.sound.add_silence.Given as goal

abbrev pub invariant-loop-i : goal.invariant-loop-i
invariant-loop-i l = (length l.to ≡ length l.initial.to) × (l.to ≡ with_first (scratch 0 l.frames) (from_frame l.first added_zero) l.i l.initial.to)
