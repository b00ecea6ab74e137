use mathlib.Core.Path.{◌≡◌}
use lib.ListN.{length}
use Rattle.frame.specs.Layout.{scratch, with_first}
use Rattle.sound.proofs.laws.Part.{played}
use Rattle.sound.proofs.sound.add_played.Given as goal

abbrev pub invariant-loop-i : goal.invariant-loop-i
invariant-loop-i l = (length l.to ≡ length l.initial.to) × (l.to ≡ with_first (scratch 0 l.frames) (played l.part) l.i l.initial.to)
