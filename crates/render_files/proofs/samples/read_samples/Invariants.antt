use mathlib.Core.Path.{◌≡◌}
use mathlib.Core.List.{[], ◌∷◌}
use Prim.Native.Nat.{◌-◌, ◌≤◌, ◌*◌}
use lib.ListN.{length}
use lib.Ieee.{binary32, of_bits}
use Rattle.laws.specs.Pieces.{pieces, begun}
use Rattle.float_bits.specs.Bits.{word_from}
use Rattle.render_files.proofs.samples.read_samples.Given as goal

abbrev pub invariant-loop-i : goal.invariant-loop-i
invariant-loop-i l = (l.i ≤ length l.initial.samples) × (length l.samples ≡ length l.initial.samples) × (l.samples ≡ begun (pieces (λ j. of_bits binary32 (word_from l.raw (4 * j)) ∷ []) l.i) l.initial.samples)

abbrev pub decreases-loop-i : goal.decreases-loop-i
decreases-loop-i l = length l.initial.samples - l.i
