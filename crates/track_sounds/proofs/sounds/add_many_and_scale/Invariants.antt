use mathlib.Core.Path.{◌≡◌}
use Prim.Native.Nat.{◌<◌}
use lib.ListN.{length}
use Rattle.links.specs.Links.{line_before}
use Rattle.track_sounds.proofs.laws.Sound.{SoundsLeft}
use Rattle.track_sounds.proofs.sounds.add_many_and_scale.Given as goal

abbrev pub invariant-loop-after : goal.invariant-loop-after
invariant-loop-after l = (length l.to ≡ length l.initial.to)
    × SoundsLeft l.chunk l.heard l.line l.initial.to l.to l.k
    × (0 < l.k)
    × (l.next ≡ line_before l.links l.k)
    × (0 < l.next)
    × (l.after ≡ line_before l.links l.next)

abbrev pub decreases-loop-after : goal.decreases-loop-after
decreases-loop-after l = l.k
