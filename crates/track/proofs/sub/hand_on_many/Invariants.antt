use mathlib.Core.Path.{◌≡◌}
use Prim.Native.Nat.{◌<◌}
use lib.ListN.{length}
use Rattle.frame.specs.Layout.{scratch, frame_at}
use Rattle.links.specs.Links.{line_before}
use Rattle.track.proofs.laws.Routes.{RoutesLeft}
use Rattle.track.proofs.sub.hand_on_many.Given as goal

abbrev pub invariant-loop-after : goal.invariant-loop-after
invariant-loop-after l = let chunk = l.chunk in
    (length l.sends ≡ length l.initial.sends)
    × RoutesLeft chunk l.line (frame_at (scratch 0 chunk.frames) l.out) l.initial.sends l.sends l.r
    × (0 < l.r)
    × (l.next ≡ line_before l.links l.r)
    × (0 < l.next)
    × (l.after ≡ line_before l.links l.next)

abbrev pub decreases-loop-after : goal.decreases-loop-after
decreases-loop-after l = l.r
