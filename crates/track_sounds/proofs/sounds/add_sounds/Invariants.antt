use mathlib.Core.Path.{◌≡◌}
use lib.ListN.{length}
use Rattle.track_sounds.proofs.laws.Sound.{SoundsLeft}
use Rattle.track_sounds.proofs.sounds.add_sounds.Given as goal

abbrev pub invariant-loop-k : goal.invariant-loop-k
invariant-loop-k l = (length l.to ≡ length l.initial.to) × SoundsLeft l.chunk l.heard l.line l.initial.to l.to l.k-iterator.line × (l.k-iterator.links.now ≡ l.links)
