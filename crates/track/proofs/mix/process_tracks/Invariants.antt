use mathlib.Core.Path.{◌≡◌}
use mathlib.Core.List.{List}
use Prim.Native.Nat.{ℕ}
use lib.ListN.{length}
use lib.Ieee.{Float}
use Rattle.recordings.specs.Recordings.{Recordings}
use Rattle.chunk.specs.declared.chunk.Chunk.{Chunk}
use Rattle.limits.specs.Limits.{track_depth}
use Rattle.track.proofs.laws.Tracks.{TracksLeft}
use Rattle.frame.specs.Running.{AllRunning}
use Rattle.send_track.specs.Send.{SendsRunning}
use Rattle.track.proofs.mix.process_tracks.Given as goal

abbrev pub Inv : Chunk → Recordings → List ℕ → List Float → List Float → List Float → List Float → ℕ → Type 0
Inv chunk samples links out₀ sends₀ out sends j = (length out ≡ length out₀) × (length sends ≡ length sends₀) × TracksLeft chunk samples track_depth 0 links out₀ sends₀ out sends j × AllRunning chunk.frames out × SendsRunning chunk sends

abbrev pub invariant-loop-j : goal.invariant-loop-j
invariant-loop-j l = Inv l.chunk l.heard l.links.sub_tracks l.initial.out l.initial.sends l.out l.sends l.j-iterator.line × (l.j-iterator.links.now ≡ l.links.sub_tracks)
