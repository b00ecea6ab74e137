use mathlib.Core.Path.{◌≡◌}
use mathlib.Core.List.{List}
use Prim.Native.Nat.{ℕ, ◌+◌, ◌*◌}
use lib.ListN.{length}
use lib.Ieee.{Float}
use Rattle.recordings.specs.Recordings.{Recordings}
use Rattle.chunk.specs.declared.chunk.Chunk.{Chunk}
use Rattle.frame.specs.Running.{AllRunning}
use Rattle.send_track.specs.Send.{SendsRunning}
use Rattle.track.proofs.laws.Tracks.{TracksLeft}
use Rattle.track.proofs.sub.+gather_process.Given as goal

abbrev Inv : Chunk → Recordings → List ℕ → ℕ → ℕ → List Float → List Float → List Float → List Float → ℕ → Type 0
Inv chunk samples links line d out₀ sends₀ out sends j =
    (length out ≡ length out₀)
    × (length sends ≡ length sends₀)
    × TracksLeft chunk samples d line links out₀ sends₀ out sends j
    × AllRunning chunk.frames out
    × SendsRunning chunk sends

abbrev pub decreases-gather : goal.decreases-gather
decreases-gather l = 2 * l.depth + 1

abbrev pub decreases-process : goal.decreases-process
decreases-process l = 2 * l.depth

abbrev pub invariant-gather-loop-j : goal.invariant-gather-loop-j
invariant-gather-loop-j l =
    Inv l.chunk l.heard l.links.sub_tracks l.line l.depth l.initial.out l.initial.sends l.out l.sends l.j-iterator.line × (l.j-iterator.links.now ≡ l.links.sub_tracks)
