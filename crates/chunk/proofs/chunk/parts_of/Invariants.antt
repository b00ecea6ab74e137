use mathlib.Core.Path.{◌≡◌}
use mathlib.Core.List.{List}
use Prim.Native.Nat.{ℕ}
use lib.ListN.{replicate}
use lib.IntN.{pos}
use lib.Ieee.{Float, binary32, of_int}
use Rattle.laws.specs.Loop.{changed}
use Rattle.limits.specs.Limits.{chunk_frames_most}
use Rattle.chunk.specs.Chunk.{part_at}
use Rattle.chunk.proofs.chunk.parts_of.Given as goal

-- what the array holds at first
abbrev pub zeros : List Float
zeros = replicate chunk_frames_most (of_int binary32 (pos 0))

-- what is stored at place k
abbrev pub part : ℕ → ℕ → Float → Float
part n k x = part_at k n

abbrev pub invariant-loop-i : goal.invariant-loop-i
invariant-loop-i l = l.parts ≡ changed (part l.frames) l.i l.initial.parts
