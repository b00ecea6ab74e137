use mathlib.Core.Path.{◌≡◌}
use mathlib.Core.List.{List}
use Prim.Native.Nat.{ℕ, ◌+◌, ◌-◌}
use native.Mathlib.Omega.{arith}
use lib.ListN.{length}
use lib.Ieee.{Float}
use Rattle.laws.specs.Loop.{downto}
use Rattle.chunk.specs.declared.chunk.Chunk.{Chunk}
use Rattle.frame.specs.Layout.{scratch, frame_at, with_frames}
use Rattle.chunk.specs.Chunk.{send_row}
use Rattle.frame.proofs.laws.Layout.{Step}
use Rattle.frame.proofs.laws.Turn.{turns}
use Rattle.send_track.specs.Send.{added_send, send_layout}
use Rattle.track.proofs.mix.add_sends.Given as goal

-- send track s's turn, counted from 0
abbrev pub step : Chunk → List Float → ℕ → Step
step c inputs s i x = added_send (send_row c s) c.frames (frame_at (send_layout s c.frames) inputs) i x

pub none_yet : (count : ℕ) → count - 0 ≡ count
none_yet count = omega arith

-- the line whose turn comes once so many have had theirs
pub before_it : (count done : ℕ) → count - 1 - done ≡ count - done - 1
before_it count done = omega arith

pub after_it : (count done : ℕ) → count - (done + 1) ≡ count - done - 1
after_it count done = omega arith

abbrev pub Inv : Chunk → List Float → List Float → ℕ → List Float → ℕ → Type 0
Inv chunk sends out₀ count out done =
    (count ≡ chunk.send_count)
    × (length out ≡ length out₀)
    × (downto (turns (with_frames (scratch 0 chunk.frames)) (step chunk sends)) (count - done) out ≡ downto (turns (with_frames (scratch 0 chunk.frames)) (step chunk sends)) chunk.send_count out₀)

abbrev pub invariant-loop-done : goal.invariant-loop-done
invariant-loop-done l = Inv l.chunk l.sends l.initial.out l.count l.out l.done
