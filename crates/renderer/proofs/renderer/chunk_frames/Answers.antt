use mathlib.Core.Path.{sym}
use Prim.Native.Nat.{◌-◌, ◌*◌}
use lib.Dec.{ltb}
use borrow.Author.Rules.{rules}
use borrow.Author.Tests.{lt-ltb, le-ltb}
use Rattle.laws.proofs.laws.Choice.{cond-true, cond-false}
use Rattle.renderer.specs.Renderer.{chunk_frames}
use Rattle.renderer.proofs.renderer.chunk_frames.Goals as goal

pub returns-then-left-head : goal.returns-then-left-head
unfolding chunk_frames
returns-then-left-head c =
    let left = c.args.head.block - c.args.k * c.args.head.buffer in
    sym (cond-true (ltb left c.args.head.buffer) left c.args.head.buffer (lt-ltb left c.args.head.buffer (search rules)))

pub returns : goal.returns
unfolding chunk_frames
returns c =
    let left = c.args.head.block - c.args.k * c.args.head.buffer in
    sym (cond-false (ltb left c.args.head.buffer) left c.args.head.buffer (le-ltb left c.args.head.buffer (search rules)))
