-- `last_frames` meets its contract. Assumes nothing.
use mathlib.Core.Path.{ap, ◌∙◌}
use Prim.Native.Nat.{ℕ, ◌-◌}
use native.Mathlib.Omega.{arith}
use Rattle.renderer.specs.Renderer.{chunk_frames}
use Rattle.scene_blocks.proofs.laws.Blocks.{count_positive, last_starts}
use Rattle.scene_render.proofs.start.last_frames.Goals as goal

pub overflow_sub-chunk_count : goal.overflow_sub-chunk_count
overflow_sub-chunk_count c =
    let h = c.args.head in
    omega (arith, c.chunk_count.ensures, count_positive h c.requires.0 c.requires.2)

pub chunk_frames-requires : goal.chunk_frames-requires
chunk_frames-requires c =
    let h = c.args.head in
    record { chunk_in_block = last_starts h c.requires.0 c.requires.2 c.chunk_count.ensures; block_in_range = c.requires.3 }

pub returns : goal.returns
returns c = c.chunk_frames.ensures ∙ ap (λ (n : ℕ). chunk_frames c.args.head (n - 1)) c.chunk_count.ensures
