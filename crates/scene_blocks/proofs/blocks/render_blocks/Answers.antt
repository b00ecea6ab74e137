-- `render_blocks` meets its contract. Where the loop's end is used, `omega` has beside it that there is a block: so a loop that ends too early is refused
-- where the output is told, at `returns`. Assumes nothing.
use Rattle.std.proofs.Common.{◌≡◌, ◌<◌, ap, ◌∙◌, arith}
use Rattle.recordings.specs.Recordings.{recordings}
use Rattle.laws.proofs.laws.Pieces.{begun_zero}
use Rattle.mixer.specs.Orders.{mixer_ordered}
use Rattle.renderer.specs.Renderer.{chunk_count, chunks_done, block_samples}
use Rattle.scene_blocks.proofs.laws.Blocks.{show_piece, show_length, show_turn, show_end, mixer_start, mixer_next}
use Rattle.scene_blocks.proofs.laws.Turn.{rendering_at, nanos_ask}
use Rattle.scene_blocks.proofs.blocks.render_blocks.Goals as goal

pub block_length-length-requires : goal.block_length-length-requires
block_length-length-requires c = nanos_ask c.args.scene.now c.requires.scene_ok

pub loop-b-init : goal.loop-b-init
loop-b-init c =
    (c.requires.state_of_a_new_mixer ∙ mixer_start c.args.scene.now, begun_zero (show_piece c.args.scene.now (recordings c.args.samples.now c.args.visitor.now)) c.args.output.now)

pub render_block-requires-clause-rendering : goal.render_block-requires-clause-rendering
render_block-requires-clause-rendering c =
    let more : c.loop-b.b < c.args.scene.now.head.blocks = omega (arith, c.loop-b-test.true, c.requires.scene_ok.blocks.0) in
    rendering_at c.args.scene.now c.loop-b.b c.requires.scene_ok more c.loop-b.invariant.0 c.read_orders-ordered.ensures.state c.read_orders-ordered.ensures.none

pub loop-b-preserved : goal.loop-b-preserved
loop-b-preserved c =
    let s = c.args.scene.now in
    let samples = recordings c.args.samples.now c.args.visitor.now in
    let b = c.loop-b.b in
    let read = c.read_orders-ordered.ensures.state ∙ ap (mixer_ordered s b) c.loop-b.invariant.0 in (
      c.render_block.ensures.state ∙ ap (chunks_done s (chunk_count s.head)) read ∙ mixer_next s b,
      show_turn s samples c.requires.scene_ok b c.args.output.now c.loop-b.invariant.1 (c.render_block.ensures.samples ∙ ap (block_samples s samples) read),
    )

pub returns : goal.returns
returns c =
    let s = c.args.scene.now in
    let all : c.loop-b.b ≡ s.head.blocks = omega (arith, c.loop-b-test.false, c.loop-b.auto.b-end, c.requires.scene_ok.blocks.0) in
    show_end s (recordings c.args.samples.now c.args.visitor.now) c.requires.scene_ok c.args.output.now all (show_length s c.requires.scene_ok c.requires.output_sized) c.loop-b.invariant.1
