-- `process_chunks` meets its contract. The invariant: mixer and samples are those after k chunks, and the chunk is the last one's. Assumes nothing.
use Rattle.std.proofs.Common.{sym, ◌∙◌, le_trans, le_of_eq, arith}
use Rattle.chunk_render.proofs.laws.Turn.{inside, starts_before, turn_ends, turn_fits, done_begin, done_turn, samples_begin, samples_turn, samples_end}
use Rattle.chunk_render.proofs.chunks.process_chunks.Goals as goal

pub loop-k-init : goal.loop-k-init
loop-k-init c = (done_begin c.args.scene.now c.args.heard.now c.args.mixer.now, samples_begin c.args.scene.now c.args.heard.now c.args.mixer.now c.args.out.now, λ h. absurd (omega (arith, h)))

pub overflow_mul-from : goal.overflow_mul-from
overflow_mul-from c = let l = inside c.args.scene.now.head c.loop-k-test.true c.chunk_count-k-end.ensures in omega (arith, starts_before c.args.scene.now.head c.requires.scene_ok.buffer.0 c.loop-k.k l, c.requires.scene_ok.block.1)

pub overflow_mul-from-in-loop-k : goal.overflow_mul-from-in-loop-k
overflow_mul-from-in-loop-k c = omega (arith, turn_fits c.args.scene.now.head c.requires.scene_ok.buffer.0 c.loop-k.k (inside c.args.scene.now.head c.loop-k-test.true c.chunk_count-k-end.ensures) c.chunk_frames-frames.ensures c.requires.scene_ok.block.1 c.requires.scene_ok.channels.1)

pub chunk_frames-frames-requires-clause-chunk_in_block : goal.chunk_frames-frames-requires-clause-chunk_in_block
chunk_frames-frames-requires-clause-chunk_in_block c = starts_before c.args.scene.now.head c.requires.scene_ok.buffer.0 c.loop-k.k (inside c.args.scene.now.head c.loop-k-test.true c.chunk_count-k-end.ensures)

pub overflow_mul-to : goal.overflow_mul-to
overflow_mul-to c = omega (arith, turn_fits c.args.scene.now.head c.requires.scene_ok.buffer.0 c.loop-k.k (inside c.args.scene.now.head c.loop-k-test.true c.chunk_count-k-end.ensures) c.chunk_frames-frames.ensures c.requires.scene_ok.block.1 c.requires.scene_ok.channels.1)

pub overflow_add-to : goal.overflow_add-to
overflow_add-to c = omega (arith, turn_fits c.args.scene.now.head c.requires.scene_ok.buffer.0 c.loop-k.k (inside c.args.scene.now.head c.loop-k-test.true c.chunk_count-k-end.ensures) c.chunk_frames-frames.ensures c.requires.scene_ok.block.1 c.requires.scene_ok.channels.1)

pub offset_bounds-out-from : goal.offset_bounds-out-from
offset_bounds-out-from c = omega (arith, turn_fits c.args.scene.now.head c.requires.scene_ok.buffer.0 c.loop-k.k (inside c.args.scene.now.head c.loop-k-test.true c.chunk_count-k-end.ensures) c.chunk_frames-frames.ensures c.requires.scene_ok.block.1 c.requires.scene_ok.channels.1)

pub slice_bounds-process_chunk-end : goal.slice_bounds-process_chunk-end
slice_bounds-process_chunk-end c = le_trans (turn_ends c.args.scene.now.head c.requires.scene_ok.buffer.0 c.loop-k.k (inside c.args.scene.now.head c.loop-k-test.true c.chunk_count-k-end.ensures) c.chunk_frames-frames.ensures) (le_of_eq (sym (c.loop-k.auto.out ∙ c.requires.out_sized)))

pub loop-k-preserved : goal.loop-k-preserved
loop-k-preserved c =
    let s = c.args.scene.now in
    let heard = c.args.heard.now in (
      done_turn s heard c.args.mixer.now c.loop-k.k c.loop-k.invariant.0 c.process_chunk.ensures.state,
      samples_turn s heard c.args.mixer.now c.loop-k.k c.loop-k.invariant.0 c.requires.scene_ok.buffer.0 (inside c.args.scene.now.head c.loop-k-test.true c.chunk_count-k-end.ensures) c.chunk_frames-frames.ensures c.args.out.now c.loop-k.invariant.1 c.process_chunk.ensures.samples,
      λ h. c.process_chunk.ensures.kept,
    )

pub returns-clause-samples : goal.returns-clause-samples
returns-clause-samples c =
    samples_end c.args.scene.now c.args.heard.now c.args.mixer.now c.requires.scene_ok.buffer.0 c.args.out.now c.requires.out_sized
    (omega (arith, c.loop-k-test.false, c.loop-k.auto.k-end, c.chunk_count-k-end.ensures)) c.loop-k.invariant.1
