-- `process_still_chunks` meets its contract. The invariant: the sounds have played k chunks, and their samples are there. Assumes nothing.
use Rattle.std.proofs.Common.{◌≡◌, ℕ, sym, ap, ap₂, ◌∙◌, ◌*◌, subst, le_trans, le_of_eq, arith}
use Rattle.laws.proofs.laws.Pieces.{length_part}
use Rattle.mixer.specs.declared.mixer.Mixer.{Mixer}
use Rattle.mixer.specs.Mixes.{MixerMixes}
use Rattle.mixer_chunk.specs.ChunkOf.{chunk_of, chunk_played}
use Rattle.renderer.specs.Renderer.{chunk_count}
use Rattle.still_blocks.proofs.laws.Played.{frames_before}
use Rattle.chunk_render.proofs.laws.Mixed.{rests_laid, rests_on}
use Rattle.chunk_render.proofs.laws.Turn.{inside, starts_before, turn_ends, turn_fits, turn_short, still_some, still_few, still_block, still_channels, played_begin, played_turn, still_begin, still_turn, played_end, still_end}
use Rattle.chunk_render.proofs.chunks.process_still_chunks.Goals as goal

pub put_next_chunk-requires-clause-mixer_fits_scene : goal.put_next_chunk-requires-clause-mixer_fits_scene
put_next_chunk-requires-clause-mixer_fits_scene c =
    let begins = played_begin c.args.scene.now c.args.heard.now c.args.mixer.now c.still_head-head.ensures in
    subst (MixerMixes c.args.scene.now) (sym begins) (c.requires.can_play.mixed (frames_before c.still_head-head.result 0)).mixes

pub put_played-requires-clause-mixer_fits_scene : goal.put_played-requires-clause-mixer_fits_scene
put_played-requires-clause-mixer_fits_scene c = subst (MixerMixes c.args.scene.now) (sym c.loop-k.invariant.0) (c.requires.can_play.mixed (frames_before c.still_head-head.result c.loop-k.k)).mixes

pub mix_chunk-requires-clause-chunk_laid : goal.mix_chunk-requires-clause-chunk_laid
mix_chunk-requires-clause-chunk_laid c =
    let s = c.args.scene.now in
    let n = c.chunk_frames-frames.result in
    c.put_played.ensures ∙ ap (λ (x : Mixer). chunk_played s n x c.loop-k.chunk) c.loop-k.invariant.0
    ∙ c.loop-k.invariant.2 n (frames_before c.still_head-head.result c.loop-k.k) ∙ ap (chunk_of s n) (sym c.loop-k.invariant.0)

pub chunk_count-k-end-requires : goal.chunk_count-k-end-requires
chunk_count-k-end-requires c = (still_some c.args.scene.now.head c.still_head-head.ensures, still_few c.args.scene.now.head c.still_head-head.ensures, le_trans (le_of_eq (still_block c.args.scene.now.head c.still_head-head.ensures)) c.requires.scene_ok.block.1)

pub loop-k-init : goal.loop-k-init
loop-k-init c = (played_begin c.args.scene.now c.args.heard.now c.args.mixer.now c.still_head-head.ensures, still_begin c.args.scene.now c.args.heard.now c.args.mixer.now c.still_head-head.ensures c.args.out.now, rests_laid c.args.scene.now c.still_head-head.result.buffer c.args.mixer.now c.put_next_chunk.ensures)

pub chunk_frames-frames-requires-clause-block_in_range : goal.chunk_frames-frames-requires-clause-block_in_range
chunk_frames-frames-requires-clause-block_in_range c = le_trans (le_of_eq (still_block c.args.scene.now.head c.still_head-head.ensures)) c.requires.scene_ok.block.1

pub overflow_mul-from : goal.overflow_mul-from
overflow_mul-from c = let l = inside c.still_head-head.result c.loop-k-test.true c.chunk_count-k-end.ensures in omega (arith, starts_before c.still_head-head.result (still_some c.args.scene.now.head c.still_head-head.ensures) c.loop-k.k l, (le_trans (le_of_eq (still_block c.args.scene.now.head c.still_head-head.ensures)) c.requires.scene_ok.block.1))

pub overflow_mul-from-in-loop-k : goal.overflow_mul-from-in-loop-k
overflow_mul-from-in-loop-k c = omega (arith, turn_fits c.still_head-head.result (still_some c.args.scene.now.head c.still_head-head.ensures) c.loop-k.k (inside c.still_head-head.result c.loop-k-test.true c.chunk_count-k-end.ensures) c.chunk_frames-frames.ensures (le_trans (le_of_eq (still_block c.args.scene.now.head c.still_head-head.ensures)) c.requires.scene_ok.block.1) (le_trans (le_of_eq (still_channels c.args.scene.now.head c.still_head-head.ensures)) c.requires.scene_ok.channels.1))

pub chunk_frames-frames-requires-clause-chunk_in_block : goal.chunk_frames-frames-requires-clause-chunk_in_block
chunk_frames-frames-requires-clause-chunk_in_block c = starts_before c.still_head-head.result (still_some c.args.scene.now.head c.still_head-head.ensures) c.loop-k.k (inside c.still_head-head.result c.loop-k-test.true c.chunk_count-k-end.ensures)

pub overflow_mul-to : goal.overflow_mul-to
overflow_mul-to c = omega (arith, turn_fits c.still_head-head.result (still_some c.args.scene.now.head c.still_head-head.ensures) c.loop-k.k (inside c.still_head-head.result c.loop-k-test.true c.chunk_count-k-end.ensures) c.chunk_frames-frames.ensures (le_trans (le_of_eq (still_block c.args.scene.now.head c.still_head-head.ensures)) c.requires.scene_ok.block.1) (le_trans (le_of_eq (still_channels c.args.scene.now.head c.still_head-head.ensures)) c.requires.scene_ok.channels.1))

pub overflow_add-to : goal.overflow_add-to
overflow_add-to c = omega (arith, turn_fits c.still_head-head.result (still_some c.args.scene.now.head c.still_head-head.ensures) c.loop-k.k (inside c.still_head-head.result c.loop-k-test.true c.chunk_count-k-end.ensures) c.chunk_frames-frames.ensures (le_trans (le_of_eq (still_block c.args.scene.now.head c.still_head-head.ensures)) c.requires.scene_ok.block.1) (le_trans (le_of_eq (still_channels c.args.scene.now.head c.still_head-head.ensures)) c.requires.scene_ok.channels.1))

pub offset_bounds-out-from : goal.offset_bounds-out-from
offset_bounds-out-from c = omega (arith, turn_fits c.still_head-head.result (still_some c.args.scene.now.head c.still_head-head.ensures) c.loop-k.k (inside c.still_head-head.result c.loop-k-test.true c.chunk_count-k-end.ensures) c.chunk_frames-frames.ensures (le_trans (le_of_eq (still_block c.args.scene.now.head c.still_head-head.ensures)) c.requires.scene_ok.block.1) (le_trans (le_of_eq (still_channels c.args.scene.now.head c.still_head-head.ensures)) c.requires.scene_ok.channels.1))

pub slice_bounds-mix_chunk-end : goal.slice_bounds-mix_chunk-end
slice_bounds-mix_chunk-end c = le_trans (turn_ends c.still_head-head.result (still_some c.args.scene.now.head c.still_head-head.ensures) c.loop-k.k (inside c.still_head-head.result c.loop-k-test.true c.chunk_count-k-end.ensures) c.chunk_frames-frames.ensures) (le_of_eq (sym (c.loop-k.auto.out ∙ c.requires.out_sized ∙ sym (ap₂ ◌*◌ (still_block c.args.scene.now.head c.still_head-head.ensures) (still_channels c.args.scene.now.head c.still_head-head.ensures)))))

pub chunk_parts-requires-clause-head_ok : goal.chunk_parts-requires-clause-head_ok
chunk_parts-requires-clause-head_ok c = (still_some c.args.scene.now.head c.still_head-head.ensures, still_few c.args.scene.now.head c.still_head-head.ensures, le_trans (le_of_eq (still_block c.args.scene.now.head c.still_head-head.ensures)) c.requires.scene_ok.block.1)

pub mix_chunk-requires-clause-frames_in_a_chunk : goal.mix_chunk-requires-clause-frames_in_a_chunk
mix_chunk-requires-clause-frames_in_a_chunk c = turn_short c.still_head-head.result (still_some c.args.scene.now.head c.still_head-head.ensures) c.loop-k.k (inside c.still_head-head.result c.loop-k-test.true c.chunk_count-k-end.ensures) c.chunk_frames-frames.ensures (still_few c.args.scene.now.head c.still_head-head.ensures)

pub mix_chunk-requires-clause-out_sized : goal.mix_chunk-requires-clause-out_sized
mix_chunk-requires-clause-out_sized c =
    let h = c.args.scene.now.head in
    let g = c.still_head-head.result in
    let e = c.still_head-head.ensures in
    let ends = turn_ends g (still_some h e) c.loop-k.k (inside g c.loop-k-test.true c.chunk_count-k-end.ensures) c.chunk_frames-frames.ensures in
    length_part (c.loop-k.k * g.buffer * g.channels) (c.chunk_frames-frames.result * g.channels) c.loop-k.out (le_trans ends (le_of_eq (sym (c.loop-k.auto.out ∙ c.requires.out_sized ∙ sym (ap₂ ◌*◌ (still_block h e) (still_channels h e))))))
    ∙ ap (λ (i : ℕ). c.chunk_frames-frames.result * i) (still_channels h e)

pub loop-k-preserved : goal.loop-k-preserved
loop-k-preserved c =
    let s = c.args.scene.now in (
      played_turn s c.args.heard.now c.args.mixer.now c.still_head-head.ensures c.loop-k.k c.chunk_frames-frames.ensures c.loop-k.invariant.0 c.mix_chunk.ensures.state,
      still_turn s c.args.heard.now c.args.mixer.now c.still_head-head.ensures c.loop-k.k c.chunk_frames-frames.ensures c.loop-k.invariant.0 (inside c.still_head-head.result c.loop-k-test.true c.chunk_count-k-end.ensures) c.args.out.now c.loop-k.invariant.1 c.mix_chunk.ensures.samples,
      rests_on s c.chunk_frames-frames.result (frames_before c.still_head-head.result c.loop-k.k) c.args.mixer.now
          (c.put_played.ensures ∙ ap (λ (x : Mixer). chunk_played s c.chunk_frames-frames.result x c.loop-k.chunk) c.loop-k.invariant.0 ∙ c.loop-k.invariant.2 c.chunk_frames-frames.result (frames_before c.still_head-head.result c.loop-k.k)),
    )

pub returns : goal.returns
returns c =
    let last : c.loop-k.k ≡ chunk_count c.still_head-head.result = omega (arith, c.loop-k-test.false, c.loop-k.auto.k-end, c.chunk_count-k-end.ensures) in
    record { state = played_end c.args.scene.now c.args.heard.now c.args.mixer.now c.still_head-head.ensures last c.loop-k.invariant.0; samples = still_end c.args.scene.now c.args.heard.now c.args.mixer.now c.still_head-head.ensures last c.args.out.now c.requires.out_sized c.loop-k.invariant.1 }
