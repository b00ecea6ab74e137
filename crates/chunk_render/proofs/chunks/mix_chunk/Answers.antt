-- `mix_chunk` meets its contract: the chunk is the mixer's (`laws`, Mixed). Assumes nothing.
use Rattle.std.proofs.Common.{◌∙◌, arith}
use Rattle.chunk_render.proofs.laws.Mixed.{laid_mixes, laid_frames, laid_parts, laid_links, laid_samples}
use Rattle.chunk_render.proofs.chunks.mix_chunk.Goals as goal

pub process_flat-requires-clause-chunk_ok : goal.process_flat-requires-clause-chunk_ok
process_flat-requires-clause-chunk_ok c = laid_mixes c.requires.can_mix c.requires.frames_in_a_chunk c.requires.chunk_laid

pub process_flat-requires-clause-links_of_the_chunk : goal.process_flat-requires-clause-links_of_the_chunk
process_flat-requires-clause-links_of_the_chunk c = laid_links c.args.scene.now c.args.frames c.args.mixer.now c.requires.chunk_laid c.requires.scene_ok c.requires.links_of_the_scene

pub process_flat-requires-clause-parts_of_the_chunk : goal.process_flat-requires-clause-parts_of_the_chunk
process_flat-requires-clause-parts_of_the_chunk c = laid_parts c.args.scene.now c.args.frames c.args.mixer.now c.requires.chunk_laid c.requires.parts_of_the_chunk

pub process_flat-requires-clause-room_for_frames : goal.process_flat-requires-clause-room_for_frames
process_flat-requires-clause-room_for_frames c = omega (arith, laid_frames c.args.scene.now c.args.frames c.args.mixer.now c.requires.chunk_laid, c.requires.frames_in_a_chunk)

pub returns : goal.returns
returns c =
    record {
      state = c.advance.ensures;
      samples =
          c.write_frames.ensures
          ∙ laid_samples c.args.scene.now c.args.frames c.args.mixer.now c.requires.chunk_laid c.args.heard.now c.args.scene.now.head.channels c.args.room.now.mix (omega (arith, c.requires.frames_in_a_chunk)) c.process_flat.ensures;
    }
