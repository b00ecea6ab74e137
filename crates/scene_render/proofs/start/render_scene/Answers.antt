-- `render_scene` meets its contract. Assumes nothing.
use Rattle.std.proofs.Common.{ap, subst, ◌∙◌, arith}
use Rattle.recordings.specs.Recordings.{recordings}
use Rattle.chunk.specs.declared.chunk.Chunk.{Chunk}
use Rattle.mixer.specs.declared.mixer.Mixer.{Mixer}
use Rattle.mixer_chunk.specs.ChunkOf.{chunk_of}
use Rattle.mixer_laws.proofs.laws.Mixes.{mixes}
use Rattle.track_sounds.specs.Owners.{Linked}
use Rattle.chunk_render.proofs.laws.Linked.{chunk_fits}
use Rattle.scene_blocks.proofs.laws.Blocks.{wide_head}
use Rattle.scene_render.proofs.laws.Start.{new_made, parents_earlier}
use Rattle.scene_render.proofs.start.render_scene.Goals as goal

pub block_parts-requires-2 : goal.block_parts-requires-2
block_parts-requires-2 c = wide_head c.args.scene c.requires.scene_ok c.still_head.ensures

pub chunk_of-chunk-requires-clause-mixer_fits_scene : goal.chunk_of-chunk-requires-clause-mixer_fits_scene
chunk_of-chunk-requires-clause-mixer_fits_scene c =
    mixes c.args.scene (recordings c.args.samples.now c.args.visitor.now) 0 c.new-mixer.result c.requires.scene_ok c.requires.samples_ok (omega arith, omega arith) (new_made c.args.scene c.requires.scene_ok c.new-mixer.ensures)

pub new-links-requires : goal.new-links-requires
new-links-requires c =
    let s = c.args.scene in
    record {
      lines_fit = chunk_fits s c.new-mixer.result c.requires.scene_ok s.head.buffer c.chunk_of-chunk.ensures;
      parents_earlier = parents_earlier s s.head.buffer c.new-mixer.result c.requires.scene_ok c.chunk_of-chunk.ensures;
    }

pub render_blocks-requires-clause-links_of_the_scene : goal.render_blocks-requires-clause-links_of_the_scene
render_blocks-requires-clause-links_of_the_scene c =
    let s = c.args.scene in
    subst (λ (x : Chunk). Linked x c.new-links.result) (c.chunk_of-chunk.ensures ∙ ap (λ (m : Mixer). chunk_of s s.head.buffer m) c.new-mixer.ensures) c.new-links.ensures.linked
