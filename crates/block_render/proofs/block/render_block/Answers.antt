-- `render_block` meets its contract. Assumes nothing.
use Rattle.std.proofs.Common.{sym, ap, subst, ◌∙◌, arith}
use Rattle.recordings.specs.Recordings.{Recordings, recordings}
use Rattle.renderer.specs.Renderer.{block_samples}
use Rattle.chunk_render.specs.Block.{CanPlay, CanRender, ClocksAsk, still_samples}
use Rattle.chunk_render.proofs.laws.Clocks.{clocks_ask}
use Rattle.chunk_render.proofs.laws.CanRender.{can_render, can_play}
use Rattle.block_render.proofs.block.render_block.Goals as goal

pub process_still-requires-clause-can_play : goal.process_still-requires-clause-can_play
process_still-requires-clause-can_play c =
    let k = c.stands_still.ensures.still c.if-stands_still.true in
    subst (λ (r : Recordings). CanPlay c.args.scene.now r c.stands_still.new.mixer) (sym c.new-heard.ensures)
    (can_play c.args.scene.now (recordings c.args.samples.now c.args.visitor.now) c.requires.scene_ok c.requires.samples_ok (omega arith, omega arith) k.chunks c.stands_still.new.mixer k.inside)

pub process_still-requires-clause-clocks_can_move : goal.process_still-requires-clause-clocks_can_move
process_still-requires-clause-clocks_can_move c =
    let r = c.requires.rendering in
    let k = c.stands_still.ensures.still c.if-stands_still.true in
    subst (ClocksAsk c.args.scene.now.head) (sym k.clocks) (clocks_ask c.args.scene.now c.requires.scene_ok r.chunks c.args.mixer.now r.inside r.few)

pub returns-then-stands_still-clause-state : goal.returns-then-stands_still-clause-state
returns-then-stands_still-clause-state c = let k = c.stands_still.ensures.still c.if-stands_still.true in c.process_still.ensures.state ∙ k.done

pub returns-then-stands_still-clause-samples : goal.returns-then-stands_still-clause-samples
returns-then-stands_still-clause-samples c =
    let k = c.stands_still.ensures.still c.if-stands_still.true in
    c.process_still.ensures.samples ∙ ap (λ (r : Recordings). still_samples c.args.scene.now r c.stands_still.new.mixer) c.new-heard.ensures
    ∙ k.heard (recordings c.args.samples.now c.args.visitor.now) c.requires.samples_ok

pub process_chunks-requires-clause-can_render : goal.process_chunks-requires-clause-can_render
process_chunks-requires-clause-can_render c =
    let r = c.requires.rendering in
    let samples = recordings c.args.samples.now c.args.visitor.now in
    subst (λ (h : Recordings). CanRender c.args.scene.now h c.stands_still.new.mixer) (sym c.new-heard.ensures)
    (subst (CanRender c.args.scene.now samples) (sym (c.stands_still.ensures.moving c.if-stands_still.false))
    (can_render c.args.scene.now samples c.requires.scene_ok c.requires.samples_ok (omega arith, omega arith) r.chunks c.args.mixer.now r.inside r.few))

pub returns-clause-samples : goal.returns-clause-samples
returns-clause-samples c =
    c.process_chunks.ensures.samples ∙ ap (λ (r : Recordings). block_samples c.args.scene.now r c.stands_still.new.mixer) c.new-heard.ensures
    ∙ ap (block_samples c.args.scene.now (recordings c.args.samples.now c.args.visitor.now)) (c.stands_still.ensures.moving c.if-stands_still.false)
