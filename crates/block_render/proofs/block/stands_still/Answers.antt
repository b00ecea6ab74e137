-- `stands_still` meets its contract. Assumes nothing.
use Rattle.std.proofs.Common.{◌≡◌, true, sym, ◌∙◌, rules, tests}
use Rattle.chunk_render.proofs.laws.Clocks.{clocks_ask}
use Rattle.block_render.proofs.laws.Still.{rests_still, waits_still}
use Rattle.block_render.proofs.block.stands_still.Goals as goal

pub returns-then-is_steady-clause-still : goal.returns-then-is_steady-clause-still
returns-then-is_steady-clause-still c =
    let r = c.requires.rendering in
    λ _. rests_still c.args.scene.now r.chunks c.args.mixer.now c.requires.scene_ok r.inside (sym c.is_steady.ensures ∙ c.if-is_steady.true)

pub waits_through-requires-clause-clocks_can_move : goal.waits_through-requires-clause-clocks_can_move
waits_through-requires-clause-clocks_can_move c = let r = c.requires.rendering in clocks_ask c.args.scene.now c.requires.scene_ok r.chunks c.args.mixer.now r.inside r.few

pub returns-clause-still : goal.returns-clause-still
returns-clause-still c =
    let r = c.requires.rendering in
    let found : c.waits_through.result ≡ true = search (rules, tests) in
    λ _. waits_still c.args.scene.now r.chunks c.args.mixer.now c.update_levels.new.mixer c.args.time.step c.requires.scene_ok r.inside (r.settled c.if-ordered.false) (c.waits_through.ensures.waits found) c.update_levels.ensures
