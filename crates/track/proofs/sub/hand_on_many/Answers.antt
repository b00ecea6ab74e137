-- A loop that follows the links of a track's routes up to the last two, which are left for the pass with the sum: its invariant is `RoutesLeft` (`laws`,
-- Routes), and that the next two lines are known.
use mathlib.Core.Path.{◌≡◌, refl, ◌∙◌}
use Prim.Native.Nat.{ℕ, ◌-◌, ◌<◌}
use native.Mathlib.Omega.{arith}
use Rattle.chunk.specs.declared.chunk.Chunk.{Chunk}
use Rattle.chunk.specs.Chunk.{route_row}
use Rattle.frame.specs.declared.frame.Frame.{Frame}
use Rattle.frame.specs.Frame.{added_scaled}
use Rattle.frame.specs.Layout.{scratch, frame_at, with_frames}
use Rattle.frame.proofs.laws.Layout.{kept}
use Rattle.send_track.specs.Send.{send_layout}
use Rattle.track_sounds.proofs.laws.Owners.{two_there}
use Rattle.track.proofs.laws.Routes.{routes_begin, routes_less, routes_turn, routes_end}
use Rattle.track.proofs.sub.hand_on_many.Goals as goal

-- what is read
read : (c : Chunk) (r : ℕ) → route_row c r ≡ route_row c r
read c r = refl

pub line_before-after-requires : goal.line_before-after-requires
line_before-after-requires c =
    let chunk = c.args.chunk.now in
    let heard = c.args.heard.now in
    let given : ℕ → Frame = frame_at (scratch 0 chunk.frames) c.args.out.now in
    let sends = c.args.sends.now in
    let ok = c.requires.chunk_ok in
    let begun = routes_begin chunk heard ok c.args.line given sends c.requires.line_in_range c.requires.route_links c.last_line-r.ensures in
    let there : 0 < c.last_line-r.result = omega (arith, c.last_line-r.ensures, c.requires.two_lines_or_more.0) in
    let below = routes_less chunk heard ok c.args.line given sends c.requires.line_in_range c.requires.route_links c.last_line-r.result sends c.line_before-next.ensures there begun in
    (two_there c.args.links.now c.args.line c.last_line-r.ensures c.line_before-next.ensures c.requires.two_lines_or_more.1, omega (arith, below, begun.few, c.requires.chunk_ok.routes))

pub loop-after-init : goal.loop-after-init
loop-after-init c =
    let chunk = c.args.chunk.now in
    let heard = c.args.heard.now in
    let given : ℕ → Frame = frame_at (scratch 0 chunk.frames) c.args.out.now in
    let sends = c.args.sends.now in
    let ok = c.requires.chunk_ok in
    let begun = routes_begin chunk heard ok c.args.line given sends c.requires.line_in_range c.requires.route_links c.last_line-r.ensures in
    let there : 0 < c.last_line-r.result = omega (arith, c.last_line-r.ensures, c.requires.two_lines_or_more.0) in
    (refl, begun, there, c.line_before-next.ensures, two_there c.args.links.now c.args.line c.last_line-r.ensures c.line_before-next.ensures c.requires.two_lines_or_more.1, c.line_before-after.ensures)

pub line_before-after-requires-in-loop-after : goal.line_before-after-requires-in-loop-after
line_before-after-requires-in-loop-after c =
    let chunk = c.args.chunk.now in
    let heard = c.args.heard.now in
    let given : ℕ → Frame = frame_at (scratch 0 chunk.frames) c.args.out.now in
    let sends = c.args.sends.now in
    let ok = c.requires.chunk_ok in
    let next = routes_turn chunk heard ok c.args.line given sends c.requires.line_in_range c.requires.route_links c.loop-after.r c.loop-after.sends c.loop-after.invariant.3 c.loop-after.invariant.2 c.loop-after.invariant.1 (read chunk (chunk.route_count - c.loop-after.r)) c.add_scaled.ensures in
    let below = routes_less chunk heard ok c.args.line given sends c.requires.line_in_range c.requires.route_links c.loop-after.next _ c.loop-after.invariant.5 c.loop-after.invariant.4 next in
    (c.loop-after-test.true, omega (arith, below, next.few, c.requires.chunk_ok.routes))

pub loop-after-smaller : goal.loop-after-smaller
loop-after-smaller c =
    let chunk = c.args.chunk.now in
    let heard = c.args.heard.now in
    let given : ℕ → Frame = frame_at (scratch 0 chunk.frames) c.args.out.now in
    let sends = c.args.sends.now in
    let ok = c.requires.chunk_ok in
    routes_less chunk heard ok c.args.line given sends c.requires.line_in_range c.requires.route_links c.loop-after.r c.loop-after.sends c.loop-after.invariant.3 c.loop-after.invariant.2 c.loop-after.invariant.1

pub loop-after-preserved : goal.loop-after-preserved
loop-after-preserved c =
    let chunk = c.args.chunk.now in
    let heard = c.args.heard.now in
    let given : ℕ → Frame = frame_at (scratch 0 chunk.frames) c.args.out.now in
    let sends = c.args.sends.now in
    let ok = c.requires.chunk_ok in
    let made = c.add_scaled.ensures in (
      kept (send_layout ((route_row chunk (chunk.route_count - c.loop-after.r)).send - 1) chunk.frames) (added_scaled given (route_row chunk (chunk.route_count - c.loop-after.r)).amplitude) chunk.frames c.loop-after.sends made ∙ c.loop-after.invariant.0,
      routes_turn chunk heard ok c.args.line given sends c.requires.line_in_range c.requires.route_links c.loop-after.r c.loop-after.sends c.loop-after.invariant.3 c.loop-after.invariant.2 c.loop-after.invariant.1 (read chunk (chunk.route_count - c.loop-after.r)) made,
      c.loop-after.invariant.4,
      c.loop-after.invariant.5,
      c.loop-after-test.true,
      c.line_before-after-in-loop-after.ensures,
    )

pub overflow_sub-other : goal.overflow_sub-other
overflow_sub-other c =
    let chunk = c.args.chunk.now in
    let heard = c.args.heard.now in
    let given : ℕ → Frame = frame_at (scratch 0 chunk.frames) c.args.out.now in
    let sends = c.args.sends.now in
    let ok = c.requires.chunk_ok in
    let below = routes_less chunk heard ok c.args.line given sends c.requires.line_in_range c.requires.route_links c.loop-after.r c.loop-after.sends c.loop-after.invariant.3 c.loop-after.invariant.2 c.loop-after.invariant.1 in
    omega (arith, below, c.loop-after.invariant.1.few)

pub returns : goal.returns
returns c =
    let chunk = c.args.chunk.now in
    let heard = c.args.heard.now in
    let given : ℕ → Frame = frame_at (scratch 0 chunk.frames) c.args.out.now in
    let sends = c.args.sends.now in
    let ok = c.requires.chunk_ok in
    let mid = with_frames (send_layout ((route_row chunk (chunk.route_count - c.loop-after.r)).send - 1) chunk.frames) (added_scaled given (route_row chunk (chunk.route_count - c.loop-after.r)).amplitude) c.loop-after.sends in
    let one = routes_turn chunk heard ok c.args.line given sends c.requires.line_in_range c.requires.route_links c.loop-after.r c.loop-after.sends c.loop-after.invariant.3 c.loop-after.invariant.2 c.loop-after.invariant.1 (read chunk (chunk.route_count - c.loop-after.r)) refl in
    let two = routes_turn chunk heard ok c.args.line given sends c.requires.line_in_range c.requires.route_links c.loop-after.next mid c.loop-after.invariant.5 c.loop-after.invariant.4 one (read chunk (chunk.route_count - c.loop-after.next)) c.add_to_three.ensures.other in
    record { sum = c.add_to_three.ensures.to; sends = routes_end chunk heard ok c.args.line given sends c.requires.line_in_range c.requires.route_links c.requires.sends_sized (omega (arith, c.loop-after-test.false)) two }
