-- A track of no route, of one, which goes with the sum, or of more.
use mathlib.Core.Path.{◌≡◌, refl}
use Prim.Native.Nat.{ℕ, ◌-◌}
use native.Mathlib.Omega.{arith}
use Rattle.chunk.specs.declared.chunk.Chunk.{Chunk}
use Rattle.chunk.specs.Chunk.{route_row}
use Rattle.frame.specs.declared.frame.Frame.{Frame}
use Rattle.frame.specs.Layout.{scratch, frame_at}
use Rattle.track.proofs.laws.Routes.{routes_begin, routes_turn, routes_end, route_sent}
use Rattle.track.proofs.sub.hand_on.Goals as goal

-- what is read
read : (c : Chunk) (r : ℕ) → route_row c r ≡ route_row c r
read c r = refl

pub returns-then-last-eq0 : goal.returns-then-last-eq0
returns-then-last-eq0 c =
    let chunk = c.args.chunk.now in
    let heard = c.args.heard.now in
    let given : ℕ → Frame = frame_at (scratch 0 chunk.frames) c.args.out.now in
    let sends = c.args.sends.now in
    let ok = c.requires.chunk_ok in
    record { sum = c.add_frames.ensures; sends = routes_end chunk heard ok c.args.line given sends c.requires.line_in_range c.requires.route_links c.requires.sends_sized c.if-last-eq0.true (routes_begin chunk heard ok c.args.line given sends c.requires.line_in_range c.requires.route_links c.last_line-last.ensures) }

pub line_before-next-requires : goal.line_before-next-requires
line_before-next-requires c =
    let chunk = c.args.chunk.now in
    let heard = c.args.heard.now in
    let given : ℕ → Frame = frame_at (scratch 0 chunk.frames) c.args.out.now in
    let sends = c.args.sends.now in
    let ok = c.requires.chunk_ok in
    let begun = routes_begin chunk heard ok c.args.line given sends c.requires.line_in_range c.requires.route_links c.last_line-last.ensures in
    (omega (arith, c.if-last-eq0.false), omega (arith, begun.few, c.requires.chunk_ok.routes))

pub overflow_sub-route : goal.overflow_sub-route
overflow_sub-route c =
    let chunk = c.args.chunk.now in
    let heard = c.args.heard.now in
    let given : ℕ → Frame = frame_at (scratch 0 chunk.frames) c.args.out.now in
    let sends = c.args.sends.now in
    let ok = c.requires.chunk_ok in
    let begun = routes_begin chunk heard ok c.args.line given sends c.requires.line_in_range c.requires.route_links c.last_line-last.ensures in
    omega (arith, begun.few)

pub overflow_sub-first : goal.overflow_sub-first
overflow_sub-first c =
    let chunk = c.args.chunk.now in
    let heard = c.args.heard.now in
    let given : ℕ → Frame = frame_at (scratch 0 chunk.frames) c.args.out.now in
    let sends = c.args.sends.now in
    let ok = c.requires.chunk_ok in
    let begun = routes_begin chunk heard ok c.args.line given sends c.requires.line_in_range c.requires.route_links c.last_line-last.ensures in
    let send = route_sent chunk heard c.last_line-last.result ok (omega (arith, c.if-last-eq0.false)) begun.few (read chunk (chunk.route_count - c.last_line-last.result)) in
    omega (arith, send.0, send.1)

pub overflow_mul-first : goal.overflow_mul-first
overflow_mul-first c =
    let chunk = c.args.chunk.now in
    let heard = c.args.heard.now in
    let given : ℕ → Frame = frame_at (scratch 0 chunk.frames) c.args.out.now in
    let sends = c.args.sends.now in
    let ok = c.requires.chunk_ok in
    let begun = routes_begin chunk heard ok c.args.line given sends c.requires.line_in_range c.requires.route_links c.last_line-last.ensures in
    let send = route_sent chunk heard c.last_line-last.result ok (omega (arith, c.if-last-eq0.false)) begun.few (read chunk (chunk.route_count - c.last_line-last.result)) in
    omega (arith, send.0, send.1)

pub add_to_both-requires : goal.add_to_both-requires
add_to_both-requires c =
    let chunk = c.args.chunk.now in
    let heard = c.args.heard.now in
    let given : ℕ → Frame = frame_at (scratch 0 chunk.frames) c.args.out.now in
    let sends = c.args.sends.now in
    let ok = c.requires.chunk_ok in
    let begun = routes_begin chunk heard ok c.args.line given sends c.requires.line_in_range c.requires.route_links c.last_line-last.ensures in
    let send = route_sent chunk heard c.last_line-last.result ok (omega (arith, c.if-last-eq0.false)) begun.few (read chunk (chunk.route_count - c.last_line-last.result)) in
    record { room_for_frames = c.requires.room_for_frames; room_for_first = omega (arith, c.requires.sends_sized, send.0, send.1, c.requires.chunk_ok.short); frames_to_add = c.requires.frames_to_add }

pub returns : goal.returns
returns c =
    let chunk = c.args.chunk.now in
    let heard = c.args.heard.now in
    let given : ℕ → Frame = frame_at (scratch 0 chunk.frames) c.args.out.now in
    let sends = c.args.sends.now in
    let ok = c.requires.chunk_ok in
    let begun = routes_begin chunk heard ok c.args.line given sends c.requires.line_in_range c.requires.route_links c.last_line-last.ensures in
    let one = routes_turn chunk heard ok c.args.line given sends c.requires.line_in_range c.requires.route_links c.last_line-last.result sends c.line_before-next.ensures (omega (arith, c.if-last-eq0.false)) begun (read chunk (chunk.route_count - c.last_line-last.result)) c.add_to_both.ensures.other in
    record { sum = c.add_to_both.ensures.to; sends = routes_end chunk heard ok c.args.line given sends c.requires.line_in_range c.requires.route_links c.requires.sends_sized (omega (arith, c.if-next-gt0.false)) one }
