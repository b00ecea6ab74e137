-- A loop that follows the links of a track's routes, which are counted from the end: `RoutesLeft` is its invariant. Assumes nothing.
use mathlib.Core.Path.{◌≡◌, sym, ap, ◌∙◌, subst}
use mathlib.Core.List.{List}
use Prim.Native.Nat.{ℕ, ◌+◌, ◌-◌, ◌≤◌, ◌<◌}
use native.Mathlib.Nat.{le_trans}
use native.Mathlib.Omega.{arith}
use lib.ListN.{length}
use lib.Ieee.{Float}
use Rattle.recordings.specs.Recordings.{Recordings}
use Rattle.limits.specs.Limits.{track_places, send_lines}
use Rattle.frame.specs.declared.frame.Frame.{Frame}
use Rattle.frame.specs.Frame.{added_scaled}
use Rattle.frame.specs.Layout.{with_frames}
use Rattle.chunk.specs.declared.chunk.Chunk.{Chunk}
use Rattle.chunk.specs.declared.chunk.ChunkRoute.{ChunkRoute}
use Rattle.chunk.specs.Chunk.{ChunkOk, route_row}
use Rattle.links.specs.Links.{last_line, line_before}
use Rattle.track_sounds.specs.Owners.{route_links}
use Rattle.send_track.specs.Send.{send_places, send_layout, on_sends}
use Rattle.track.specs.Sub.{with_routes_from}
use Rattle.send_track.proofs.laws.Send.{all_sends, sends_steps}
use Rattle.track_sounds.proofs.laws.Owners.{Follows, Skips, follow_start, follow_less, follow_turn, follow_done}
use Rattle.track.proofs.laws.Sub.{route_back, route_taken, route_left, routes_done}

-- the track of the route on line k + 1, counted from the end
abbrev route_owner : Chunk → ℕ → ℕ
route_owner c k = (route_row c (c.route_count - (k + 1))).track

routes_skip : (c : Chunk) (line : ℕ) (given : ℕ → Frame) (begun x : List Float) → Skips (all_sends c.frames) (route_back c line given) c.route_count (route_owner c) line begun x
routes_skip c line given begun x k b d = route_left c line given (c.route_count - (k + 1)) x d

-- two ways to count from the end
back_one : (n r : ℕ) → 0 < r → n - r ≡ n - (r - 1 + 1)
back_one n r h = omega arith

-- route r, counted from the end, is still to do
abbrev pub RoutesLeft : Chunk → ℕ → (ℕ → Frame) → List Float → List Float → ℕ → Type 0
RoutesLeft c line given begun now r = Follows (all_sends c.frames) (route_back c line given) c.route_count (route_owner c) line begun now r

module _ (c : Chunk) (samples : Recordings) (ok : ChunkOk c samples) (line : ℕ) (given : ℕ → Frame) (begun : List Float) {links : List ℕ} (few : line ≤ track_places) (linked : links ≡ route_links c) where
  pub routes_begin : {r : ℕ} → r ≡ last_line links line → RoutesLeft c line given begun begun r
  unfolding route_links
  routes_begin at = follow_start (all_sends c.frames) (route_back c line given) c.route_count (route_owner c) line begun (routes_skip c line given begun begun) few linked at

  pub routes_less : (r : ℕ) (now : List Float) {next : ℕ} → next ≡ line_before links r → 0 < r → RoutesLeft c line given begun now r → next < r
  unfolding route_links
  routes_less r now at h f = follow_less (all_sends c.frames) (route_back c line given) c.route_count (route_owner c) line begun r now (omega (arith, ok.routes)) few linked at h f

  pub routes_turn : (r : ℕ) (now : List Float) {next : ℕ} {last : List Float} {route : ChunkRoute} → next ≡ line_before links r → 0 < r → RoutesLeft c line given begun now r → route ≡ route_row c (c.route_count - r) → last ≡ with_frames (send_layout (route.send - 1) c.frames) (added_scaled given route.amplitude) now → RoutesLeft c line given begun last next
  unfolding route_links
  routes_turn r now at h f read made =
      let n = c.route_count in
      let row = read ∙ ap (λ (i : ℕ). route_row c i) (back_one n r h) in
      let routed = ok.routed (n - (r - 1 + 1)) (omega (arith, h, f.few)) in
      follow_turn (all_sends c.frames) (route_back c line given) n (route_owner c) line begun r now (routes_skip c line given begun _) (omega (arith, ok.routes)) few linked at h f
      (made
      ∙ ap (λ (x : ChunkRoute). with_frames (send_layout (x.send - 1) c.frames) (added_scaled given x.amplitude) now) row
      ∙ route_taken c line given (n - (r - 1 + 1)) now (f.own h) routed.0 (le_trans routed.1 ok.sends))

  pub routes_end : {r : ℕ} {now : List Float} → length begun ≡ send_places → r ≡ 0 → RoutesLeft c line given begun now r → now ≡ on_sends c.frames (with_routes_from c line given) begun
  routes_end long none f =
      follow_done (all_sends c.frames) (route_back c line given) c.route_count (route_owner c) line begun (sends_steps c.frames ok.short) (omega (arith, long)) none f
      ∙ routes_done c line given begun

-- its send track is one that there is
pub route_sent : (c : Chunk) (samples : Recordings) (r : ℕ) {route : ChunkRoute} → ChunkOk c samples → 0 < r → r ≤ c.route_count → route ≡ route_row c (c.route_count - r) → (1 ≤ route.send) × (route.send ≤ send_lines)
route_sent c samples r ok h few read =
    let there = ok.routed (c.route_count - r) (omega (arith, h, few)) in
    subst (λ (x : ChunkRoute). (1 ≤ x.send) × (x.send ≤ send_lines)) (sym read) (there.0, le_trans there.1 ok.sends)
