-- What a track's loops over the tracks below it, and over its routes, come to. The loops' turns have names here: `sub_step` and `sub_send` for track j,
-- counted from 0, `route_step` for route r. Then a whole track: its sum is gathered from zeros, scaled, and added. Assumes nothing.
use mathlib.Core.Path.{◌≡◌, refl, sym, ap, ◌∙◌}
use mathlib.Core.Bool.{Bool, true, false, cond, ◌&&◌}
use mathlib.Core.List.{List}
use Prim.Native.Nat.{ℕ, suc, ◌+◌, ◌-◌, ◌*◌, ◌≤◌, ◌<◌}
use native.Mathlib.Nat.{le_refl}
use native.Mathlib.Omega.{arith}
use borrow.Author.Tests.{eq-eqb, ne_eqb}
use lib.Dec.{eqb}
use lib.ListN.{length}
use lib.Ieee.{Float}
use Rattle.recordings.specs.Recordings.{Recordings}
use Rattle.limits.specs.Limits.{send_lines, chunk_frames_most}
use Rattle.laws.proofs.laws.Choice.{cond-true, cond-false}
use Rattle.laws.specs.Loop.{downto}
use Rattle.laws.proofs.laws.Loop.{downto-upto, upto_cong}
use Rattle.frame.specs.declared.frame.Frame.{Frame}
use Rattle.chunk.specs.declared.chunk.Chunk.{Chunk}
use Rattle.frame.specs.Frame.{zero_frame, added, scaled, added_from, added_scaled}
use Rattle.frame.specs.Layout.{scratch, frame_at, with_frames}
use Rattle.frame.specs.Running.{AllRunning, AllZero}
use Rattle.chunk.specs.Chunk.{amount_at, track_amplitude, route_row, track_row}
use Rattle.track_sounds.specs.Sound.{with_sounds}
use Rattle.send_track.specs.Send.{send_places, send_layout, on_sends}
use Rattle.track.specs.Sub.{over_sub_tracks, sum_over, track_sum, track_frame, with_routes, with_track_sends, with_sub_sends, placed, sum_set, track_placed, track_scaled, track_placed_scaled, with_routes_from}
use Rattle.frame.proofs.laws.Places.{scratch_apart}
use Rattle.frame.proofs.laws.Layout.{Step, first_at, first_cong, first_cong_at, first_held, first_twice}
use Rattle.frame.proofs.laws.Turn.{step_picked}
use Rattle.track.proofs.laws.Running.{zeros, absorbed}
use Rattle.send_track.proofs.laws.Send.{SendStep, all_sends, on_sends_cong, on_sends_same, on_sends_twice, one_send}

-- ---- routes

abbrev pub route_step : Chunk → ℕ → (ℕ → Frame) → ℕ → ℕ × ℕ → Frame → Frame
route_step c line frames r p x = cond (eqb (route_row c r).track line && eqb (route_row c r).send p.0) (added x (scaled (frames p.1) (route_row c r).amplitude)) x

module _ (c : Chunk) (line : ℕ) (frames : ℕ → Frame) (r : ℕ) (l : List Float) where
  pub route_taken : (route_row c r).track ≡ line → 1 ≤ (route_row c r).send → (route_row c r).send ≤ send_lines → with_frames (send_layout ((route_row c r).send - 1) c.frames) (added_scaled frames (route_row c r).amplitude) l ≡ all_sends c.frames (route_step c line frames r) l
  unfolding added_scaled
  route_taken e low high =
      let send = (route_row c r).send in
      let f : Step = added_scaled frames (route_row c r).amplitude in
      one_send c.frames send f l low high
      ∙ sym (ap (λ (b : Bool). on_sends c.frames (λ s i x. cond (b && eqb send s) (f i x) x) l) (eq-eqb (route_row c r).track line e))

  pub route_left : ((route_row c r).track ≡ line → ⊥) → all_sends c.frames (route_step c line frames r) l ≡ l
  route_left e =
      ap (λ (b : Bool). on_sends c.frames (λ s i x. cond (b && eqb (route_row c r).send s) (added x (scaled (frames i) (route_row c r).amplitude)) x) l) (ne_eqb (route_row c r).track line e)
      ∙ on_sends_same c.frames (λ s i a. a) l (λ s i a. refl)

-- the route on line k + 1, counted from the end
abbrev pub route_back : Chunk → ℕ → (ℕ → Frame) → ℕ → ℕ × ℕ → Frame → Frame
route_back c line frames k = route_step c line frames (c.route_count - (k + 1))

back_again : (n k : ℕ) → k < n → n - (n - suc k + 1) ≡ k
back_again n k h = omega arith

-- from the end down is from the first line on
pub routes_done : (c : Chunk) (line : ℕ) (frames : ℕ → Frame) (l : List Float) → all_sends c.frames (λ p a. downto (λ k x. route_back c line frames k p x) c.route_count a) l ≡ on_sends c.frames (with_routes_from c line frames) l
unfolding with_routes_from with_routes
routes_done c line frames l =
    let n = c.route_count in
    on_sends_cong c.frames (λ s i a. downto (λ k x. route_back c line frames k (s, i) x) n a) (with_routes_from c line frames) l
    (λ s i h a. downto-upto (λ k x. route_back c line frames k (s, i) x) n a
    ∙ upto_cong (λ k x. route_back c line frames (n - suc k) (s, i) x) (λ r x. route_step c line frames r (s, i) x) n a
    (λ k b x. ap (λ (r : ℕ). route_step c line frames r (s, i) x) (back_again n k b)))

-- ---- the tracks below

abbrev pub sub_step : ℕ → Chunk → Recordings → ℕ → ℕ → Step
sub_step d c samples line j i x = cond (eqb (track_row c j).parent line) (added x (track_frame d c samples (suc j) i)) x

abbrev pub sub_send : ℕ → Chunk → Recordings → ℕ → ℕ → ℕ × ℕ → Frame → Frame
sub_send d c samples line j p x = cond (eqb (track_row c j).parent line) (with_track_sends d c samples (suc j) p.0 p.1 x) x

-- all of them, as one step
abbrev pub sub_sum : ℕ → Chunk → Recordings → ℕ → Step
sub_sum d c samples line i a = over_sub_tracks c line (λ below x. added x (track_frame d c samples below i)) a

line_of : (j : ℕ) → 0 < j → j ≡ suc (j - 1)
line_of j h = omega arith

module _ (d : ℕ) (c : Chunk) (samples : Recordings) (line j : ℕ) (l : List Float) where
  pub sub_taken : 0 < j → (track_row c (j - 1)).parent ≡ line → with_frames (scratch 0 c.frames) (added_from (track_frame d c samples j)) l ≡ with_frames (scratch 0 c.frames) (sub_step d c samples line (j - 1)) l
  unfolding added_from
  sub_taken h e =
      ap (λ (k : ℕ). with_frames (scratch 0 c.frames) (added_from (track_frame d c samples k)) l) (line_of j h)
      ∙ sym (step_picked (with_frames (scratch 0 c.frames)) (track_row c (j - 1)).parent line (added_from (track_frame d c samples (suc (j - 1)))) l e)

  pub send_taken : 0 < j → (track_row c (j - 1)).parent ≡ line → on_sends c.frames (with_track_sends d c samples j) l ≡ all_sends c.frames (sub_send d c samples line (j - 1)) l
  send_taken h e =
      ap (λ (k : ℕ). on_sends c.frames (with_track_sends d c samples k) l) (line_of j h)
      ∙ sym (step_picked (all_sends c.frames) (track_row c (j - 1)).parent line (λ p x. with_track_sends d c samples (suc (j - 1)) p.0 p.1 x) l e)

module _ (d : ℕ) (c : Chunk) (samples : Recordings) (line : ℕ) (l : List Float) where
  pub sub_done : with_frames (scratch 0 c.frames) (λ i a. downto (λ j x. sub_step d c samples line j i x) c.track_count a) l ≡ with_frames (scratch 0 c.frames) (sub_sum d c samples line) l
  unfolding over_sub_tracks
  sub_done = refl

  pub send_done : all_sends c.frames (λ p a. downto (λ j x. sub_send d c samples line j p x) c.track_count a) l ≡ on_sends c.frames (with_sub_sends d c samples line) l
  unfolding with_sub_sends over_sub_tracks
  send_done = refl

-- ---- a whole track

-- from zeros, the tracks below it and its sounds
pub sum_gathered : (d : ℕ) (c : Chunk) (samples : Recordings) (line : ℕ) (l : List Float) {under last : List Float} → 2 * c.frames ≤ length l → AllZero c.frames l → under ≡ with_frames (scratch 0 c.frames) (sub_sum d c samples line) l → last ≡ with_frames (scratch 0 c.frames) (with_sounds c samples line) under → last ≡ with_frames (scratch 0 c.frames) (sum_set d c samples line) l
unfolding sum_set sum_over
sum_gathered d c samples line l w zero a e =
    let n = c.frames in
    let L = scratch 0 n in
    let u : Step = sub_sum d c samples line in
    let s : Step = with_sounds c samples line in
    e
    ∙ ap (with_frames L s) a
    ∙ first_twice L (scratch_apart 0 n) u s n l (le_refl n) (omega (arith, w))
    ∙ first_cong_at L (scratch_apart 0 n) (λ k x. s k (u k x)) (sum_set d c samples line) n l (le_refl n) (λ k p. ap (λ (x : Frame). s k (u k x)) (zero k p))

-- the buffer has the track's frames
abbrev pub HasTrack : ℕ → Chunk → Recordings → ℕ → List Float → Type 0
HasTrack depth c samples line out = (i : ℕ) → i < c.frames → frame_at (scratch 0 c.frames) out i ≡ track_frame depth c samples line i

pub track_added : (depth : ℕ) (c : Chunk) (samples : Recordings) (line : ℕ) (l out : List Float) {last : List Float} → HasTrack depth c samples line out → last ≡ with_frames (scratch 0 c.frames) (added_from (frame_at (scratch 0 c.frames) out)) l → last ≡ with_frames (scratch 0 c.frames) (added_from (track_frame depth c samples line)) l
unfolding added_from
track_added depth c samples line l out has e =
    let L = scratch 0 c.frames in
    e ∙ first_cong L (added_from (frame_at L out)) (added_from (track_frame depth c samples line)) c.frames l (λ k p a. ap (added a) (has k p))

module _ (depth d : ℕ) (c : Chunk) (samples : Recordings) (line : ℕ) (deep : depth ≡ suc d) where
  -- its sum, its placing, and volume times fade
  pub track_mixed : (l : List Float) {sum last : List Float} → 2 * c.frames ≤ length l → (track_row c (line - 1)).advancing ≡ true → sum ≡ with_frames (scratch 0 c.frames) (sum_set d c samples line) l → last ≡ with_frames (scratch 0 c.frames) (track_placed_scaled (track_row c (line - 1)) c.frames) sum → HasTrack depth c samples line last
  unfolding track_frame track_placed_scaled track_placed track_scaled sum_set
  track_mixed l w moves a e i p =
      let n = c.frames in
      let L = scratch 0 n in
      let track = track_row c (line - 1) in
      let u : Step = sum_set d c samples line in
      let v : Step = track_placed_scaled track n in
      ap (λ (r : List Float). frame_at L r i) (e ∙ ap (with_frames L v) a ∙ first_twice L (scratch_apart 0 n) u v n l (le_refl n) (omega (arith, w)))
      ∙ first_at L (scratch_apart 0 n) (λ k x. v k (u k x)) n l i (le_refl n) (omega (arith, w)) p
      ∙ sym (cond-true track.advancing (scaled (placed track.placing (track_sum d c samples line i)) (track_amplitude track (amount_at i n))) zero_frame moves)
      ∙ ap (λ (z : ℕ). track_frame z c samples line i) (sym deep)

module _ (depth d : ℕ) (c : Chunk) (samples : Recordings) (line : ℕ) (l : List Float) (deep : depth ≡ suc d) where
  pub track_stopped : AllRunning c.frames l → (track_row c (line - 1)).advancing ≡ false → l ≡ with_frames (scratch 0 c.frames) (added_from (track_frame depth c samples line)) l
  unfolding added_from track_frame
  track_stopped run stops =
      let L = scratch 0 c.frames in
      let track = track_row c (line - 1) in
      sym (first_held L (added_from (track_frame (suc d) c samples line)) c.frames l
      (λ k p. ap (added (frame_at L l k)) (cond-false track.advancing (scaled (placed track.placing (track_sum d c samples line k)) (track_amplitude track (amount_at k c.frames))) zero_frame stops)
      ∙ absorbed (run k p) zeros))
      ∙ ap (λ (z : ℕ). with_frames L (added_from (track_frame z c samples line)) l) (sym deep)

  pub sends_mixed : (out : List Float) {under last : List Float} → c.frames ≤ chunk_frames_most → length l ≡ send_places → (track_row c (line - 1)).advancing ≡ true → HasTrack depth c samples line out → under ≡ on_sends c.frames (with_sub_sends d c samples line) l → last ≡ on_sends c.frames (with_routes_from c line (frame_at (scratch 0 c.frames) out)) under → last ≡ on_sends c.frames (with_track_sends depth c samples line) l
  unfolding with_routes_from with_track_sends with_sub_sends
  sends_mixed out short long moves has a e =
      let n = c.frames in
      let u : SendStep = with_sub_sends d c samples line in
      let v : SendStep = with_routes_from c line (frame_at (scratch 0 n) out) in
      let z : SendStep = with_track_sends (suc d) c samples line in
      e
      ∙ ap (on_sends n v) a
      ∙ on_sends_twice n short u v l (omega (arith, long))
      ∙ on_sends_cong n (λ s i x. v s i (u s i x)) z l
      (λ s i h x. ap (λ (f : Frame). with_routes c line s f (u s i x)) (has i h ∙ ap (λ (y : ℕ). track_frame y c samples line i) deep)
      ∙ sym (cond-true (track_row c (line - 1)).advancing (with_routes c line s (track_frame (suc d) c samples line i) (u s i x)) x moves))
      ∙ ap (λ (y : ℕ). on_sends n (with_track_sends y c samples line) l) (sym deep)

  pub sends_stopped : (track_row c (line - 1)).advancing ≡ false → l ≡ on_sends c.frames (with_track_sends depth c samples line) l
  unfolding with_track_sends with_sub_sends
  sends_stopped stops =
      sym (on_sends_same c.frames (with_track_sends (suc d) c samples line) l
      (λ s i x. cond-false (track_row c (line - 1)).advancing (with_routes c line s (track_frame (suc d) c samples line i) (with_sub_sends d c samples line s i x)) x stops))
      ∙ ap (λ (y : ℕ). on_sends c.frames (with_track_sends y c samples line) l) (sym deep)

module _ (depth : ℕ) (c : Chunk) (samples : Recordings) (line : ℕ) (l : List Float) (flat : depth ≡ 0) where
  pub track_none : AllRunning c.frames l → l ≡ with_frames (scratch 0 c.frames) (added_from (track_frame depth c samples line)) l
  unfolding added_from track_frame
  track_none run =
      let L = scratch 0 c.frames in
      sym (first_held L (added_from (track_frame 0 c samples line)) c.frames l (λ k p. absorbed (run k p) zeros))
      ∙ ap (λ (z : ℕ). with_frames L (added_from (track_frame z c samples line)) l) (sym flat)

  pub sends_none : l ≡ on_sends c.frames (with_track_sends depth c samples line) l
  unfolding with_track_sends
  sends_none =
      sym (on_sends_same c.frames (with_track_sends 0 c samples line) l (λ s i x. refl))
      ∙ ap (λ (z : ℕ). on_sends c.frames (with_track_sends z c samples line) l) (sym flat)
