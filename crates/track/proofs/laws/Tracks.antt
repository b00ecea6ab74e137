-- A loop that follows the links of the tracks right below a line: `TracksLeft` is its invariant, of the sum and of what is sent. Tracks that are not
-- used have no links, and leave both as they are. Assumes nothing.
use mathlib.Core.Path.{◌≡◌, ◌∙◌}
use mathlib.Core.Bool.{Bool, true, false, cond}
use mathlib.Core.List.{List}
use Prim.Native.Nat.{ℕ, suc, ◌-◌, ◌*◌, ◌≤◌, ◌<◌}
use native.Mathlib.Omega.{arith}
use lib.ListN.{length}
use lib.Ieee.{Float}
use Rattle.recordings.specs.Recordings.{Recordings}
use Rattle.limits.specs.Limits.{track_places}
use Rattle.links.specs.Links.{owners, lines, last_line, line_before}
use Rattle.links.specs.Walk.{Earlier}
use Rattle.links.proofs.laws.Walk.{earlier}
use Rattle.frame.specs.Frame.{added_from}
use Rattle.frame.specs.Layout.{scratch, with_frames}
use Rattle.frame.specs.Running.{AllRunning}
use Rattle.frame.proofs.laws.Places.{scratch_apart}
use Rattle.frame.proofs.laws.Turn.{frames_steps}
use Rattle.chunk.specs.declared.chunk.Chunk.{Chunk}
use Rattle.chunk.specs.Chunk.{ChunkOk, track_row}
use Rattle.track_sounds.specs.Owners.{used_parent, SubTrackLinks}
use Rattle.send_track.specs.Send.{send_places, on_sends, SendsRunning}
use Rattle.track.specs.Sub.{track_frame, with_track_sends, with_sub_sends}
use Rattle.send_track.proofs.laws.Send.{all_sends, sends_steps}
use Rattle.track_sounds.proofs.laws.Owners.{Follows, follow_start, follow_turn, follow_done}
use Rattle.track.proofs.laws.Sub.{sub_step, sub_send, sub_sum, sub_taken, send_taken, sub_done, send_done}
use Rattle.track.proofs.laws.Unused.{sum_skips, sends_skip}

-- the tracks from line j on are still to be mixed
pub record TracksLeft (c : Chunk) (samples : Recordings) (d line : ℕ) (links : List ℕ) (sum₀ sends₀ sum sends : List Float) (j : ℕ) : Type 0 where
  pub linked : SubTrackLinks c links
  pub summed : Follows (with_frames (scratch 0 c.frames)) (sub_step d c samples line) c.track_count (used_parent c linked.used) line sum₀ sum j
  pub sent : Follows (all_sends c.frames) (sub_send d c samples line) c.track_count (used_parent c linked.used) line sends₀ sends j

-- a track with a link stands below its owner
below_owner : (b : Bool) (parent line : ℕ) → line ≤ track_places → cond b parent owners ≡ line → parent ≡ line
below_owner true parent line h e = e
below_owner false parent line h e = absurd (omega (arith, h, e))

pub tracks_earlier : {c : Chunk} {samples : Recordings} {links : List ℕ} → ChunkOk c samples → SubTrackLinks c links → Earlier links
tracks_earlier {c} ok s = earlier (used_parent c s.used) c.track_count (omega (arith, ok.tracks)) s.links

module _ {c : Chunk} {samples : Recordings} (ok : ChunkOk c samples) (d line : ℕ) (few : line ≤ track_places) (sum₀ sends₀ : List Float) {links : List ℕ} where
  pub tracks_begin : {j : ℕ} → SubTrackLinks c links → AllRunning c.frames sum₀ → SendsRunning c sends₀ → j ≡ last_line links line → TracksLeft c samples d line links sum₀ sends₀ sum₀ sends₀ j
  tracks_begin s run sent at =
      record {
        linked = s;
        summed = follow_start (with_frames (scratch 0 c.frames)) (sub_step d c samples line) c.track_count (used_parent c s.used) line sum₀ (sum_skips ok s.all d line few sum₀ sum₀ run) few s.links at;
        sent = follow_start (all_sends c.frames) (sub_send d c samples line) c.track_count (used_parent c s.used) line sends₀ (sends_skip ok s.all d line few sends₀ sends₀ sent) few s.links at;
      }

  module _ {sum sends : List Float} {j : ℕ} (f : TracksLeft c samples d line links sum₀ sends₀ sum sends j) where
    room : c.track_count ≤ lines
    room = omega (arith, ok.tracks)

    parent_is : 0 < j → (track_row c (j - 1)).parent ≡ line
    parent_is h = below_owner (f.linked.used (suc (j - 1))) (track_row c (j - 1)).parent line few (f.summed.own h)

    pub tracks_turn : {next : ℕ} {sum' sends' : List Float} → next ≡ line_before links j → 0 < j → AllRunning c.frames sum' → SendsRunning c sends' → sum' ≡ with_frames (scratch 0 c.frames) (added_from (track_frame d c samples j)) sum → sends' ≡ on_sends c.frames (with_track_sends d c samples j) sends → TracksLeft c samples d line links sum₀ sends₀ sum' sends' next
    tracks_turn {next} {sum'} {sends'} at h run sent a b =
        let s = f.linked in
        record {
          linked = s;
          summed =
              follow_turn (with_frames (scratch 0 c.frames)) (sub_step d c samples line) c.track_count (used_parent c s.used) line sum₀ j sum (sum_skips ok s.all d line few sum₀ sum' run) room few s.links at h f.summed
              (a ∙ sub_taken d c samples line j sum h (parent_is h));
          sent =
              follow_turn (all_sends c.frames) (sub_send d c samples line) c.track_count (used_parent c s.used) line sends₀ j sends (sends_skip ok s.all d line few sends₀ sends' sent) room few s.links at h f.sent
              (b ∙ send_taken d c samples line j sends h (parent_is h));
        }

    pub tracks_end : 2 * c.frames ≤ length sum₀ → length sends₀ ≡ send_places → j ≡ 0 → (sum ≡ with_frames (scratch 0 c.frames) (sub_sum d c samples line) sum₀) × (sends ≡ on_sends c.frames (with_sub_sends d c samples line) sends₀)
    tracks_end long whole none = (
      follow_done (with_frames (scratch 0 c.frames)) (sub_step d c samples line) c.track_count (used_parent c f.linked.used) line sum₀ (frames_steps (scratch 0 c.frames) (scratch_apart 0 c.frames)) (omega (arith, long)) none f.summed ∙ sub_done d c samples line sum₀,
      follow_done (all_sends c.frames) (sub_send d c samples line) c.track_count (used_parent c f.linked.used) line sends₀ (sends_steps c.frames ok.short) (omega (arith, whole)) none f.sent ∙ send_done d c samples line sends₀,
    )
