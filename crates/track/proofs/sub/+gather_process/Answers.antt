-- A track's recursion: `gather` leaves the track's frames, by a loop that follows the links of the tracks below it and calls `process` for each, and
-- `process` sends what was gathered and adds it. Each call goes one level down, or from a track to what is below it: the measure is twice the
-- levels left, and one more in `gather`.
use mathlib.Core.Path.{◌≡◌, refl, sym, ap, ◌∙◌, subst}
use mathlib.Core.List.{List}
use Prim.Native.Nat.{ℕ, suc, ◌-◌, ◌*◌, ◌≤◌}
use native.Mathlib.Omega.{arith}
use lib.ListN.{length, replicate}
use lib.Ieee.{Float, of_bits, of_int}
use borrow.Author.Tests.{not-true, not-false}
use Rattle.limits.specs.Limits.{track_places, chunk_frames_most}
use Rattle.chunk.specs.declared.chunk.ChunkTrack.{ChunkTrack}
use Rattle.chunk.specs.declared.chunk.Chunk.{Chunk}
use Rattle.chunk.specs.Chunk.{track_row}
use Rattle.frame.specs.Frame.{zero_sample, added_from}
use Rattle.frame.specs.Layout.{scratch, with_frames}
use Rattle.track.specs.Sub.{track_frame, with_track_sends, track_placed_scaled, sum_set}
use Rattle.links.specs.declared.walk.LinesOf.{LinesOf}
use Rattle.links.specs.Links.{last_line, line_before}
use Rattle.frame.proofs.laws.Layout.{kept}
use Rattle.track.proofs.laws.Running.{zero_silent, running_silent, running_track}
use Rattle.track.proofs.laws.RunningSends.{sends_running}
use Rattle.send_track.proofs.laws.Send.{on_sends-length}
use Rattle.track.proofs.laws.Tracks.{TracksLeft, tracks_begin, tracks_earlier, tracks_turn, tracks_end}
use Rattle.track.proofs.laws.Sub.{sum_gathered, track_added, track_mixed, track_stopped, track_none, sends_mixed, sends_stopped, sends_none}
use Rattle.track.proofs.sub.+gather_process.Goals as goal

-- what a track is mixed in
abbrev scratch_places : ℕ
scratch_places = 2 * chunk_frames_most

abbrev silent : List Float
silent = replicate scratch_places zero_sample

-- and those of few frames
abbrev few_places : ℕ
few_places = 2 * 8

abbrev silent_few : List Float
silent_few = replicate few_places zero_sample

-- what is read
read : (c : Chunk) (j : ℕ) → track_row c j ≡ track_row c j
read c j = refl

pub gather-lines_of-j-items-requires-clause-earlier : goal.gather-lines_of-j-items-requires-clause-earlier
gather-lines_of-j-items-requires-clause-earlier t c = tracks_earlier c.requires.chunk_ok c.requires.links_of_the_chunk.sub_tracks

pub gather-loop-j-init : goal.gather-loop-j-init
gather-loop-j-init t c =
    let chunk = c.args.chunk.now in
    let samples = c.args.heard.now in
    let n = chunk.frames in
    let L = scratch 0 n in
    let line = c.args.line in
    let ok = c.requires.chunk_ok in
    let d = c.args.depth in
    let few : line ≤ track_places = omega (arith, c.requires.line_of_a_track.1, c.requires.chunk_ok.tracks) in
    let run = running_silent n c.args.out.now c.requires.all_zero in
    let sent = c.requires.sends_running in
    let begins = c.into_iter-j-iterator.ensures.into_iter_gives in
    let first : c.into_iter-j-iterator.result.line ≡ last_line c.args.links.now.sub_tracks line = ap (λ (s : LinesOf). s.line) begins ∙ c.lines_of-j-items.ensures.1 in
    ((refl, refl, tracks_begin ok d line few c.args.out.now c.args.sends.now c.requires.links_of_the_chunk.sub_tracks run sent first, run, sent), ap (λ (s : LinesOf). s.links.now) begins ∙ c.lines_of-j-items.ensures.0)

pub gather-loop-j-preserved : goal.gather-loop-j-preserved
gather-loop-j-preserved t c =
    let chunk = c.args.chunk.now in
    let samples = c.args.heard.now in
    let n = chunk.frames in
    let L = scratch 0 n in
    let line = c.args.line in
    let ok = c.requires.chunk_ok in
    let d = c.args.depth in
    let j = c.in-Some.j in
    let step = c.in-Some.ensures.steps in
    let links = c.args.links.now.sub_tracks in
    let next : c.next.new.self.line ≡ line_before links j = step.2 ∙ ap (λ (l : List ℕ). line_before l j) c.loop-j.invariant.1 in
    let left = subst (TracksLeft chunk samples d line links c.args.out.now c.args.sends.now c.loop-j.out c.loop-j.sends) (sym step.1) c.loop-j.invariant.0.2 in
    let few : line ≤ track_places = omega (arith, c.requires.line_of_a_track.1, c.requires.chunk_ok.tracks) in
    let run = running_track n c.loop-j.out (omega (arith, c.loop-j.invariant.0.0, c.requires.room_for_frames)) d chunk samples j c.loop-j.invariant.0.3 c.process.ensures.frames in
    let sent = sends_running chunk samples c.loop-j.sends c.requires.chunk_ok.short c.requires.chunk_ok.sends (c.loop-j.invariant.0.1 ∙ c.requires.sends_sized) d j c.loop-j.invariant.0.4 c.process.ensures.sends in (
      (
        kept L (added_from (track_frame d chunk samples j)) n c.loop-j.out c.process.ensures.frames ∙ c.loop-j.invariant.0.0,
        ap length c.process.ensures.sends ∙ on_sends-length n (with_track_sends d chunk samples j) c.loop-j.sends ∙ c.loop-j.invariant.0.1,
        tracks_turn ok d line few c.args.out.now c.args.sends.now left next step.0 run sent c.process.ensures.frames c.process.ensures.sends,
        run,
        sent,
      ),
      step.3 ∙ c.loop-j.invariant.1,
    )

pub gather-returns : goal.gather-returns
gather-returns t c =
    let chunk = c.args.chunk.now in
    let samples = c.args.heard.now in
    let n = chunk.frames in
    let L = scratch 0 n in
    let line = c.args.line in
    let ok = c.requires.chunk_ok in
    let d = c.args.depth in
    let out = c.args.out.now in
    let few : line ≤ track_places = omega (arith, c.requires.line_of_a_track.1, c.requires.chunk_ok.tracks) in
    let mixed = tracks_end ok d line few out c.args.sends.now c.loop-j.invariant.0.2 c.requires.room_for_frames c.requires.sends_sized c.in-None.ensures.steps.0 in
    let heard = sum_gathered d chunk samples line out c.requires.room_for_frames c.requires.all_zero mixed.0 refl in
    record { sum = c.add_sounds_and_scale.ensures ∙ ap (with_frames L (track_placed_scaled c.args.track n)) heard; sends = mixed.1 }

pub process-returns-then-depth-eq0 : goal.process-returns-then-depth-eq0
process-returns-then-depth-eq0 t c =
    let chunk = c.args.chunk.now in
    let samples = c.args.heard.now in
    let n = chunk.frames in
    let L = scratch 0 n in
    let line = c.args.line in
    let none = c.if-depth-eq0.true in
    record { frames = track_none c.args.depth chunk samples line c.args.to.now none c.requires.frames_running; sends = sends_none c.args.depth chunk samples line c.args.sends.now none }

pub process-returns-then-not-track : goal.process-returns-then-not-track
process-returns-then-not-track t c =
    let chunk = c.args.chunk.now in
    let samples = c.args.heard.now in
    let n = chunk.frames in
    let L = scratch 0 n in
    let line = c.args.line in
    let d = c.args.depth - 1 in
    let deep : c.args.depth ≡ suc d = omega (arith, c.if-depth-eq0.false) in
    let stops = ap (λ (t : ChunkTrack). t.advancing) (sym (read chunk (c.args.line - 1))) ∙ not-true _ c.if-not-track.true in
    record { frames = track_stopped c.args.depth d chunk samples line c.args.to.now deep c.requires.frames_running stops; sends = sends_stopped c.args.depth d chunk samples line c.args.sends.now deep stops }

pub process-gather-requires : goal.process-gather-requires
unfolding of_bits of_int
process-gather-requires t c =
    let chunk = c.args.chunk.now in
    let ok = c.requires.chunk_ok in
    (omega (arith, c.decreases, c.if-depth-eq0.false), (c.requires.gain_table, (ok, (c.requires.links_of_the_chunk, (c.requires.parts_of_the_chunk, (c.requires.line_of_a_track, (omega (arith, c.if-chunk-lt-FEW.true), (c.requires.sends_sized, (zero_silent few_places chunk.frames (omega (arith, c.if-chunk-lt-FEW.true)), ((read chunk (c.args.line - 1)), c.requires.sends_running))))))))))

pub process-returns-then-chunk-lt-FEW : goal.process-returns-then-chunk-lt-FEW
unfolding of_bits of_int
process-returns-then-chunk-lt-FEW t c =
    let chunk = c.args.chunk.now in
    let samples = c.args.heard.now in
    let n = chunk.frames in
    let L = scratch 0 n in
    let line = c.args.line in
    let d = c.args.depth - 1 in
    let deep : c.args.depth ≡ suc d = omega (arith, c.if-depth-eq0.false) in
    let read = (read chunk (c.args.line - 1)) in
    let moves = ap (λ (t : ChunkTrack). t.advancing) (sym read) ∙ not-false _ c.if-not-track.false in
    let out = c.gather.new.out in
    let sum = with_frames L (sum_set d chunk samples line) silent_few in
    let scaled = c.gather.ensures.sum ∙ ap (λ (t : ChunkTrack). with_frames L (track_placed_scaled t n) sum) read in
    let has = track_mixed c.args.depth d chunk samples line deep silent_few (omega (arith, c.if-chunk-lt-FEW.true)) moves refl scaled in
    record { frames = track_added c.args.depth chunk samples line c.args.to.now out has c.hand_on.ensures.sum; sends = sends_mixed c.args.depth d chunk samples line c.args.sends.now deep out c.requires.chunk_ok.short c.requires.sends_sized moves has c.gather.ensures.sends c.hand_on.ensures.sends }

pub process-gather-requires-2 : goal.process-gather-requires-2
unfolding of_bits of_int
process-gather-requires-2 t c =
    let chunk = c.args.chunk.now in
    let ok = c.requires.chunk_ok in
    (omega (arith, c.decreases, c.if-depth-eq0.false), (c.requires.gain_table, (ok, (c.requires.links_of_the_chunk, (c.requires.parts_of_the_chunk, (c.requires.line_of_a_track, (omega (arith, c.requires.chunk_ok.short), (c.requires.sends_sized, (zero_silent scratch_places chunk.frames (omega (arith, c.requires.chunk_ok.short)), ((read chunk (c.args.line - 1)), c.requires.sends_running))))))))))

pub process-returns : goal.process-returns
unfolding of_bits of_int
process-returns t c =
    let chunk = c.args.chunk.now in
    let samples = c.args.heard.now in
    let n = chunk.frames in
    let L = scratch 0 n in
    let line = c.args.line in
    let d = c.args.depth - 1 in
    let deep : c.args.depth ≡ suc d = omega (arith, c.if-depth-eq0.false) in
    let read = (read chunk (c.args.line - 1)) in
    let moves = ap (λ (t : ChunkTrack). t.advancing) (sym read) ∙ not-false _ c.if-not-track.false in
    let out = c.gather-2.new.out in
    let sum = with_frames L (sum_set d chunk samples line) silent in
    let scaled = c.gather-2.ensures.sum ∙ ap (λ (t : ChunkTrack). with_frames L (track_placed_scaled t n) sum) read in
    let has = track_mixed c.args.depth d chunk samples line deep silent (omega (arith, c.requires.chunk_ok.short)) moves refl scaled in
    record { frames = track_added c.args.depth chunk samples line c.args.to.now out has c.hand_on-2.ensures.sum; sends = sends_mixed c.args.depth d chunk samples line c.args.sends.now deep out c.requires.chunk_ok.short c.requires.sends_sized moves has c.gather-2.ensures.sends c.hand_on-2.ensures.sends }
