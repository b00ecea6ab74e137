-- The tracks right under the mixer: the buffer is cleared, and a loop follows the links of the tracks whose parent is the mixer. Its invariant says of
-- either buffer what is still to do.
use mathlib.Core.Path.{◌≡◌, refl, sym, ap, ◌∙◌, subst}
use mathlib.Core.List.{List}
use Prim.Native.Nat.{ℕ}
use native.Mathlib.Omega.{arith}
use lib.ListN.{length}
use Rattle.links.specs.declared.walk.LinesOf.{LinesOf}
use Rattle.links.specs.Links.{last_line, line_before}
use Rattle.frame.specs.Frame.{cleared, added_from}
use Rattle.frame.specs.Layout.{scratch, with_frames}
use Rattle.limits.specs.Limits.{track_depth}
use Rattle.frame.proofs.laws.Layout.{kept}
use Rattle.track.specs.Sub.{track_frame, with_track_sends}
use Rattle.track.proofs.laws.Tracks.{TracksLeft, tracks_begin, tracks_earlier, tracks_turn, tracks_end}
use Rattle.track.proofs.laws.Sub.{sub_sum}
use Rattle.track.proofs.laws.Running.{running_cleared, running_track}
use Rattle.track.proofs.laws.RunningSends.{sends_running}
use Rattle.track.proofs.laws.Mix.{tracks_mixed}
use Rattle.send_track.proofs.laws.Send.{on_sends-length}
use Rattle.track.proofs.mix.process_tracks.Goals as goal

pub lines_of-j-items-requires-clause-earlier : goal.lines_of-j-items-requires-clause-earlier
lines_of-j-items-requires-clause-earlier c = tracks_earlier c.requires.chunk_ok c.requires.links_of_the_chunk.sub_tracks

pub loop-j-init : goal.loop-j-init
loop-j-init c =
    let chunk = c.args.chunk.now in
    let run = running_cleared chunk.frames c.args.out.now c.requires.room_for_frames c.clear.ensures in
    let sent = c.requires.sends_running in
    let begins = c.into_iter-j-iterator.ensures.into_iter_gives in
    let first : c.into_iter-j-iterator.result.line ≡ last_line c.args.links.now.sub_tracks 0 = ap (λ (s : LinesOf). s.line) begins ∙ c.lines_of-j-items.ensures.1 in
    ((refl, refl, tracks_begin c.requires.chunk_ok track_depth 0 (omega arith) _ c.args.sends.now c.requires.links_of_the_chunk.sub_tracks run sent first, run, sent), ap (λ (s : LinesOf). s.links.now) begins ∙ c.lines_of-j-items.ensures.0)

pub loop-j-preserved : goal.loop-j-preserved
loop-j-preserved c =
    let chunk = c.args.chunk.now in
    let samples = c.args.heard.now in
    let j = c.in-Some.j in
    let step = c.in-Some.ensures.steps in
    let out = c.clear.new.buffer in
    let links = c.args.links.now.sub_tracks in
    let next : c.next.new.self.line ≡ line_before links j = step.2 ∙ ap (λ (l : List ℕ). line_before l j) c.loop-j.invariant.1 in
    let left = subst (TracksLeft chunk samples track_depth 0 links out c.args.sends.now c.loop-j.out c.loop-j.sends) (sym step.1) c.loop-j.invariant.0.2 in
    let cleared_length = kept (scratch 0 chunk.frames) cleared chunk.frames c.args.out.now c.clear.ensures in
    let run = running_track chunk.frames c.loop-j.out (omega (arith, c.loop-j.invariant.0.0, cleared_length, c.requires.room_for_frames)) track_depth chunk samples j c.loop-j.invariant.0.3 c.process.ensures.frames in
    let sent = sends_running chunk samples c.loop-j.sends c.requires.chunk_ok.short c.requires.chunk_ok.sends (c.loop-j.invariant.0.1 ∙ c.requires.sends_sized) track_depth j c.loop-j.invariant.0.4 c.process.ensures.sends in (
      (
        kept (scratch 0 chunk.frames) (added_from (track_frame track_depth chunk samples j)) chunk.frames c.loop-j.out c.process.ensures.frames ∙ c.loop-j.invariant.0.0,
        ap length c.process.ensures.sends ∙ on_sends-length chunk.frames (with_track_sends track_depth chunk samples j) c.loop-j.sends ∙ c.loop-j.invariant.0.1,
        tracks_turn c.requires.chunk_ok track_depth 0 (omega arith) out c.args.sends.now left next step.0 run sent c.process.ensures.frames c.process.ensures.sends,
        run,
        sent,
      ),
      step.3 ∙ c.loop-j.invariant.1,
    )

pub returns : goal.returns
returns c =
    let chunk = c.args.chunk.now in
    let samples = c.args.heard.now in
    let n = chunk.frames in
    let out = c.clear.new.buffer in
    let L = scratch 0 n in
    let long = c.requires.room_for_frames in
    let clears = c.clear.ensures in
    let cleared_length = kept L cleared n c.args.out.now clears in
    let mixed = tracks_end c.requires.chunk_ok track_depth 0 (omega arith) out c.args.sends.now c.loop-j.invariant.0.2 (omega (arith, cleared_length, long)) c.requires.sends_sized c.in-None.ensures.steps.0 in
    record { frames = tracks_mixed chunk samples c.args.out.now long (mixed.0 ∙ ap (with_frames L (sub_sum track_depth chunk samples 0)) clears); sends = mixed.1 }
