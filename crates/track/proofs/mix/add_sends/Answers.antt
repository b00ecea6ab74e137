-- A loop over the send tracks, latest line first: its invariant is that of `downto` with a step on the frames as its turn.
use mathlib.Core.Path.{refl, ap, ◌∙◌}
use Prim.Native.Nat.{ℕ, ◌-◌}
use native.Mathlib.Omega.{arith}
use Rattle.laws.specs.Loop.{downto}
use Rattle.frame.specs.Layout.{scratch, with_frames}
use Rattle.track.specs.Mix.{with_send_tracks}
use Rattle.frame.proofs.laws.Places.{scratch_apart}
use Rattle.frame.proofs.laws.Turn.{frames_steps, turns, turn_length, down_turn, down_done}
use Rattle.track.proofs.mix.add_sends.Invariants.{step, none_yet, before_it, after_it}
use Rattle.track.proofs.mix.add_sends.Goals as goal

pub loop-done-init : goal.loop-done-init
loop-done-init c =
    let chunk = c.args.chunk.now in
    (refl, refl, ap (λ (j : ℕ). downto (turns (with_frames (scratch 0 chunk.frames)) (step chunk c.args.sends.now)) j c.args.out.now) (none_yet chunk.send_count))

pub loop-done-preserved : goal.loop-done-preserved
loop-done-preserved c =
    let chunk = c.args.chunk.now in
    let L = scratch 0 chunk.frames in
    let done = c.loop-done.done in
    let count = chunk.send_count in
    let h = c.loop-done-test.true in
    let last = c.add_send.new.out in
    let g = step chunk c.args.sends.now in
    let e = c.add_send.ensures
    ∙ ap (λ (j : ℕ). with_frames L (g j) c.loop-done.out) (before_it count done) in (
      refl,
      turn_length (with_frames L) (frames_steps L (scratch_apart 0 chunk.frames)) (g (count - done - 1)) c.args.out.now c.loop-done.out c.loop-done.invariant.1 e,
      ap (λ (j : ℕ). downto (turns (with_frames L) g) j last) (after_it count done) ∙ down_turn (with_frames L) g c.args.out.now c.loop-done.out (count - done) (omega (arith, h)) c.loop-done.invariant.2 e,
    )

pub returns : goal.returns
unfolding with_send_tracks
returns c =
    let chunk = c.args.chunk.now in
    let L = scratch 0 chunk.frames in
    down_done (with_frames L) (frames_steps L (scratch_apart 0 chunk.frames)) (step chunk c.args.sends.now) chunk.send_count c.args.out.now (omega (arith, c.requires.room_for_frames)) (omega (arith, c.loop-done-test.false, c.loop-done.auto.done-end)) c.loop-done.invariant.2
