-- `renderer::write_mono` meets its contract: both sides folded are the piece of one channel. Assumes nothing.
use mathlib.Core.Path.{refl, sym, ap, ◌∙◌}
use native.Mathlib.Omega.{arith}
use lib.ListN.{length-set}
use lib.Ieee.{of_int, of_bits}
use borrow.Author.Rules.{rules}
use Rattle.frame.specs.Layout.{scratch, frame_at}
use Rattle.laws.proofs.laws.Pieces.{begun_zero, begun_next, begun_end}
use Rattle.frame.specs.Frame.{clamped}
use Rattle.renderer.specs.Renderer.{channels_of}
use Rattle.renderer.proofs.laws.Lengths.{frame_piece, length_frames}
use Rattle.renderer.proofs.laws.Channels.{mono_put}
use Rattle.renderer.proofs.renderer.write_mono.Goals as goal

pub loop-i-init : goal.loop-i-init
loop-i-init c = (search rules, refl, begun_zero _ _)

pub loop-i-preserved : goal.loop-i-preserved
unfolding of_int of_bits
loop-i-preserved c =
    let h = c.loop-i-test.true in
    let is = c.clamped-both.ensures ∙ ap clamped c.frame_at.ensures in (
      omega (arith, h),
      simp length-set c.loop-i.invariant.1,
      begun_next (frame_piece 1 (frame_at (scratch 0 c.args.frames) c.args.mix.now)) c.loop-i.i c.args.out.now c.loop-i.invariant.2
          (sym (length_frames 1 (frame_at (scratch 0 c.args.frames) c.args.mix.now) c.loop-i.i))
          (ap (channels_of 1) is) (mono_put c.loop-i.out c.loop-i.i c.clamped-both.result (omega (arith, h, c.loop-i.invariant.1, c.requires.out_sized))),
    )

pub returns : goal.returns
returns c =
    begun_end (frame_piece 1 (frame_at (scratch 0 c.args.frames) c.args.mix.now)) c.args.out.now (omega (arith, c.loop-i-test.false, c.loop-i.invariant.0))
    (length_frames 1 (frame_at (scratch 0 c.args.frames) c.args.mix.now) c.args.frames ∙ sym c.requires.out_sized) c.loop-i.invariant.2
