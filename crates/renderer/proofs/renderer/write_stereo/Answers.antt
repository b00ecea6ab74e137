-- `renderer::write_stereo` meets its contract: the two sides are the piece of two channels. Assumes nothing.
use mathlib.Core.Path.{◌≡◌, refl, sym, ap, ◌∙◌, subst}
use mathlib.Core.List.{List}
use Prim.Native.Nat.{ℕ, ◌+◌, ◌*◌, ◌<◌}
use native.Mathlib.Omega.{arith}
use lib.ListN.{length, set, length-set}
use lib.Ieee.{Float}
use borrow.Author.Rules.{rules}
use Rattle.frame.specs.Layout.{scratch, frame_at}
use Rattle.laws.proofs.laws.Pieces.{begun_zero, begun_next, begun_end}
use Rattle.frame.specs.Frame.{clamped}
use Rattle.renderer.specs.Renderer.{channels_of}
use Rattle.renderer.proofs.laws.Lengths.{frame_piece, length_frames}
use Rattle.renderer.proofs.laws.Channels.{stereo_put}
use Rattle.renderer.proofs.renderer.write_stereo.Goals as goal

-- two writes keep the length, whatever is written
set_twice : (l : List Float) (i j : ℕ) (x y : Float) → length (set (set l i x) j y) ≡ length l
set_twice l i j x y = length-set (set l i x) j y ∙ length-set l i x

pub loop-i-init : goal.loop-i-init
loop-i-init c = (search rules, refl, begun_zero _ _)

pub bounds-out-i-in-loop-i : goal.bounds-out-i-in-loop-i
bounds-out-i-in-loop-i c = subst (λ (n : ℕ). 2 * c.loop-i.i + 1 < n) (sym (length-set c.loop-i.out (2 * c.loop-i.i) _)) (omega (arith, c.loop-i-test.true, c.loop-i.invariant.1, c.requires.out_sized))

pub loop-i-preserved : goal.loop-i-preserved
loop-i-preserved c =
    let h = c.loop-i-test.true in
    let is = c.clamped-sides.ensures ∙ ap clamped c.frame_at.ensures in (
      omega (arith, h),
      set_twice c.loop-i.out (2 * c.loop-i.i) (2 * c.loop-i.i + 1) _ _ ∙ c.loop-i.invariant.1,
      begun_next (frame_piece 2 (frame_at (scratch 0 c.args.frames) c.args.mix.now)) c.loop-i.i c.args.out.now c.loop-i.invariant.2
          (sym (length_frames 2 (frame_at (scratch 0 c.args.frames) c.args.mix.now) c.loop-i.i))
          (ap (channels_of 2) is) (stereo_put c.loop-i.out c.loop-i.i c.clamped-sides.result (omega (arith, h, c.loop-i.invariant.1, c.requires.out_sized))),
    )

pub returns : goal.returns
returns c =
    begun_end (frame_piece 2 (frame_at (scratch 0 c.args.frames) c.args.mix.now)) c.args.out.now (omega (arith, c.loop-i-test.false, c.loop-i.invariant.0))
    (length_frames 2 (frame_at (scratch 0 c.args.frames) c.args.mix.now) c.args.frames ∙ sym c.requires.out_sized) c.loop-i.invariant.2
