-- A loop over the frames of a mix, onto a buffer of silence: the two sides of each are written, and behind them all is silent still.
use mathlib.Core.Path.{◌≡◌, refl, sym, ap, ◌∙◌, subst}
use mathlib.Core.List.{List, ◌++◌}
use Prim.Native.Nat.{ℕ, ◌+◌, ◌-◌, ◌*◌, ◌≤◌, ◌<◌}
use native.Mathlib.Nat.{zero-mul}
use native.Mathlib.Omega.{arith}
use lib.ListN.{length, set, replicate, length-set}
use lib.Ieee.{Float}
use borrow.Author.Rules.{rules}
use Rattle.frame.specs.declared.frame.Frame.{Frame}
use Rattle.frame.specs.Layout.{scratch, frame_at}
use Rattle.frame.specs.Frame.{clamped, zero_sample}
use Rattle.laws.specs.Pieces.{pieces}
use Rattle.laws.proofs.laws.Pieces.{pieces_next}
use Rattle.renderer.specs.Renderer.{channels_of}
use Rattle.renderer.proofs.laws.Lengths.{next_place, frame_piece, length_frames}
use Rattle.renderer.proofs.laws.Channels.{wide_put, silent_left, silent_first, silent_none}
use Rattle.renderer.proofs.renderer.write_wide.Goals as goal

next_at : (i c : ℕ) {at : ℕ} → at ≡ i * c → at + c ≡ (i + 1) * c
next_at i c e = omega (arith, e)

-- a store at the place `at` of frame i, and one behind it
place_in : (i n c : ℕ) {at long : ℕ} → i < n → 2 ≤ c → at ≡ i * c → long ≡ n * c → at + 1 < long
place_in i n c h more e is = omega (arith, next_place c i n h, more, e, is)

set_twice : (l : List Float) (i j : ℕ) (x y : Float) → length (set (set l i x) j y) ≡ length l
set_twice l i j x y = length-set (set l i x) j y ∙ length-set l i x

pub loop-i-init : goal.loop-i-init
loop-i-init c = (search rules, sym (zero-mul c.args.channels), refl, silent_first (frame_piece c.args.channels (frame_at (scratch 0 c.args.frames) c.args.mix.now)) c.args.frames c.args.channels (c.silence.ensures ∙ ap (λ (n : ℕ). replicate n zero_sample) c.requires.out_sized))

pub offset_bounds-out-at : goal.offset_bounds-out-at
offset_bounds-out-at c =
    let long = c.loop-i.invariant.2 ∙ c.silence.auto.out ∙ c.requires.out_sized in
    let inside = place_in c.loop-i.i c.args.frames c.args.channels c.loop-i-test.true c.requires.frames_and_channels_in_range.1 c.loop-i.invariant.1 long in
    search (rules, inside)

pub bounds-out-at : goal.bounds-out-at
bounds-out-at c =
    let long = c.loop-i.invariant.2 ∙ c.silence.auto.out ∙ c.requires.out_sized in
    let inside = place_in c.loop-i.i c.args.frames c.args.channels c.loop-i-test.true c.requires.frames_and_channels_in_range.1 c.loop-i.invariant.1 long in
    search (rules, inside)

pub overflow_add-out : goal.overflow_add-out
overflow_add-out c =
    let long = c.loop-i.invariant.2 ∙ c.silence.auto.out ∙ c.requires.out_sized in
    let inside = place_in c.loop-i.i c.args.frames c.args.channels c.loop-i-test.true c.requires.frames_and_channels_in_range.1 c.loop-i.invariant.1 long in
    search (rules, inside)

pub offset_bounds-out-at-in-loop-i : goal.offset_bounds-out-at-in-loop-i
offset_bounds-out-at-in-loop-i c =
    let long = c.loop-i.invariant.2 ∙ c.silence.auto.out ∙ c.requires.out_sized in
    let inside = place_in c.loop-i.i c.args.frames c.args.channels c.loop-i-test.true c.requires.frames_and_channels_in_range.1 c.loop-i.invariant.1 long in
    search (rules, inside)

pub bounds-out-at-in-loop-i : goal.bounds-out-at-in-loop-i
bounds-out-at-in-loop-i c =
    let long = c.loop-i.invariant.2 ∙ c.silence.auto.out ∙ c.requires.out_sized in
    let inside = place_in c.loop-i.i c.args.frames c.args.channels c.loop-i-test.true c.requires.frames_and_channels_in_range.1 c.loop-i.invariant.1 long in
    subst (λ (n : ℕ). c.loop-i.at + 1 < n) (sym (length-set c.loop-i.out c.loop-i.at _)) inside

pub overflow_add-at : goal.overflow_add-at
overflow_add-at c =
    let long = c.loop-i.invariant.2 ∙ c.silence.auto.out ∙ c.requires.out_sized in
    let inside = place_in c.loop-i.i c.args.frames c.args.channels c.loop-i-test.true c.requires.frames_and_channels_in_range.1 c.loop-i.invariant.1 long in
    search (rules, inside)

pub loop-i-preserved : goal.loop-i-preserved
loop-i-preserved c =
    let h = c.loop-i-test.true in
    let i = c.loop-i.i in
    let mix = frame_at (scratch 0 c.args.frames) c.args.mix.now in
    let f = frame_piece c.args.channels mix in
    let left = (c.args.frames - (i + 1)) * c.args.channels in
    let is = c.clamped-frame.ensures ∙ ap clamped c.frame_at.ensures in (
      omega (arith, h),
      next_at i c.args.channels c.loop-i.invariant.1,
      set_twice c.loop-i.out c.loop-i.at (c.loop-i.at + 1) _ _ ∙ c.loop-i.invariant.2,
      wide_put c.args.channels left c.loop-i.at c.clamped-frame.result (pieces f i) c.requires.frames_and_channels_in_range.1 (c.loop-i.invariant.1 ∙ sym (length_frames c.args.channels mix i))
          (c.loop-i.invariant.3 ∙ ap (λ (n : ℕ). pieces f i ++ replicate n zero_sample) (silent_left c.args.frames i c.args.channels h))
          ∙ ap (λ (p : List Float). p ++ replicate left zero_sample) (ap (λ (x : Frame). pieces f i ++ channels_of c.args.channels x) is ∙ sym (pieces_next f i)),
    )

pub returns : goal.returns
returns c = silent_none (frame_piece c.args.channels (frame_at (scratch 0 c.args.frames) c.args.mix.now)) c.args.frames c.args.channels (omega (arith, c.loop-i-test.false, c.loop-i.invariant.0)) c.loop-i.invariant.3
