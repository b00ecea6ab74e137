-- `sound_of` meets its contract. Assumes nothing.
use mathlib.Core.Path.{sym, ap, ◌∙◌, subst}
use Prim.Native.Nat.{ℕ, ◌≤◌, ◌*◌, ◌%◌}
use native.Mathlib.Omega.{arith}
use borrow.Author.Tests.{not-true, not-false}
use Rattle.wave_sound.proofs.laws.Sound.{sound_no_channels, sound_broken, sound_whole, frame_small, channels_are, width_pos}
use borrow.Author.Rules.{rules}
use Rattle.wave_sound.proofs.sound.sound_of.Goals as goal

pub returns-then-not-channels_ok : goal.returns-then-not-channels_ok
returns-then-not-channels_ok c = sound_no_channels c.args.encoding c.args.channels c.args.rate c.args.start c.args.size (sym c.channels_ok.ensures ∙ not-true _ c.if-not-channels_ok.true-raw)

pub overflow_mul-frame : goal.overflow_mul-frame
overflow_mul-frame c = omega (arith, (frame_small c.args.channels c.width.result (channels_are c.args.channels (sym c.channels_ok.ensures ∙ not-false _ c.if-not-channels_ok.false-raw)) (subst (λ (x : ℕ). (1 ≤ x) × (x ≤ 4)) (sym c.width.ensures.1) (width_pos c.args.encoding))).1)

pub nonzero_rem-size : goal.nonzero_rem-size
nonzero_rem-size c = (frame_small c.args.channels c.width.result (channels_are c.args.channels (sym c.channels_ok.ensures ∙ not-false _ c.if-not-channels_ok.false-raw)) (subst (λ (x : ℕ). (1 ≤ x) × (x ≤ 4)) (sym c.width.ensures.1) (width_pos c.args.encoding))).0

pub returns-then-size-frame-ne0 : goal.returns-then-size-frame-ne0
returns-then-size-frame-ne0 c = sound_broken c.args.encoding c.args.channels c.args.rate c.args.start c.args.size (sym c.channels_ok.ensures ∙ not-false _ c.if-not-channels_ok.false-raw) (λ e. absurd (omega (arith, e, ap (λ (w : ℕ). c.args.size % (c.args.channels * w)) c.width.ensures.1, c.if-size-frame-ne0.true)))

pub nonzero_div-result : goal.nonzero_div-result
nonzero_div-result c = (frame_small c.args.channels c.width.result (channels_are c.args.channels (sym c.channels_ok.ensures ∙ not-false _ c.if-not-channels_ok.false-raw)) (subst (λ (x : ℕ). (1 ≤ x) × (x ≤ 4)) (sym c.width.ensures.1) (width_pos c.args.encoding))).0

pub returns : goal.returns
returns c = sound_whole c.args.encoding c.args.channels c.args.rate c.args.start c.args.size c.width.result c.width.ensures.1 (sym c.channels_ok.ensures ∙ not-false _ c.if-not-channels_ok.false-raw) (search rules)
