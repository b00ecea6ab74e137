-- `renderer::write_frames` meets its contract: one channel, two or more. Assumes nothing.
use mathlib.Core.Path.{sym, ap, ◌∙◌}
use Prim.Native.Nat.{ℕ, ◌*◌}
use native.Mathlib.Omega.{arith}
use Rattle.frame.specs.Layout.{scratch, frame_at}
use Rattle.laws.specs.Pieces.{pieces}
use Rattle.renderer.proofs.laws.Lengths.{frame_piece}
use Rattle.renderer.proofs.renderer.write_frames.Goals as goal

pub write_mono-requires : goal.write_mono-requires
write_mono-requires c = record { out_sized = c.requires.out_sized ∙ ap (λ (n : ℕ). c.args.frames * n) c.if-channels-eq1.true; frames_in_mix = c.requires.frames_in_mix; frames_in_a_chunk = c.requires.frames_and_channels_in_range.0 }

pub returns-then-channels-eq1 : goal.returns-then-channels-eq1
returns-then-channels-eq1 c = c.write_mono.ensures ∙ ap (λ (n : ℕ). pieces (frame_piece n (frame_at (scratch 0 c.args.frames) c.args.mix.now)) c.args.frames) (sym c.if-channels-eq1.true)

pub write_stereo-requires : goal.write_stereo-requires
write_stereo-requires c = record { out_sized = c.requires.out_sized ∙ ap (λ (n : ℕ). c.args.frames * n) c.if-channels-eq2.true; frames_in_mix = c.requires.frames_in_mix; frames_in_a_chunk = c.requires.frames_and_channels_in_range.0 }

pub returns-then-channels-eq2 : goal.returns-then-channels-eq2
returns-then-channels-eq2 c = c.write_stereo.ensures ∙ ap (λ (n : ℕ). pieces (frame_piece n (frame_at (scratch 0 c.args.frames) c.args.mix.now)) c.args.frames) (sym c.if-channels-eq2.true)

pub write_wide-requires : goal.write_wide-requires
write_wide-requires c = record { out_sized = c.requires.out_sized; frames_in_mix = c.requires.frames_in_mix; frames_and_channels_in_range = (c.requires.frames_and_channels_in_range.0, omega (arith, c.requires.frames_and_channels_in_range.1, c.if-channels-eq1.false), c.requires.frames_and_channels_in_range.2) }
