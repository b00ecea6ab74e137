-- `wave_to_aiff` meets its contract. Assumes nothing.
use mathlib.Core.Path.{sym, ap, ◌∙◌}
use Prim.Native.Nat.{ℕ}
use Rattle.wave_sound.proofs.laws.Holds.{holds_inside}
use Rattle.wave_sound.proofs.laws.Refusals.{number_passed}
use Rattle.wave_writer.specs.Write.{writing}
use Rattle.sound_converter.proofs.laws.Convert.{aiff_holds, aiff_refused}
use Rattle.sound_converter.proofs.routines.wave_to_aiff.Goals as goal

pub to_aiff-requires : goal.to_aiff-requires
to_aiff-requires c = holds_inside c.args.wave.now c.in_ok-sound.sound (sym c.sound_in.ensures ∙ c.in_ok-sound.was)

pub returns-in_err-sound : goal.returns-in_err-sound
returns-in_err-sound c =
    ap (λ (n : ℕ). writing n c.args.aiff.now) (number_passed c.from_residual.result c.in_err-sound.field-0.0 c.from_residual.ensures.1)
    ∙ aiff_refused c.args.wave.now c.args.aiff.now c.in_err-sound.field-0.0 (sym c.sound_in.ensures ∙ c.in_err-sound.was)

pub returns : goal.returns
returns c = c.to_aiff.ensures ∙ aiff_holds c.args.wave.now c.args.aiff.now c.in_ok-sound.sound (sym c.sound_in.ensures ∙ c.in_ok-sound.was)
