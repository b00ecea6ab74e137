-- `aiff_to_wave` meets its contract. Assumes nothing.
use mathlib.Core.Path.{sym, ap, ◌∙◌}
use Prim.Native.Nat.{ℕ}
use Rattle.wave_sound.proofs.laws.Refusals.{number_passed}
use Rattle.wave_writer.specs.Write.{writing}
use Rattle.sound_converter.proofs.laws.Convert.{wave_holds, wave_refused}
use Rattle.sound_converter.proofs.routines.aiff_to_wave.Goals as goal

pub to_wave-requires : goal.to_wave-requires
to_wave-requires c = sym c.sound_in.ensures ∙ c.in_ok-sound.was

pub returns-in_err-sound : goal.returns-in_err-sound
returns-in_err-sound c =
    ap (λ (n : ℕ). writing n c.args.wave.now) (number_passed c.from_residual.result c.in_err-sound.field-0.0 c.from_residual.ensures.1)
    ∙ wave_refused c.args.aiff.now c.args.wave.now c.in_err-sound.field-0.0 (sym c.sound_in.ensures ∙ c.in_err-sound.was)

pub returns : goal.returns
returns c = c.to_wave.ensures ∙ wave_holds c.args.aiff.now c.args.wave.now c.in_ok-sound.sound (sym c.sound_in.ensures ∙ c.in_ok-sound.was)
