-- `info` meets its contract. Assumes nothing.
use mathlib.Core.Path.{sym, ap, ◌∙◌}
use Prim.Native.Nat.{ℕ}
use Rattle.wave_sound.proofs.laws.Refusals.{number_passed}
use Rattle.aiff_reader.specs.Read.{held}
use Rattle.aiff_reader.proofs.laws.Read.{info_holds, info_refused}
use Rattle.aiff_reader.proofs.file.info.Goals as goal

pub returns-in_err-sound : goal.returns-in_err-sound
returns-in_err-sound c =
    ap (λ (n : ℕ). held n c.args.rate.now c.args.channels.now c.args.frames.now) (number_passed c.from_residual.result c.in_err-sound.field-0.0 c.from_residual.ensures.1)
    ∙ sym (info_refused c.args.file.now c.in_err-sound.field-0.0 c.args.rate.now c.args.channels.now c.args.frames.now (sym c.in_err-sound.ensures))

pub returns : goal.returns
returns c = sym (info_holds c.args.file.now c.in_ok-sound.sound c.args.rate.now c.args.channels.now c.args.frames.now (sym c.in_ok-sound.ensures))
