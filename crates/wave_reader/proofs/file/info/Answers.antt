-- `info` meets its contract. Assumes nothing.
use mathlib.Core.Path.{ap, ◌∙◌}
use Prim.Native.Nat.{ℕ}
use Rattle.wave_sound.proofs.laws.Refusals.{number_passed}
use Rattle.wave_reader.specs.Read.{held}
use Rattle.wave_reader.proofs.laws.Read.{holds_told, refused_told}
use Rattle.wave_reader.proofs.file.info.Goals as goal

pub returns-in_err-sound : goal.returns-in_err-sound
returns-in_err-sound c =
    ap (λ (n : ℕ). held n c.args.rate.now c.args.channels.now c.args.bits.now c.args.frames.now) (number_passed c.from_residual.result c.in_err-sound.field-0.0 c.from_residual.ensures.1)
    ∙ refused_told c.args.file.now c.args.rate.now c.args.channels.now c.args.bits.now c.args.frames.now c.sound_in.ensures c.in_err-sound.was

pub returns : goal.returns
returns c = holds_told c.args.file.now c.args.rate.now c.args.channels.now c.args.bits.now c.args.frames.now c.sound_in.ensures c.in_ok-sound.was c.bits.ensures
