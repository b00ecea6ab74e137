-- `sound_at` meets its contract. Assumes nothing.
use mathlib.Core.Path.{◌∙◌}
use Rattle.wave_sound.specs.declared.refusal.Refusal.TheVariants.{OtherKind}
use Rattle.wave_sound.proofs.laws.Sound.{none_refused, known_read, other_read}
use Rattle.wave_sound.proofs.sound.sound_at.Goals as goal

pub returns-in_err-encoding : goal.returns-in_err-encoding
returns-in_err-encoding c =
    let p = none_refused c.kind_of.result OtherKind c.in_err-encoding.field-0.0 c.from_residual.result c.in_err-encoding.ensures.value c.from_residual.ensures.1 in
    p.1 ∙ other_read c.args.file.now c.args.format c.args.body c.number2_at-tag.ensures.1 c.number2_at-bits.ensures.1 c.kind_of.ensures p.0

pub returns : goal.returns
returns c = known_read c.args.file.now c.args.format c.args.body c.number2_at-tag.ensures.1 c.number2_at-channels.ensures.1 c.number4_at-rate.ensures c.number2_at-bits.ensures.1 c.number4_at-size.ensures c.kind_of.ensures c.in_ok-encoding.ensures.ok_part c.sound_of.ensures
