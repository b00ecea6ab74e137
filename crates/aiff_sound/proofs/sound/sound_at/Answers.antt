-- `sound_at` meets its contract. Assumes nothing.
use mathlib.Core.Path.{refl, ap, ◌∙◌}
use Prim.Native.Nat.{ℕ}
use Rattle.std.specs.Prelude.{Option, unwrap_or}
use Rattle.aiff_sound.proofs.laws.Sound.{at_fields}
use Rattle.aiff_sound.proofs.sound.sound_at.Goals as goal

pub returns : goal.returns
returns c =
    c.sound_of.ensures
    ∙ at_fields c.args.file.now c.args.common c.args.body c.number4_at-offset.ensures refl c.number4_at-size.ensures c.number2_at-channels.ensures.1
    c.number4_at-frames.ensures c.number2_at-bits.ensures.1 (c.unwrap_or-rate.ensures ∙ ap (λ (x : Option ℕ). unwrap_or x 0) c.whole_at.ensures)
