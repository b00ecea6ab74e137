-- `to_aiff` meets its contract. Assumes nothing.
use mathlib.Core.Path.{refl, sym, ap, ◌∙◌}
use Prim.Native.Nat.{ℕ}
use Rattle.byte_order.specs.declared.bytes.ByteOrder.TheVariants.{Little}
use Rattle.wave_sound.specs.Refusal.{refusal_number}
use Rattle.wave_sound.proofs.laws.Refusals.{refusal_counts, number_passed}
use Rattle.wave_reader.specs.Read.{samples_of}
use Rattle.wave_writer.specs.Write.{writing, answered}
use Rattle.wave_writer.proofs.laws.Write.{answer_refused, answer_written}
use Rattle.aiff_writer.specs.Write.{file_of as aiff_file_of}
use Rattle.sound_converter.proofs.laws.Convert.{aiff_answer}
use Rattle.sound_converter.proofs.routines.to_aiff.Goals as goal

pub returns-in_err-asked_of_wave : goal.returns-in_err-asked_of_wave
returns-in_err-asked_of_wave c =
    let s = c.args.sound in
    let made = aiff_file_of c.args.sound.rate c.args.sound.channels (samples_of Little c.args.wave.now s) in
    let refusal = c.in_err-asked_of_wave.field-0.0 in
    ap (λ (n : ℕ). writing n c.args.aiff.now) (number_passed c.from_residual.result refusal c.from_residual.ensures.1)
    ∙ answer_refused made c.args.aiff.now (refusal_number refusal) (refusal_counts refusal)
    ∙ ap (λ (n : ℕ). answered n made c.args.aiff.now) c.in_err-asked_of_wave.ensures
    ∙ aiff_answer c.args.wave.now c.args.aiff.now s

pub put_aiff-requires : goal.put_aiff-requires
put_aiff-requires c = record { sound_in_file = c.requires; not_refused = sym c.in_ok-asked_of_wave.ensures }

pub returns : goal.returns
returns c =
    let s = c.args.sound in
    let made = aiff_file_of c.args.sound.rate c.args.sound.channels (samples_of Little c.args.wave.now s) in
    ap (writing 0) c.put_aiff.ensures
    ∙ answer_written made c.args.aiff.now 0 refl
    ∙ ap (λ (n : ℕ). answered n made c.args.aiff.now) c.in_ok-asked_of_wave.ensures
    ∙ aiff_answer c.args.wave.now c.args.aiff.now s
