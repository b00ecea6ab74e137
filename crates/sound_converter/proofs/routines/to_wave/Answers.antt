-- `to_wave` meets its contract. Assumes nothing.
use mathlib.Core.Path.{refl, sym, ap, ◌∙◌}
use Prim.Native.Nat.{ℕ}
use Rattle.byte_order.specs.declared.bytes.ByteOrder.TheVariants.{Big}
use Rattle.pcm.specs.declared.sample.Encoding.TheVariants.{Pcm16}
use Rattle.wave_sound.specs.Refusal.{refusal_number}
use Rattle.wave_sound.proofs.laws.Refusals.{refusal_counts, number_passed}
use Rattle.wave_reader.specs.Read.{samples_of}
use Rattle.wave_writer.specs.Write.{file_of, writing, answered}
use Rattle.wave_writer.proofs.laws.Write.{answer_refused, answer_written}
use Rattle.aiff_sound.proofs.laws.Holds.{holds_sixteen}
use Rattle.sound_converter.proofs.laws.Convert.{wave_answer}
use Rattle.sound_converter.proofs.routines.to_wave.Goals as goal

pub asked_of_aiff-requires : goal.asked_of_aiff-requires
asked_of_aiff-requires c =
    let s = c.args.sound in
    (holds_sixteen c.args.aiff.now s c.requires).inside.sides

pub returns-in_err-asked_of_aiff : goal.returns-in_err-asked_of_aiff
returns-in_err-asked_of_aiff c =
    let s = c.args.sound in
    let made = file_of c.args.sound.rate c.args.sound.channels Pcm16 (samples_of Big c.args.aiff.now s) in
    let refusal = c.in_err-asked_of_aiff.field-0.0 in
    ap (λ (n : ℕ). writing n c.args.wave.now) (number_passed c.from_residual.result refusal c.from_residual.ensures.1)
    ∙ answer_refused made c.args.wave.now (refusal_number refusal) (refusal_counts refusal)
    ∙ ap (λ (n : ℕ). answered n made c.args.wave.now) c.in_err-asked_of_aiff.ensures
    ∙ wave_answer c.args.aiff.now c.args.wave.now s

pub put_wave-requires : goal.put_wave-requires
put_wave-requires c = record { sound_of_the_file = c.requires; not_refused = sym c.in_ok-asked_of_aiff.ensures }

pub returns : goal.returns
returns c =
    let s = c.args.sound in
    let made = file_of c.args.sound.rate c.args.sound.channels Pcm16 (samples_of Big c.args.aiff.now s) in
    ap (writing 0) c.put_wave.ensures
    ∙ answer_written made c.args.wave.now 0 refl
    ∙ ap (λ (n : ℕ). answered n made c.args.wave.now) c.in_ok-asked_of_aiff.ensures
    ∙ wave_answer c.args.aiff.now c.args.wave.now s
