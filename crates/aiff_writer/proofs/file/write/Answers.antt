-- `write` meets its contract. Assumes nothing.
use mathlib.Core.Path.{refl, sym, ap, ◌∙◌}
use Prim.Native.Nat.{ℕ}
use Rattle.wave_sound.specs.Refusal.{refusal_number}
use Rattle.wave_sound.proofs.laws.Refusals.{refusal_counts, number_passed}
use Rattle.wave_writer.specs.Write.{writing, answered}
use Rattle.wave_writer.proofs.laws.Write.{answer_refused, answer_written}
use Rattle.aiff_writer.specs.Write.{file_of}
use Rattle.aiff_writer.proofs.laws.Write.{write_is}
use Rattle.aiff_writer.proofs.file.write.Goals as goal

pub returns-in_err-asked : goal.returns-in_err-asked
returns-in_err-asked c =
    let refusal = c.in_err-asked.field-0.0 in
    let made = file_of c.args.rate c.args.channels c.args.samples.now in
    ap (λ (n : ℕ). writing n c.args.file.now) (number_passed c.from_residual.result refusal c.from_residual.ensures.1)
    ∙ answer_refused made c.args.file.now (refusal_number refusal) (refusal_counts refusal)
    ∙ ap (λ (n : ℕ). answered n made c.args.file.now) c.in_err-asked.ensures
    ∙ write_is c.args.rate c.args.channels c.args.samples.now c.args.file.now

pub write_file-requires : goal.write_file-requires
write_file-requires c = sym c.in_ok-asked.ensures

pub returns : goal.returns
returns c =
    let made = file_of c.args.rate c.args.channels c.args.samples.now in
    ap (writing 0) c.write_file.ensures
    ∙ answer_written made c.args.file.now 0 refl
    ∙ ap (λ (n : ℕ). answered n made c.args.file.now) c.in_ok-asked.ensures
    ∙ write_is c.args.rate c.args.channels c.args.samples.now c.args.file.now
