-- `write_known` meets its contract. Assumes nothing.
use mathlib.Core.Path.{refl, sym, ap, ◌∙◌}
use Prim.Native.Nat.{ℕ}
use Rattle.wave_sound.proofs.laws.Refusals.{refusal_counts, number_passed}
use Rattle.wave_writer.specs.Write.{writing}
use Rattle.wave_writer.proofs.laws.Write.{known_refused, known_written}
use Rattle.wave_writer.proofs.file.write_known.Goals as goal

pub returns-in_err-asked : goal.returns-in_err-asked
returns-in_err-asked c =
    ap (λ (n : ℕ). writing n c.args.file.now) (number_passed c.from_residual.result c.in_err-asked.field-0.0 c.from_residual.ensures.1)
    ∙ known_refused c.args.rate c.args.channels c.args.encoding c.args.samples.now c.args.file.now (refusal_counts c.in_err-asked.field-0.0) c.in_err-asked.ensures

pub write_file-requires : goal.write_file-requires
write_file-requires c = sym c.in_ok-asked.ensures

pub returns : goal.returns
returns c = known_written c.args.rate c.args.channels c.args.encoding c.args.samples.now c.args.file.now refl c.in_ok-asked.ensures c.write_file.ensures
