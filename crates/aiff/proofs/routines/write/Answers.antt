-- `write` meets its contract. Assumes nothing.
use mathlib.Core.Path.{sym, ap, ◌∙◌}
use Prim.Native.Nat.{ℕ}
use Rattle.wave_sound.proofs.laws.Refusals.{ok_number}
use Rattle.wave_writer.specs.Write.{writing}
use Rattle.aiff.proofs.laws.ReadBack.{read_back}
use Rattle.aiff.proofs.routines.write.Goals as goal

pub returns : goal.returns
returns c = record {
  answer = c.write.ensures;
  back = λ h b there old l.
      read_back c.args.rate c.args.channels c.args.samples.now c.args.file.now c.write.new.file (sym c.write.ensures ∙ ap (λ (n : ℕ). writing n c.write.new.file) (ok_number c.write.result h)) b there old l;
}
