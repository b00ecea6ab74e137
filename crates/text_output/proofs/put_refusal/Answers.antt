-- `put_refusal` meets its contract. Assumes nothing.
use mathlib.Core.List.{[], ◌∷◌, ◌++◌}
use Rattle.scene_tables.specs.Bytes.{bytes_of}
use Rattle.text_output.specs.Text.{decimal, printed_refusal, decimal_within, steps32}
use Rattle.text_output.proofs.laws.Print.{begun_then}
use Rattle.text_output.proofs.put_refusal.Goals as goal

pub returns : goal.returns
unfolding printed_refusal decimal bytes_of
returns c = let whole = begun_then (bytes_of "refused\n") (decimal_within steps32 c.args.number ++ (10 ∷ [])) c.args.text.now (c.put_text-at.ensures.place, c.put_text-at.ensures.text) (c.put_number.ensures.place, c.put_number.ensures.text) in record { length = whole.0; text = whole.1 }
