-- What was read of the whole input is printed as the whole input is defined to be. Assumes nothing.
use mathlib.Core.Path.{◌≡◌, refl, sym, ap, ap₂, ◌∙◌}
use mathlib.Core.Bool.{Bool, true, false, cond, ◌&&◌}
use mathlib.Core.List.{List, [], ◌++◌, append-nil}
use Prim.Native.Nat.{ℕ}
use native.Mathlib.Omega.{arith}
use borrow.Author.Tests.{ne_eqb, le-leb}
use lib.Dec.{eqb, leb}
use Rattle.laws.proofs.laws.Choice.{and_true}
use Rattle.text_output.specs.Text.{printed_refusal}
use Rattle.month.specs.Month.{most_samples, all_in, samples_of, totals}
use Rattle.month.proofs.laws.Totals.{nothing_more}
use Rattle.month_reader.specs.declared.stream.Stream.{Stream}
use Rattle.month_reader.specs.Reading.{MixFile, mixes_ok, mixes_of, reading_of}
use Rattle.month_reader.proofs.laws.Reading.{reading_broken, reading_out, reading_good}
use Rattle.month_reader.proofs.laws.Stream.{words_short, reading_is}
use Rattle.month_files.specs.declared.lines.Lines.{Lines}
use Rattle.month_files.specs.Lines.{channels_of, lines_number, input_number}
use Rattle.month_files.specs.Text.{printed_totals, printed_reading}
use Rattle.month_files.specs.Month.{mix_files, month_number, printed_month, WasRead}
use Rattle.month_files.proofs.laws.Head.{first_lines}

-- the questions of the mixes, once the lines are answered
mixes_number : List MixFile → ℕ
mixes_number mixes = cond (mixes_ok mixes) (cond (all_in (samples_of (mixes_of mixes))) 0 25) 26

printed_mixes : List MixFile → List ℕ
unfolding mixes_number
printed_mixes mixes = cond (eqb (mixes_number mixes) 0) (printed_totals (totals (mixes_of mixes))) (printed_refusal (mixes_number mixes))

mixes_printed : (mixes : List MixFile) → printed_reading (reading_of mixes []) ≡ printed_mixes mixes
unfolding printed_mixes mixes_number printed_reading
mixes_printed mixes = go (mixes_ok mixes) (all_in (samples_of (mixes_of mixes))) refl refl
  where
    ok : {b : Bool} → mixes_ok mixes ≡ b → mixes_ok mixes && leb 0 most_samples ≡ b
    ok e = ap (λ (t : Bool). mixes_ok mixes && t) (le-leb 0 most_samples (omega arith)) ∙ and_true (mixes_ok mixes) ∙ e

    inside : {b : Bool} → all_in (samples_of (mixes_of mixes)) ≡ b → all_in (samples_of (mixes_of mixes) ++ []) ≡ b
    inside e = ap all_in (append-nil (samples_of (mixes_of mixes))) ∙ e

    go : (a b : Bool) → mixes_ok mixes ≡ a → all_in (samples_of (mixes_of mixes)) ≡ b → printed_reading (reading_of mixes []) ≡ printed_mixes mixes
    go false b e f = ap printed_reading (reading_broken mixes [] (ok e)) ∙ sym (rw e refl)
    go true false e f = ap printed_reading (reading_out mixes [] (ok e) (inside f)) ∙ sym (rw (e, f) refl)
    go true true e f = ap printed_reading (reading_good mixes [] (ok e) (inside f)) ∙ ap printed_totals (sym (nothing_more (mixes_of mixes))) ∙ sym (rw (e, f) refl)

-- the mixes of the lines, read to their ends
pub month_printed : (input : List ℕ) (files : List (List ℕ)) → input_number input ≡ 0
    → printed_reading (reading_of (mix_files (channels_of input) files) []) ≡ printed_month input files
unfolding printed_month month_number printed_mixes mixes_number
month_printed input files e = mixes_printed (mix_files (channels_of input) files) ∙ sym (rw e refl)

-- lines that are refused
pub lines_refused : (input : List ℕ) (files : List (List ℕ)) → (input_number input ≡ 0 → ⊥)
    → printed_refusal (input_number input) ≡ printed_month input files
unfolding printed_month month_number
lines_refused input files h = sym (rw (ne_eqb (input_number input) 0 h, ne_eqb (input_number input) 0 h) refl)

-- ---- from what was read

module _ (input : List ℕ) (files : List (List ℕ)) (head : List ℕ) (lines : Lines) (stream : Stream) (W : WasRead input files head lines stream) {n : ℕ} (e : n ≡ lines_number lines head) where
  number_is : n ≡ input_number input
  number_is = e ∙ ap₂ lines_number W.lines_are W.first ∙ first_lines input

  pub refusal_read : (n ≡ 0 → ⊥) → printed_refusal n ≡ printed_month input files
  refusal_read h = ap printed_refusal number_is ∙ lines_refused input files (λ z. h (number_is ∙ z))

  pub mixes_read : n ≡ 0 → printed_reading stream.reading ≡ printed_month input files
  mixes_read h =
      let z = sym number_is ∙ h in
      let mixes = mix_files (channels_of input) files in
      ap printed_reading (reading_is mixes [] stream (W.mixes_are z) ∙ ap (reading_of mixes) (words_short [] (omega arith)))
      ∙ month_printed input files z
