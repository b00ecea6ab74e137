-- `asked` meets its contract. Assumes nothing.
use mathlib.Core.Path.{sym, ap, ◌∙◌}
use Prim.Native.Nat.{ℕ}
use borrow.Author.Tests.{not-true, not-false}
use Rattle.wave_writer.specs.Write.{length_ok}
use Rattle.wave_writer.proofs.laws.Write.{asked_rate, asked_channels, asked_odd, asked_outside, asked-length, asked_all}
use borrow.Author.Rules.{rules}
use Rattle.wave_writer.proofs.questions.asked.Goals as goal

pub returns-then-not-rate_ok : goal.returns-then-not-rate_ok
returns-then-not-rate_ok c = asked_rate c.args.head c.args.rate c.args.channels c.args.encoding c.args.samples.now c.args.room (sym c.rate_ok.ensures ∙ not-true _ c.if-not-rate_ok.true-raw)

pub returns-then-not-channels_ok : goal.returns-then-not-channels_ok
returns-then-not-channels_ok c = asked_channels c.args.head c.args.rate c.args.channels c.args.encoding c.args.samples.now c.args.room (sym c.rate_ok.ensures ∙ not-false _ c.if-not-rate_ok.false-raw) (sym c.channels_ok.ensures ∙ not-true _ c.if-not-channels_ok.true-raw)

pub returns-then-samples-ne0 : goal.returns-then-samples-ne0
returns-then-samples-ne0 c = asked_odd c.args.head c.args.rate c.args.channels c.args.encoding c.args.samples.now c.args.room (sym c.rate_ok.ensures ∙ not-false _ c.if-not-rate_ok.false-raw) (sym c.channels_ok.ensures ∙ not-false _ c.if-not-channels_ok.false-raw) (search rules)

pub returns-then-not-samples_ok : goal.returns-then-not-samples_ok
returns-then-not-samples_ok c = asked_outside c.args.head c.args.rate c.args.channels c.args.encoding c.args.samples.now c.args.room (sym c.rate_ok.ensures ∙ not-false _ c.if-not-rate_ok.false-raw) (sym c.channels_ok.ensures ∙ not-false _ c.if-not-channels_ok.false-raw) (search rules) (sym c.samples_ok.ensures ∙ not-true _ c.if-not-samples_ok.true-raw)

pub data_length-size-requires : goal.data_length-size-requires
data_length-size-requires c = record { sample_count_in_range = search rules; one_or_two_channels = (sym c.channels_ok.ensures ∙ not-false _ c.if-not-channels_ok.false-raw) }

pub returns-then-not-length_ok : goal.returns-then-not-length_ok
returns-then-not-length_ok c =
    asked-length c.args.head c.args.rate c.args.channels c.args.encoding c.args.samples.now c.args.room (sym c.rate_ok.ensures ∙ not-false _ c.if-not-rate_ok.false-raw) (sym c.channels_ok.ensures ∙ not-false _ c.if-not-channels_ok.false-raw) (search rules) (sym c.samples_ok.ensures ∙ not-false _ c.if-not-samples_ok.false-raw)
    (ap (λ (n : ℕ). length_ok c.args.head n c.args.room) (sym c.data_length-size.ensures) ∙ sym c.length_ok.ensures ∙ not-true _ c.if-not-length_ok.true-raw)

pub returns : goal.returns
returns c =
    asked_all c.args.head c.args.rate c.args.channels c.args.encoding c.args.samples.now c.args.room (sym c.rate_ok.ensures ∙ not-false _ c.if-not-rate_ok.false-raw) (sym c.channels_ok.ensures ∙ not-false _ c.if-not-channels_ok.false-raw) (search rules) (sym c.samples_ok.ensures ∙ not-false _ c.if-not-samples_ok.false-raw)
    (ap (λ (n : ℕ). length_ok c.args.head n c.args.room) (sym c.data_length-size.ensures) ∙ sym c.length_ok.ensures ∙ not-false _ c.if-not-length_ok.false-raw)
