-- `file_length` meets its contract. Assumes nothing.
use mathlib.Core.Path.{sym, ap, ◌∙◌}
use Prim.Native.Nat.{ℕ, ◌+◌}
use native.Mathlib.Omega.{arith}
use Rattle.std.specs.Prelude.{Some}
use borrow.Author.Tests.{not-true, not-false}
use Rattle.wave_writer.proofs.laws.Write.{length_no_channels, length_never, length_none, length_fits}
use borrow.Author.Rules.{rules}
use Rattle.wave_writer.proofs.questions.file_length.Goals as goal

pub returns-then-not-channels_ok : goal.returns-then-not-channels_ok
returns-then-not-channels_ok c = length_no_channels c.args.head c.args.samples c.args.channels c.args.encoding (sym c.channels_ok.ensures ∙ not-true _ c.if-not-channels_ok.true-raw)

pub returns-then-samples-gt-FILE_MOST : goal.returns-then-samples-gt-FILE_MOST
returns-then-samples-gt-FILE_MOST c = length_never c.args.head c.args.samples c.args.channels c.args.encoding c.requires (sym c.channels_ok.ensures ∙ not-false _ c.if-not-channels_ok.false-raw) (search rules)

pub data_length-size-requires : goal.data_length-size-requires
data_length-size-requires c = record { sample_count_in_range = search rules; one_or_two_channels = (sym c.channels_ok.ensures ∙ not-false _ c.if-not-channels_ok.false-raw) }

pub returns-then-head-size : goal.returns-then-head-size
returns-then-head-size c = length_none c.args.head c.args.samples c.args.channels c.args.encoding c.requires (sym c.channels_ok.ensures ∙ not-false _ c.if-not-channels_ok.false-raw) (omega (arith, c.data_length-size.ensures))

pub returns : goal.returns
returns c = ap (λ (n : ℕ). Some (c.args.head + n)) c.data_length-size.ensures ∙ length_fits c.args.head c.args.samples c.args.channels c.args.encoding c.requires (sym c.channels_ok.ensures ∙ not-false _ c.if-not-channels_ok.false-raw) (omega (arith, c.data_length-size.ensures))
