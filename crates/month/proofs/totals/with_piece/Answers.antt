-- `with_piece` meets its contract. Assumes nothing.
use mathlib.Core.Path.{sym, ◌∙◌}
use native.Mathlib.Omega.{arith}
use borrow.Author.Tests.{le-leb}
use Rattle.month.specs.Month.{one_bits}
use Rattle.month.specs.Piece.{words_of, largest}
use Rattle.month.proofs.laws.Peaks.{in_by_largest}
use Rattle.month.proofs.laws.Totals.{samples_told}
use Rattle.month.proofs.totals.with_piece.Goals as goal

pub sum_squares-requires : goal.sum_squares-requires
sum_squares-requires c = (omega (arith, c.requires.room_for_samples.samples), in_by_largest (words_of c.args.piece.now) ∙ le-leb (largest (words_of c.args.piece.now)) one_bits (omega (arith, c.requires.largest_of_the_piece.1, c.requires.at_most_one)))

pub returns : goal.returns
returns c = sym (samples_told c.args.totals c.args.before (words_of c.args.piece.now) c.with_largest-peak.ensures c.full_of.ensures.1 c.sum_squares.ensures.1)
