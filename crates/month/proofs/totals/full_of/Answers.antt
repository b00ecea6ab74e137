-- `full_of` meets its contract. Assumes nothing.
use mathlib.Core.Path.{sym}
use native.Mathlib.Omega.{arith}
use Rattle.month.specs.Piece.{words_of}
use Rattle.month.proofs.laws.Peaks.{none_full}
use borrow.Author.Rules.{rules}
use Rattle.month.proofs.totals.full_of.Goals as goal

pub returns-else-most-eq-ONE : goal.returns-else-most-eq-ONE
returns-else-most-eq-ONE c = (search rules, sym (none_full (words_of c.args.piece.now) (omega (arith, c.requires.0, c.requires.1, c.if-most-eq-ONE.false))))
