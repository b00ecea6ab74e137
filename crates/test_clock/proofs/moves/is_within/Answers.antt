-- `is_within` meets its contract: its tests are what it ensures. Assumes nothing.
use mathlib.Core.Path.{sym}
use mathlib.Core.Bool.{true≢false}
use lib.Ieee.{of_bits, of_int}
use borrow.Author.Rules.{rules}
use Rattle.laws.proofs.laws.Choice.{true-T}
use Rattle.test_clock.proofs.moves.is_within.Goals as goal

pub returns-then-x : goal.returns-then-x
unfolding of_bits of_int
returns-then-x c e = (search rules, true-T _ c.if-x.true, true-T _ e)

pub returns : goal.returns
returns c e = absurd (true≢false (sym e))
