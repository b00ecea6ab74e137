-- `missing` meets its contract. Assumes nothing.
use mathlib.Core.Logic.{inl, inr}
use mathlib.Core.Path.{refl}
use native.Mathlib.Omega.{arith}
use borrow.Author.Rules.{rules}
use Rattle.month_reader.proofs.stream.missing.Goals as goal

pub returns-then-count-eq0 : goal.returns-then-count-eq0
returns-then-count-eq0 c = (search rules, inl (omega arith))

pub returns-then-length-count : goal.returns-then-length-count
returns-then-length-count c = (search rules, inr refl)

pub returns : goal.returns
returns c = (search rules, inl (omega arith))
