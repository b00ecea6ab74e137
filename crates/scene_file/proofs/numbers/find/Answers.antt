-- `find` meets its contract: the bytes passed are others, so the place is as far again from here. Assumes nothing.
use borrow.Author.Rules.{rules}
use native.Mathlib.Omega.{arith}
use Rattle.scene_file.proofs.laws.Numbers.{position_none, position_found, position_passed}
use Rattle.scene_file.proofs.numbers.find.Goals as goal

pub loop-i-init : goal.loop-i-init
loop-i-init c = omega arith

pub returns-then-b-byte : goal.returns-then-b-byte
returns-then-b-byte c = search (position_found, rules)

pub loop-i-preserved : goal.loop-i-preserved
loop-i-preserved c = search (position_passed, rules)

pub returns : goal.returns
returns c = omega (arith, position_none c.args.byte c.args.s.now c.loop-i.i c.loop-i-test.false c.loop-i.invariant, c.loop-i-test.false, c.loop-i.auto)
