-- `magnitude_of` meets its contract: the digits left, after the number so far, give what all digits give. Assumes nothing.
use mathlib.Core.Path.{refl}
use borrow.Author.Rules.{rules}
use native.Mathlib.Omega.{arith}
use Rattle.scene_file.proofs.laws.Numbers.{magnitude_low, magnitude_high, magnitude_large, magnitude_done, all_passed, digits_passed}
use Rattle.scene_file.proofs.numbers.magnitude_of.Goals as goal

pub loop-b-init : goal.loop-b-init
loop-b-init c = (omega arith, refl, refl)

pub returns-then-b-lt48 : goal.returns-then-b-lt48
returns-then-b-lt48 c = search (magnitude_low, rules)

pub returns-then-b-gt57 : goal.returns-then-b-gt57
returns-then-b-gt57 c = search (magnitude_high, rules)

pub returns-then-m-gt2147483648 : goal.returns-then-m-gt2147483648
returns-then-m-gt2147483648 c = search (magnitude_large, rules)

pub loop-b-preserved : goal.loop-b-preserved
loop-b-preserved c = (omega arith, search (all_passed, rules), search (digits_passed, rules))

pub returns : goal.returns
returns c = search (magnitude_done, rules)
