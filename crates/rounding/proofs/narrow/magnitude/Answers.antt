-- `magnitude` meets its contract: one law of `NarrowBits` for each way out. Assumes nothing.
use mathlib.Core.Path.{sym, ◌∙◌}
use native.Mathlib.Omega.{arith}
use Rattle.rounding.proofs.laws.NarrowBits.{kept_few, narrowed_tiny, narrowed_low, narrowed_normal, narrowed_huge}
use Rattle.rounding.proofs.narrow.magnitude.Goals as goal

pub returns-then-exponent-lt872 : goal.returns-then-exponent-lt872
returns-then-exponent-lt872 c = sym (narrowed_tiny c.args.bits (omega arith))

pub returns-then-exponent-gt1150 : goal.returns-then-exponent-gt1150
returns-then-exponent-gt1150 c = sym (narrowed_huge c.args.bits (omega arith) (omega arith))

pub overflow_add-result : goal.overflow_add-result
overflow_add-result c = omega (arith, kept_few c.args.bits 29 (omega arith))

pub returns-then-exponent-lt897 : goal.returns-then-exponent-lt897
returns-then-exponent-lt897 c = c.nearest_quotient.ensures ∙ sym (narrowed_low c.args.bits (omega arith) (omega arith))

pub returns-else-exponent-lt897 : goal.returns-else-exponent-lt897
returns-else-exponent-lt897 c = omega (arith, narrowed_normal c.args.bits (omega arith) (omega arith))
