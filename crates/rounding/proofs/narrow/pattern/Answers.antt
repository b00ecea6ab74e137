-- `pattern` meets its contract: the quick way by the law `narrowed_at_once`. Assumes nothing.
use mathlib.Core.Path.{◌≡◌, ap}
use Prim.Native.Nat.{ℕ, ◌+◌, ◌*◌, ◌%◌, ◌^◌, ◌≤◌, ◌<◌}
use native.Mathlib.Omega.{arith}
use lib.Ieee.{binary32, binary64, of_bits}
use lib.Ieee.Bits.{to_bits-lt}
use Rattle.rounding.specs.Nearest.{nearest_quotient}
use Rattle.rounding.specs.Narrow.{narrowed, narrowed_bits}
use Rattle.rounding.proofs.laws.Narrow.{narrowed-fits}
use Rattle.rounding.proofs.laws.NarrowBits.{narrowed_at_once}
use Rattle.rounding.proofs.narrow.pattern.Goals as goal

narrow : (b : ℕ) → narrowed_bits b < 2 ^ 32
unfolding narrowed_bits
narrow b = to_bits-lt binary32 (narrowed (of_bits binary64 b)) (narrowed-fits (of_bits binary64 b))

-- with no sign
at_once : (b : ℕ) → 897 * 2 ^ 52 ≤ b → b < 1151 * 2 ^ 52 → nearest_quotient b (2 ^ 29) ≡ narrowed_bits (b % 2 ^ 63) + 896 * 2 ^ 23
at_once b g h =
    let e : b ≡ b % 2 ^ 63 = omega arith in
    let s = ap (λ (y : ℕ). narrowed_bits y) e in
    omega (arith, narrowed_at_once b g h)

pub overflow_sub-result : goal.overflow_sub-result
overflow_sub-result c = omega (arith, at_once c.args.bits (omega arith) (omega arith))

pub returns-then-bits-2 : goal.returns-then-bits-2
returns-then-bits-2 c = omega (arith, at_once c.args.bits (omega arith) (omega arith))

pub overflow_add-result : goal.overflow_add-result
overflow_add-result c = omega (arith, narrow (c.args.bits % 2 ^ 63))
