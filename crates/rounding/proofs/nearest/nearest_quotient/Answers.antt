-- `nearest_quotient` meets its contract: the law `nearest_by_carry` at h = 2 ^ (k - 1). Assumes nothing.
use mathlib.Core.Path.{◌≡◌, sym, ap, ◌∙◌}
use Prim.Native.Nat.{ℕ, ◌+◌, ◌-◌, ◌*◌, ◌/◌, ◌%◌, ◌^◌, ◌≤◌, ◌<◌}
use native.Mathlib.Nat.{one-mul, mod-eq_of_lt, pow-succ'}
use native.Mathlib.Omega.{arith}
use lib.Pow.{pow_pos, pow_mono}
use Rattle.rounding.specs.Nearest.{nearest_quotient}
use Rattle.rounding.proofs.laws.Nearest.{nearest_by_carry}
use Rattle.rounding.proofs.nearest.nearest_quotient.Goals as goal

-- `1 << (k - 1)`, and its bounds
module _ (k : ℕ) (K : 0 < k) (L : k < 64) where
  small : 2 ^ (k - 1) ≤ 2 ^ 62
  small =
      let l : k - 1 ≤ 62 = omega arith in
      pow_mono l

  shifted : 1 * 2 ^ (k - 1) % 2 ^ 64 ≡ 2 ^ (k - 1)
  shifted = ap (λ (x : ℕ). x % 2 ^ 64) (one-mul (2 ^ (k - 1))) ∙ mod-eq_of_lt (omega (arith, small))

  double : 2 ^ k ≡ 2 * 2 ^ (k - 1)
  double = ap (λ (x : ℕ). 2 ^ x) (omega arith) ∙ pow-succ' 2 (k - 1)

  computed : (n : ℕ) → (n + (1 * 2 ^ (k - 1) % 2 ^ 64 - 1) + n / 2 ^ k % 2) / 2 ^ k ≡ nearest_quotient n (2 ^ k)
  computed n =
      ap (λ (x : ℕ). (n + (x - 1) + n / 2 ^ k % 2) / 2 ^ k) shifted
      ∙ ap (λ (x : ℕ). (n + (2 ^ (k - 1) - 1) + n / x % 2) / x) double
      ∙ sym (nearest_by_carry n (2 ^ (k - 1)) (pow_pos (k - 1)))
      ∙ ap (λ (x : ℕ). nearest_quotient n x) (sym double)

pub overflow_sub-below_half-2 : goal.overflow_sub-below_half-2
overflow_sub-below_half-2 c = omega (arith, shifted c.args.k c.requires.not_zero c.requires.below_64, pow_pos (c.args.k - 1))

pub overflow_add-result : goal.overflow_add-result
overflow_add-result c = omega (arith, shifted c.args.k c.requires.not_zero c.requires.below_64, small c.args.k c.requires.not_zero c.requires.below_64)

pub overflow_add-result-2 : goal.overflow_add-result-2
overflow_add-result-2 c = omega (arith, shifted c.args.k c.requires.not_zero c.requires.below_64, small c.args.k c.requires.not_zero c.requires.below_64)

pub returns : goal.returns
returns c = computed c.args.k c.requires.not_zero c.requires.below_64 c.args.n
