-- `factor_of` meets its contract. Assumes nothing.
use mathlib.Core.Path.{◌≡◌, ap}
use Prim.Native.Nat.{ℕ, ◌-◌, ◌^◌}
use native.Mathlib.Omega.{arith}
use Rattle.aiff_rate.proofs.rate.factor_of.Goals as goal

pub returns-in-51 : goal.returns-in-51
returns-in-51 c =
    let e : 51 ≡ c.args.shift = omega arith in
    ap (λ (s : ℕ). 2 ^ (s - 32)) e

pub returns-in-50 : goal.returns-in-50
returns-in-50 c =
    let e : 50 ≡ c.args.shift = omega arith in
    ap (λ (s : ℕ). 2 ^ (s - 32)) e

pub returns-in-49 : goal.returns-in-49
returns-in-49 c =
    let e : 49 ≡ c.args.shift = omega arith in
    ap (λ (s : ℕ). 2 ^ (s - 32)) e

pub returns-in-48 : goal.returns-in-48
returns-in-48 c =
    let e : 48 ≡ c.args.shift = omega arith in
    ap (λ (s : ℕ). 2 ^ (s - 32)) e

pub returns-in-47 : goal.returns-in-47
returns-in-47 c =
    let e : 47 ≡ c.args.shift = omega arith in
    ap (λ (s : ℕ). 2 ^ (s - 32)) e

pub returns-in_default : goal.returns-in_default
returns-in_default c =
    let e : 46 ≡ c.args.shift = omega arith in
    ap (λ (s : ℕ). 2 ^ (s - 32)) e
