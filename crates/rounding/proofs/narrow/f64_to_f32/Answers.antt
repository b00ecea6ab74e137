-- `f64_to_f32` meets its contract: a NaN by its test, and the rest by the law `narrowed_from_bits`. Assumes nothing.
use mathlib.Core.Path.{◌≡◌, sym, ap, ◌∙◌, subst}
use mathlib.Core.Bool.{Bool, true, false, not}
use Prim.Native.Nat.{ℕ, ◌+◌, ◌*◌, ◌/◌, ◌%◌, ◌^◌, ◌<◌}
use native.Mathlib.Omega.{arith}
use lib.Dec.{T}
use lib.Ieee.{Float, nan, inf, fin, binary32, binary64, div, ne, fits, is_nan, nan_bits, of_bits, to_bits}
use lib.Ieee.Bits.{of_bits-to_bits, to_bits-lt, nan_bits_is}
use lib.Ieee.Compare.{differs_from_itself, nan_differs}
use Rattle.rounding.proofs.laws.Fields.{holds}
use Rattle.rounding.specs.Narrow.{narrowed, narrowed_bits}
use Rattle.rounding.proofs.laws.Narrow.{narrowed-fits, narrowed_no_nan}
use Rattle.rounding.proofs.laws.NarrowBits.{magnitude_most, narrowed_from_bits}
use Rattle.rounding.proofs.narrow.f64_to_f32.Goals as goal

-- `x != x` is the test for a NaN
a_nan : (x : Float) → ne x x ≡ true → div binary32 (of_bits binary32 0) (of_bits binary32 0) ≡ narrowed x
unfolding div of_bits narrowed
a_nan x e = ap narrowed (sym (differs_from_itself x (holds e)))

no_nan : (x : Float) → ne x x ≡ false → T (not (is_nan x))
unfolding is_nan
no_nan nan e = subst (λ (t : Bool). T t) (sym nan_differs ∙ e) tt
no_nan (inf s) e = tt
no_nan (fin s m d) e = tt

-- p is the result's pattern
module _ (x : Float) (f : fits binary64 x ≡ true) (e : ne x x ≡ false) (p : ℕ) (E : p ≡ to_bits binary64 x / 2 ^ 63 * 2 ^ 31 + narrowed_bits (to_bits binary64 x % 2 ^ 63)) where
  written : p ≡ to_bits binary32 (narrowed x)
  written = E ∙ sym (narrowed_from_bits x (holds f) (no_nan x e))

  small : p < 2 ^ 32
  small = omega (arith, written, to_bits-lt binary32 (narrowed x) (narrowed-fits x))

  reads_back : of_bits binary32 p ≡ narrowed x
  reads_back = ap (of_bits binary32) written ∙ of_bits-to_bits binary32 (narrowed x) (narrowed-fits x)

  no_nan_bits : T (not (nan_bits binary32 p))
  no_nan_bits = subst (λ (t : Bool). T (not t)) (sym (nan_bits_is binary32 p ∙ ap is_nan reads_back)) (narrowed_no_nan x (no_nan x e))

pub returns-then-x : goal.returns-then-x
returns-then-x c = a_nan c.args.x c.if-x.true

pub float_to_bits-bits : goal.float_to_bits-bits
float_to_bits-bits c = no_nan c.args.x c.if-x.false

pub pattern-requires : goal.pattern-requires
pattern-requires c = magnitude_most c.args.x (holds c.well_formed.0.1) (no_nan c.args.x c.if-x.false)

pub overflow_cast-result : goal.overflow_cast-result
overflow_cast-result c = omega (arith, small c.args.x c.well_formed.0.1 c.if-x.false c.pattern.result c.pattern.ensures)

pub float_from_bits-result : goal.float_from_bits-result
float_from_bits-result c = no_nan_bits c.args.x c.well_formed.0.1 c.if-x.false c.pattern.result c.pattern.ensures

pub returns : goal.returns
returns c = reads_back c.args.x c.well_formed.0.1 c.if-x.false c.pattern.result c.pattern.ensures
