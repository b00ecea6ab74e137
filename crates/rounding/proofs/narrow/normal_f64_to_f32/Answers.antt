-- `normal_f64_to_f32` meets its contract: by the law `normal_written` its bits are those of the number narrowed. Assumes nothing.
use mathlib.Core.Path.{◌≡◌, sym, ap, ◌∙◌, subst}
use mathlib.Core.Bool.{Bool, true, not}
use Prim.Native.Nat.{ℕ, ◌+◌, ◌-◌, ◌*◌, ◌^◌, ◌<◌}
use native.Mathlib.Omega.{arith}
use lib.Dec.{T}
use lib.Ieee.{Float, binary32, binary64, fits, is_nan, nan_bits, of_bits, to_bits}
use lib.Ieee.Bits.{of_bits-to_bits, to_bits-lt, nan_bits_is}
use Rattle.rounding.proofs.laws.Fields.{holds}
use Rattle.rounding.specs.Nearest.{nearest_quotient}
use Rattle.rounding.specs.Narrow.{narrowed, IsNormal}
use Rattle.rounding.proofs.laws.Narrow.{narrowed-fits, narrowed_no_nan}
use Rattle.rounding.proofs.laws.Normal.{normal_no_nan, normal_written}
use Rattle.rounding.proofs.narrow.normal_f64_to_f32.Goals as goal

-- q is the bits rounded, with f64's exponent
module _ (x : Float) (f : fits binary64 x ≡ true) (I : IsNormal x) (q : ℕ) (E : q ≡ nearest_quotient (to_bits binary64 x) (2 ^ 29)) where
  whole : q ≡ to_bits binary32 (narrowed x) + 896 * 2 ^ 23
  whole = E ∙ normal_written x (holds f) I

  written : q - 896 * 2 ^ 23 ≡ to_bits binary32 (narrowed x)
  written = omega (arith, whole)

  small : q - 896 * 2 ^ 23 < 2 ^ 32
  small = omega (arith, written, to_bits-lt binary32 (narrowed x) (narrowed-fits x))

  reads_back : of_bits binary32 (q - 896 * 2 ^ 23) ≡ narrowed x
  reads_back = ap (of_bits binary32) written ∙ of_bits-to_bits binary32 (narrowed x) (narrowed-fits x)

  no_nan_bits : T (not (nan_bits binary32 (q - 896 * 2 ^ 23)))
  no_nan_bits = subst (λ (t : Bool). T (not t)) (sym (nan_bits_is binary32 (q - 896 * 2 ^ 23) ∙ ap is_nan reads_back)) (narrowed_no_nan x (normal_no_nan x I))

pub float_to_bits-bits : goal.float_to_bits-bits
float_to_bits-bits c = normal_no_nan c.args.x c.requires

pub overflow_sub-result : goal.overflow_sub-result
overflow_sub-result c = omega (arith, whole c.args.x c.well_formed.0.1 c.requires c.nearest_quotient.result c.nearest_quotient.ensures)

pub overflow_cast-result : goal.overflow_cast-result
overflow_cast-result c = omega (arith, small c.args.x c.well_formed.0.1 c.requires c.nearest_quotient.result c.nearest_quotient.ensures)

pub float_from_bits-result : goal.float_from_bits-result
float_from_bits-result c = no_nan_bits c.args.x c.well_formed.0.1 c.requires c.nearest_quotient.result c.nearest_quotient.ensures

pub returns : goal.returns
returns c = reads_back c.args.x c.well_formed.0.1 c.requires c.nearest_quotient.result c.nearest_quotient.ensures
