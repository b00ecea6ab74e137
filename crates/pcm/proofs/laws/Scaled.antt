-- A float times a power of two is exact while the product stays in the format's range, and between 2 ^ (prec - 1) and 2 ^ prec rounding a
-- fraction is taking the nearest whole number. For both formats. Assumes nothing.
use mathlib.Core.Path.{◌≡◌, sym, ap, ◌∙◌, subst}
use mathlib.Core.Logic.{inr}
use mathlib.Core.Bool.{Bool, false}
use Prim.Native.Nat.{ℕ, suc, ◌+◌, ◌*◌, ◌^◌, ◌≤◌, ◌<◌}
use native.Mathlib.Nat.{le_trans, le_of_eq, lt_of_le_of_lt, le_of_mul-le-mul_right, mul_comm, mul_assoc, mul_right_comm, mul-pos, mul-le-mul_right, mul-lt-mul_of_pos_right}
use native.Mathlib.Omega.{arith}
use lib.Dec.{T}
use lib.IntN.{ℤ}
use lib.Pow.{pow-add, pow_pos, pow-lt}
use lib.Ieee.{fin, Format, prec, emax, low, up, down, round, fits, hid, to_bits}
use lib.Ieee.Fits.{down_pos}
use lib.Ieee.Exact.{HasValue}
use Rattle.laws.specs.FloatOrder.{Number, magnitude}
use Rattle.laws.proofs.laws.FloatOrder.{OnGrid, magnitude_exact, magnitude_on_grid}
use Rattle.laws.proofs.laws.FloatBounds.{Holds, holds_value}
use Rattle.rounding.specs.Nearest.{nearest_quotient}
use Rattle.rounding.proofs.laws.Nearest.{nearest_quotient_same}
use Rattle.rounding.proofs.laws.Rounding.{bits, round-bits_at}

-- ---- ±m * 2 ^ e, of size 1 at most, times 2 ^ k

module _ (f : Format) (s : Bool) (m : ℕ) (e : ℤ) (F : T (fits f (fin s m e))) (W : m * up e ≤ down e) (k : ℕ) (K : k < suc (emax f)) where
  N : Number f (fin s m e)
  N = record { held = F; is_finite = tt }

  units : ℕ
  units = magnitude f (fin s m e)

  grid : OnGrid f (magnitude f (fin s m e))
  grid = magnitude_on_grid f (fin s m e) N

  in_units : magnitude f (fin s m e) * down e ≡ m * up e * 2 ^ low f
  in_units = magnitude_exact f (fin s m e) N

  most : magnitude f (fin s m e) ≤ 2 ^ low f
  most = le_of_mul-le-mul_right {k = down e} (le_trans (le_of_eq in_units) (le_trans (mul-le-mul_right (2 ^ low f) W) (le_of_eq (mul_comm (down e) (2 ^ low f))))) (down_pos e)

  moved : grid.digits * 2 ^ (grid.place + k) ≡ magnitude f (fin s m e) * 2 ^ k
  moved = ap (λ (x : ℕ). grid.digits * x) (pow-add 2 grid.place k) ∙ sym (mul_assoc grid.digits (2 ^ grid.place) (2 ^ k)) ∙ ap (λ (x : ℕ). x * 2 ^ k) (sym grid.is)

  pub scaled_holds : Holds f (m * up e * 2 ^ k) (down e)
  scaled_holds = record {
    positive = down_pos e;
    digits = grid.digits;
    shift = grid.place + k;
    short = grid.few;
    under =
        lt_of_le_of_lt (le_trans (le_of_eq moved) (le_trans (mul-le-mul_right (2 ^ k) most) (le_of_eq (sym (pow-add 2 (low f) k)))))
        (pow-lt (below (low f) k (suc (emax f)) K));
    exact =
        mul_right_comm (m * up e) (2 ^ k) (2 ^ low f)
        ∙ ap (λ (x : ℕ). x * 2 ^ k) (sym in_units)
        ∙ mul_right_comm (magnitude f (fin s m e)) (down e) (2 ^ k)
        ∙ ap (λ (x : ℕ). x * down e) (sym moved);
  }
    where
      below : (a b c : ℕ) → b < c → a + b < a + c
      below a b c h = omega arith

  pub scaled_value : HasValue (round f s (m * up e * 2 ^ k) (down e)) s (m * up e * 2 ^ k) (down e)
  scaled_value = holds_value s scaled_holds

-- ---- rounding where the floats are the whole numbers

module _ (f : Format) (n d : ℕ) (D : 0 < d) (l : hid f * d ≤ n) (u : n < 2 ^ prec f * d) where
  pub whole_bits : to_bits f (round f false n d) ≡ bits f false (nearest_quotient n d) (low f)
  whole_bits =
      round-bits_at f false n d (low f) D
      (subst (λ (x : ℕ). n * 2 ^ low f < x) (mul_assoc (2 ^ prec f) d (2 ^ low f)) (mul-lt-mul_of_pos_right u (pow_pos (low f))))
      (inr (subst (λ (x : ℕ). x ≤ n * 2 ^ low f) (mul_assoc (hid f) d (2 ^ low f)) (mul-le-mul_right (2 ^ low f) l)))
      ∙ ap (λ (q : ℕ). bits f false q (low f)) (nearest_quotient_same (n * 2 ^ low f) (d * 2 ^ low f) n d (mul-pos D (pow_pos (low f))) D (mul_assoc n (2 ^ low f) d ∙ ap (λ (x : ℕ). n * x) (mul_comm (2 ^ low f) d)))
