-- The value of a bit pattern, by its fields.
use mathlib.Core.Path.{◌≡◌, sym, subst}
use mathlib.Core.Bool.{Bool, true, false, cond}
use Prim.Native.Nat.{ℕ, zero, suc, ◌+◌, ◌-◌, ◌*◌, ◌/◌, ◌%◌, ◌^◌, ◌<◌}
use native.Mathlib.Nat.{lt_irrefl}
use native.Mathlib.Omega.{arith}
use lib.Dec.{T, leb, eqb, eqb→eq, not_T}
use lib.Ieee.{nan, inf, Format, binary32, binary64, prec, low, odd, hid, ones, top, of_fields, of_bits}
use lib.Ieee.Bits.{is_false}
use lib.Ieee.Exact.{HasValue, odd_sign}
use lib.Ieee.Scale.{finite}

-- a test that passed
pub holds : {b : Bool} → b ≡ true → T b
holds e = subst (λ (t : Bool). T t) (sym e) tt

-- ---- the fields

pub low_value : (f : Format) (s : Bool) (t : ℕ) → HasValue (of_fields f s 0 t) s (t * 2 ^ 0) (2 ^ low f)
unfolding of_fields
low_value f s t = odd_sign (prec f) s t 0 (low f)

pub high_value : (f : Format) (s : Bool) (y t : ℕ) → suc y < ones f → HasValue (of_fields f s (suc y) t) s ((hid f + t) * 2 ^ y) (2 ^ low f)
unfolding of_fields
high_value f s y t h =
    subst (λ (b : Bool). HasValue (cond b (cond (eqb t 0) (inf s) nan) (odd (prec f) s (hid f + t) y (low f))) s ((hid f + t) * 2 ^ y) (2 ^ low f))
    (sym (is_false (eqb (suc y) (ones f)) (not_T (eqb (suc y) (ones f)) (λ e. lt_irrefl (ones f) (subst (λ (x : ℕ). x < ones f) (eqb→eq (suc y) (ones f) e) h)))))
    (odd_sign (prec f) s (hid f + t) y (low f))

-- a field of 0 has no leading digit
pub field_zero : (f : Format) (b : ℕ) → b % top f / hid f ≡ 0 → HasValue (of_bits f b) (leb (top f) b) (b % hid f * 2 ^ 0) (2 ^ low f)
unfolding of_bits
field_zero f b e =
    subst (λ (x : ℕ). HasValue (of_fields f (leb (top f) b) x (b % hid f)) (leb (top f) b) (b % hid f * 2 ^ 0) (2 ^ low f)) (sym e) (low_value f (leb (top f) b) (b % hid f))

pub field_value : (f : Format) (b x : ℕ) → b % top f / hid f ≡ x → 0 < x → x < ones f
    → HasValue (of_bits f b) (leb (top f) b) ((hid f + b % hid f) * 2 ^ (x - 1)) (2 ^ low f)
unfolding of_bits
field_value f b zero e p q = absurd (lt_irrefl 0 p)
field_value f b (suc y) e p q =
    let z : y ≡ suc y - 1 = omega arith in
    subst (λ (x : ℕ). HasValue (of_fields f (leb (top f) b) x (b % hid f)) (leb (top f) b) ((hid f + b % hid f) * 2 ^ (suc y - 1)) (2 ^ low f)) (sym e)
    (subst (λ (x : ℕ). HasValue (of_fields f (leb (top f) b) (suc y) (b % hid f)) (leb (top f) b) ((hid f + b % hid f) * 2 ^ x) (2 ^ low f)) z
    (high_value f (leb (top f) b) y (b % hid f) q))

-- the highest field is an infinity's or a NaN's
pub field_top : (f : Format) (b : ℕ) → b % top f / hid f ≡ ones f → T (finite (of_bits f b)) → ⊥
unfolding of_bits
field_top f b e t = none f (b % hid f) (leb (top f) b) (subst (λ (x : ℕ). T (finite (of_fields f (leb (top f) b) x (b % hid f)))) e t)
  where
    neither : (z s : Bool) → T (finite (cond z (inf s) nan)) → ⊥
    neither true s t = t
    neither false s t = t

    none : (f : Format) (d : ℕ) (s : Bool) → T (finite (of_fields f s (ones f) d)) → ⊥
    none binary32 d s t = neither (eqb d 0) s (unfold of_fields in t)
    none binary64 d s t = neither (eqb d 0) s (unfold of_fields in t)
