-- Digits and a power as a whole number: the same number halved or doubled, and where it is none. Assumes nothing.
use mathlib.Core.Path.{◌≡◌, sym, ap, ◌∙◌}
use mathlib.Core.Bool.{Bool, cond, ◌&&◌}
use Prim.Native.Nat.{ℕ, zero, suc, ◌+◌, ◌-◌, ◌*◌, ◌/◌, ◌%◌, ◌^◌, ◌≤◌, ◌<◌}
use native.Mathlib.Nat.{add-zero, mul_comm, mul_assoc, mul_right_comm, mul-le-mul_right, mul-mod_left, mul-div_cancel, pow-suc, eq_of_mul-eq-mul_right, div-add-mod'}
use native.Mathlib.Numerals.{add-one}
use native.Mathlib.Omega.{arith}
use lib.Dec.{eqb, ltb}
use lib.Pow.{pow-add, pow_pos}
use Rattle.std.specs.Prelude.{Some, None, Result, Ok, Err, OkIff}
use Rattle.std.specs.Result.{result_ok}
use borrow.Author.Tests.{ne_eqb, lt-ltb, le-ltb}
use Rattle.laws.proofs.laws.Choice.{cond-true, cond-false}
use Rattle.aiff_rate.specs.Rate.{whole_of}

halves : (d x : ℕ) → d % 2 ≡ 0 → d / 2 * (x * 2) ≡ d * x
halves d x h =
    let e : d / 2 * 2 ≡ d = omega arith in
    ap (λ (y : ℕ). d / 2 * y) (mul_comm x 2) ∙ sym (mul_assoc (d / 2) 2 x) ∙ ap (λ (y : ℕ). y * x) e

module _ (one : ℕ) where
  -- by the value alone
  same_value : (p d q e : ℕ) → d * 2 ^ p ≡ e * 2 ^ q → whole_of one p d ≡ whole_of one q e
  unfolding whole_of
  same_value p d q e h = ap (λ (v : ℕ). cond (eqb (v % 2 ^ one) 0 && ltb (v / 2 ^ one) 4294967296) (Some (v / 2 ^ one)) None) h

  pub half_turn : (p d : ℕ) → d % 2 ≡ 0 → whole_of one (p + 1) (d / 2) ≡ whole_of one p d
  half_turn p d h =
      same_value (p + 1) (d / 2) p d
      (ap (λ (k : ℕ). d / 2 * 2 ^ k) (add-one p) ∙ ap (λ (x : ℕ). d / 2 * x) (pow-suc 2 p) ∙ halves d (2 ^ p) h)

  double_next : (p d : ℕ) → whole_of one p (d * 2) ≡ whole_of one (suc p) d
  double_next p d =
      same_value p (d * 2) (suc p) d (mul_assoc d 2 (2 ^ p) ∙ ap (λ (x : ℕ). d * x) (mul_comm 2 (2 ^ p) ∙ sym (pow-suc 2 p)))

  pub double_turn : (p d : ℕ) → 0 < p → whole_of one (p - 1) (d * 2) ≡ whole_of one p d
  double_turn zero d h = absurd (omega arith)
  double_turn (suc p) d h =
      let e : suc p - 1 ≡ p = omega arith in
      ap (λ (k : ℕ). whole_of one k (d * 2)) e ∙ double_next p d

  -- digits that have the power of whole numbers
  own : (d : ℕ) → whole_of one one d ≡ cond (ltb d 4294967296) (Some d) None
  unfolding whole_of
  own d =
      ap (λ (x : ℕ). cond (eqb x 0 && ltb (d * 2 ^ one / 2 ^ one) 4294967296) (Some (d * 2 ^ one / 2 ^ one)) None) (mul-mod_left d (2 ^ one))
      ∙ ap (λ (x : ℕ). cond (ltb x 4294967296) (Some x) None) (mul-div_cancel d (pow_pos one))

  pub own_small : (d : ℕ) → d < 4294967296 → Some d ≡ whole_of one one d
  own_small d h = sym (own d ∙ cond-true (ltb d 4294967296) (Some d) None (lt-ltb d 4294967296 h))

  pub own_large : (d : ℕ) → 4294967296 ≤ d → None ≡ whole_of one one d
  own_large d h = sym (own d ∙ cond-false (ltb d 4294967296) (Some d) None (le-ltb d 4294967296 h))

  -- the digits as 32 bits
  pub own_is : {E : Type 0} (d : ℕ) (r : Result ℕ E) → OkIff r (d < 4294967296) d → result_ok r ≡ whole_of one one d
  own_is d (Ok x) h = ap Some h.1 ∙ own_small d h.0
  own_is d (Err e) n = own_large d (omega (arith, n))

-- an odd number of a lower power is no whole number
cut_off : (p k d : ℕ) → (d % 2 ≡ 0 → ⊥) → d * 2 ^ p % 2 ^ (p + suc k) ≡ 0 → ⊥
cut_off p k d n e =
    let w = 2 ^ (p + suc k) in
    let v = d * 2 ^ p in
    let q = v / w in
    let z : v ≡ q * w = sym (div-add-mod' v w) ∙ ap (λ (x : ℕ). q * w + x) e ∙ add-zero (q * w) in
    let y : v ≡ q * 2 ^ suc k * 2 ^ p = z ∙ ap (λ (x : ℕ). q * x) (pow-add 2 p (suc k) ∙ mul_comm (2 ^ p) (2 ^ suc k)) ∙ sym (mul_assoc q (2 ^ suc k) (2 ^ p)) in
    let x : d ≡ q * 2 ^ suc k = eq_of_mul-eq-mul_right (2 ^ p) (pow_pos p) d (q * 2 ^ suc k) y in
    let t : q * 2 ^ suc k ≡ q * 2 ^ k * 2 = ap (λ (x : ℕ). q * x) (pow-suc 2 k) ∙ sym (mul_assoc q (2 ^ k) 2) in
    n (even d (q * 2 ^ k) (x ∙ t))
  where
    even : (d m : ℕ) → d ≡ m * 2 → d % 2 ≡ 0
    even d m h = omega arith

none_odd : (p k d : ℕ) → (d % 2 ≡ 0 → ⊥) → None ≡ whole_of (p + suc k) p d
unfolding whole_of
none_odd p k d n =
    let v = d * 2 ^ p in
    let w = 2 ^ (p + suc k) in
    sym (ap (λ (t : Bool). cond (t && ltb (v / w) 4294967296) (Some (v / w)) None) (ne_eqb (v % w) 0 (cut_off p k d n)))

pub odd_none : (one p d : ℕ) → p < one → (d % 2 ≡ 0 → ⊥) → None ≡ whole_of one p d
odd_none one p d h n =
    let e : p + suc (one - suc p) ≡ one = omega arith in
    none_odd p (one - suc p) d n ∙ ap (λ (k : ℕ). whole_of k p d) e

-- and one that passes 32 bits is left out
none_large : (one k d : ℕ) → 2147483648 ≤ d → None ≡ whole_of one (one + suc k) d
none_large one k d h =
    let m : 1 * (d * 2) ≤ 2 ^ k * (d * 2) = mul-le-mul_right (d * 2) (pow_pos k) in
    let e : d * 2 ^ suc k ≡ 2 ^ k * (d * 2) = ap (λ (x : ℕ). d * x) (pow-suc 2 k) ∙ sym (mul_assoc d (2 ^ k) 2) ∙ mul_right_comm d (2 ^ k) 2 ∙ mul_comm (d * 2) (2 ^ k) in
    own_large one (d * 2 ^ suc k) (omega arith)
    ∙ same_value one one (d * 2 ^ suc k) (one + suc k) d
    (mul_assoc d (2 ^ suc k) (2 ^ one) ∙ ap (λ (x : ℕ). d * x) (mul_comm (2 ^ suc k) (2 ^ one) ∙ sym (pow-add 2 one (suc k))))

pub large_none : (one p d : ℕ) → one < p → 2147483648 ≤ d → None ≡ whole_of one p d
large_none one p d h k =
    let e : one + suc (p - suc one) ≡ p = omega arith in
    none_large one (p - suc one) d k ∙ ap (λ (q : ℕ). whole_of one q d) e

-- a number times 2 ^ k, with a power that is k lower, is the number
pub scaled_whole : (one k n : ℕ) → k ≤ one → n < 4294967296 → whole_of one (one - k) (n * 2 ^ k) ≡ Some n
scaled_whole one k n h s =
    let e : k + (one - k) ≡ one = omega arith in
    same_value one (one - k) (n * 2 ^ k) one n (mul_assoc n (2 ^ k) (2 ^ (one - k)) ∙ ap (λ (x : ℕ). n * x) (sym (pow-add 2 k (one - k)) ∙ ap (λ (j : ℕ). 2 ^ j) e))
    ∙ sym (own_small one n s)
