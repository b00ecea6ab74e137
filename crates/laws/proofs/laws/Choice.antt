-- What a test picks, and laws of two tests.
use mathlib.Core.Path.{◌≡◌, refl, sym, subst, ap}
use mathlib.Core.Bool.{Bool, true, false, cond, not, ◌&&◌, true≢false, false≢true}
use Prim.Native.Nat.{ℕ, ◌≤◌, ◌<◌}
use borrow.Author.Tests.{lt-ltb, le-ltb, eq-eqb, ne_eqb}
use lib.Dec.{T, ltb, eqb}

pub cond-true : {X : Type 0} (b : Bool) (x y : X) → b ≡ true → cond b x y ≡ x
cond-true true x y h = refl
cond-true false x y h = absurd (true≢false (sym h))

pub cond-false : {X : Type 0} (b : Bool) (x y : X) → b ≡ false → cond b x y ≡ y
cond-false true x y h = absurd (true≢false h)
cond-false false x y h = refl

-- a test that came out true, or false
pub true-T : (b : Bool) → b ≡ true → T b
true-T b h = subst T (sym h) tt

pub false-T : (b : Bool) → b ≡ false → T (not b)
false-T b h = subst (λ (z : Bool). T (not z)) (sym h) tt

-- two tests
pub and_left : (a b : Bool) → (a && b) ≡ true → a ≡ true
and_left true b e = refl
and_left false b e = e

pub and_right : (a b : Bool) → (a && b) ≡ true → b ≡ true
and_right true b e = e
and_right false b e = absurd (false≢true e)

pub and_same : {a b c d : Bool} → a ≡ c → b ≡ d → (a && b) ≡ (c && d)
and_same {a} {b} {c} {d} e f = rw (e, f)

pub and_false : (a : Bool) → (a && false) ≡ false
and_false true = refl
and_false false = refl

pub and_true : (a : Bool) → (a && true) ≡ a
and_true true = refl
and_true false = refl

pub first_no : (p q : Bool) → p ≡ false → false ≡ p && q
first_no p q h = sym (ap (λ (b : Bool). b && q) h)

pub first_yes : (p q : Bool) → p ≡ true → q ≡ p && q
first_yes p q h = sym (ap (λ (b : Bool). b && q) h)

pub both_T : (a b : Bool) → T a → T b → T (a && b)
both_T true true x y = tt
both_T true false x y = absurd y
both_T false b x y = absurd x

-- what a test of numbers picks
module _ {X : Type 0} (m n : ℕ) (x y : X) where
  pub picks_lt : m < n → cond (ltb m n) x y ≡ x
  picks_lt h = cond-true (ltb m n) x y (lt-ltb m n h)

  pub leaves_lt : n ≤ m → cond (ltb m n) x y ≡ y
  leaves_lt h = cond-false (ltb m n) x y (le-ltb m n h)

  pub picks_eq : m ≡ n → cond (eqb m n) x y ≡ x
  picks_eq h = cond-true (eqb m n) x y (eq-eqb m n h)

  pub leaves_eq : (m ≡ n → ⊥) → cond (eqb m n) x y ≡ y
  leaves_eq h = cond-false (eqb m n) x y (ne_eqb m n h)
