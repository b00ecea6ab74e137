-- The nearest whole number to a fraction, at a tie the even one.
use mathlib.Core.Path.{◌≡◌, refl, sym, ap, ◌∙◌, subst}
use Prim.Native.Nat.{ℕ, zero, suc, ◌+◌, ◌*◌, ◌/◌, ◌%◌, ◌≤◌, ◌-◌, ◌<◌, zero-le, compare, Ordering}
use mathlib.Core.Bool.{not}
use native.Mathlib.Nat.{le_antisymm, le_trans, le_of_eq, mod-lt, add-zero, add-mul, zero-mul, suc-mul, mul-pos, mul_comm, mul_assoc, mul_left_comm, mul-mod_left, mul-div_cancel, mul-le-mul_right, eq_of_mul-eq-mul_right, div-add-mod', div-mul-le_self}
use native.Mathlib.Decide.{dec_le}
use native.Mathlib.Omega.{arith}
use lib.Dec.{T, is_le, compare_is_eq, eqb, leb→le, nleb→lt, eqb→eq, eqb_refl}
use lib.Arith.{lt_of_le-ne, digits_div}
use lib.Ieee.{nearest}
use lib.Ieee.Nearest.{closest_same}
use Rattle.rounding.specs.Nearest.{nearest_quotient, sticky, sticky_quotient}

-- q is a nearest whole number to n / d: n lies no further from q * d than half of d, on either side.
-- Where it lies just so far, q is even.
pub record IsNearest (n d q : ℕ) : Type 0 where
  pub not_below : 2 * n ≤ 2 * (q * d) + d
  pub not_above : 2 * (q * d) ≤ 2 * n + d
  pub even_below : 2 * n ≡ 2 * (q * d) + d → q % 2 ≡ 0
  pub even_above : 2 * (q * d) ≡ 2 * n + d → q % 2 ≡ 0

-- ---- the nearest quotient is nearest

-- what `compare` says
abbrev Compared : Ordering → ℕ → ℕ → Type 0
Compared Ordering.lt a b = a < b
Compared Ordering.eq a b = a ≡ b
Compared Ordering.gt a b = b < a

compared : (a b : ℕ) → Compared (compare a b) a b
compared a b = go (compare a b) (leb→le a b) (nleb→lt a b) (eqb→eq a b) (λ (e : a ≡ b). subst (λ (x : ℕ). T (eqb a x)) e (eqb_refl a))
  where
    go : (o : Ordering) → (T (is_le o) → a ≤ b) → (T (not (is_le o)) → b < a) → (T (compare_is_eq o) → a ≡ b) → (a ≡ b → T (compare_is_eq o)) → Compared o a b
    go Ordering.lt h k e n = lt_of_le-ne (h tt) n
    go Ordering.eq h k e n = e tt
    go Ordering.gt h k e n = k tt

-- by the quotient w and the remainder r; a stands for w * d, and b for the product of the next number and d
near_lt : (n d r w a : ℕ) → a ≡ w * d → a + r ≡ n → r * 2 < d → IsNearest n d w
near_lt n d r w a e s h = record { not_below = omega arith; not_above = omega arith; even_below = λ t. absurd (omega arith); even_above = λ t. absurd (omega arith) }

near_gt : (n d r w a : ℕ) → a + d ≡ suc w * d → a + r ≡ n → r < d → d < r * 2 → IsNearest n d (suc w)
near_gt n d r w a e s l h = record { not_below = omega arith; not_above = omega arith; even_below = λ t. absurd (omega arith); even_above = λ t. absurd (omega arith) }

near_eq : (n d r w : ℕ) → w * d + r ≡ n → r * 2 ≡ d → w % 2 ≡ 0 → IsNearest n d w
near_eq n d r w s h z = record { not_below = omega arith; not_above = omega arith; even_below = λ t. z; even_above = λ t. z }

near_eq_up : (n d r w : ℕ) → w * d + r ≡ n → r * 2 ≡ d → w % 2 ≡ 1 → IsNearest n d (suc w)
near_eq_up n d r w s h z =
    let e : suc w * d ≡ w * d + d = suc-mul w d in
    record { not_below = omega arith; not_above = omega arith; even_below = λ t. omega arith; even_above = λ t. omega arith }

near_tie : (n d r w : ℕ) → w * d + r ≡ n → r * 2 ≡ d → IsNearest n d (w + w % 2)
near_tie n d r w s h = go (w % 2) refl
  where
    go : (b : ℕ) → w % 2 ≡ b → IsNearest n d (w + b)
    go zero z = subst (λ (x : ℕ). IsNearest n d x) (omega arith) (near_eq n d r w s h z)
    go (suc b) z = subst (λ (x : ℕ). IsNearest n d x) (omega arith) (near_eq_up n d r w s h (omega arith))

by_remainder : (n d w r : ℕ) (o : Ordering) → w * d + r ≡ n → r < d → Compared o (r * 2) d → IsNearest n d (nearest w o)
by_remainder n d w r Ordering.lt s l c = near_lt n d r w (w * d) refl s c
by_remainder n d w r Ordering.eq s l c = near_tie n d r w s c
by_remainder n d w r Ordering.gt s l c = near_gt n d r w (w * d) (sym (suc-mul w d)) s l c

pub nearest_quotient_nearest : (n d : ℕ) → 0 < d → IsNearest n d (nearest_quotient n d)
unfolding nearest_quotient
nearest_quotient_nearest n d D = by_remainder n d (n / d) (n % d) (compare (n % d * 2) d) (div-add-mod' n d) (mod-lt n D) (compared (n % d * 2) d)

-- ---- nothing else is

not_above_lem : (n d p q : ℕ) → 0 < d → IsNearest n d p → IsNearest n d q → p ≤ q
not_above_lem n d p q D P Q = elim (dec_le p q) [ yes h ↦ h | no h ↦ absurd (apart (omega arith)) ]
  where
    -- where q is below p, the two are neighbours with n in the middle, and both even
    apart : q < p → ⊥
    apart l =
        let g : suc q * d ≤ p * d = mul-le-mul_right d l in
        let e : suc q * d ≡ q * d + d = suc-mul q d in
        let x = Q.even_below (omega arith) in
        let y = P.even_above (omega arith) in
        let z : p ≡ suc q = eq_of_mul-eq-mul_right d D p (suc q) (omega arith) in
        omega arith

pub nearest_unique : (n d p q : ℕ) → 0 < d → IsNearest n d p → IsNearest n d q → p ≡ q
nearest_unique n d p q D P Q = le_antisymm (not_above_lem n d p q D P Q) (not_above_lem n d q p D Q P)

pub nearest_quotient_is : (n d q : ℕ) → 0 < d → IsNearest n d q → nearest_quotient n d ≡ q
nearest_quotient_is n d q D Q = nearest_unique n d (nearest_quotient n d) q D (nearest_quotient_nearest n d D) Q

-- ---- the order, and equal fractions

pub nearest_quotient_same : (a b c d : ℕ) → 0 < b → 0 < d → a * d ≡ c * b → nearest_quotient a b ≡ nearest_quotient c d
unfolding nearest_quotient
nearest_quotient_same a b c d B D h = closest_same a b c d B D h

-- ---- an even whole number added to the fraction

pub nearest_quotient_shift : (n d k : ℕ) → 0 < d → nearest_quotient (2 * (k * d) + n) d ≡ nearest_quotient n d + 2 * k
nearest_quotient_shift n d k D = nearest_quotient_is (2 * (k * d) + n) d (nearest_quotient n d + 2 * k) D (shifted (nearest_quotient n d) (nearest_quotient_nearest n d D))
  where
    shifted : (q : ℕ) → IsNearest n d q → IsNearest (2 * (k * d) + n) d (q + 2 * k)
    shifted q Q =
        let e : (q + 2 * k) * d ≡ q * d + 2 * (k * d) = add-mul q (2 * k) d ∙ ap (λ (x : ℕ). q * d + x) (mul_assoc 2 k d) in
        record {
          not_below = omega (arith, Q.not_below);
          not_above = omega (arith, Q.not_above);
          even_below = λ t. omega (arith, Q.even_below (omega arith));
          even_above = λ t. omega (arith, Q.even_above (omega arith));
        }

-- ---- bounds

pub nearest_most : (n d q b : ℕ) → 0 < d → n < b * d → IsNearest n d q → q ≤ b
nearest_most n d q b D u Q = elim (dec_le q b) [
  | yes h ↦ h
  | no h ↦
      let g : suc b * d ≤ q * d = mul-le-mul_right d (omega arith) in
      absurd (omega (arith, suc-mul b d))
]

pub nearest_least : (n d q b : ℕ) → 0 < d → b * d ≤ n → IsNearest n d q → b ≤ q
nearest_least n d q b D l Q = elim (dec_le b q) [
  | yes h ↦ h
  | no h ↦
      let g : suc q * d ≤ b * d = mul-le-mul_right d (omega arith) in
      absurd (omega (arith, suc-mul q d))
]

pub nearest_small : (n d : ℕ) → 2 * n < d → nearest_quotient n d ≡ 0
nearest_small n d h = nearest_quotient_is n d 0 (omega arith) (record {
  not_below = omega (arith, zero-mul d);
  not_above = omega (arith, zero-mul d);
  even_below = λ e. refl;
  even_above = λ e. refl;
})

-- ---- by one sum and one division, for a divisor that is 2 * h: with h - 1 added, and 1 more above an odd quotient, the sum
-- reaches the next multiple exactly where the quotient is rounded up

abbrev carry : ℕ → ℕ → ℕ
carry n h = n + (h - 1) + n / (2 * h) % 2

-- n / (2 * h) where n is w and a half
at_half : (n h w : ℕ) → 0 < h → n ≡ w * (2 * h) + h → n / (2 * h) ≡ w
at_half n h w H e = ap (λ (x : ℕ). x / (2 * h)) e ∙ digits_div w (omega arith)

carry_even : (n h q : ℕ) → 0 < h → q * (2 * h) ≤ carry n h → 2 * (q * (2 * h)) ≡ 2 * n + 2 * h → q % 2 ≡ 0
carry_even n h zero H l e = refl
carry_even n h (suc w) H l e =
    let s : suc w * (2 * h) ≡ w * (2 * h) + 2 * h = suc-mul w (2 * h) in
    let o : n / (2 * h) ≡ w = at_half n h w H (omega arith) in
    let p : n / (2 * h) % 2 ≡ w % 2 = ap (λ (x : ℕ). x % 2) o in
    omega arith

carry_nearest : (n h q : ℕ) → 0 < h → q * (2 * h) ≤ carry n h → carry n h < q * (2 * h) + 2 * h → IsNearest n (2 * h) q
carry_nearest n h q H l u = record {
  not_below = omega arith;
  not_above = omega arith;
  even_below = λ e.
      let o : n / (2 * h) ≡ q = at_half n h q H (omega arith) in
      let p : n / (2 * h) % 2 ≡ q % 2 = ap (λ (x : ℕ). x % 2) o in
      omega arith;
  even_above = λ e. carry_even n h q H l e;
}

pub nearest_by_carry : (n h : ℕ) → 0 < h → nearest_quotient n (2 * h) ≡ carry n h / (2 * h)
nearest_by_carry n h H =
    let D : 0 < 2 * h = omega arith in
    let s : carry n h / (2 * h) * (2 * h) + carry n h % (2 * h) ≡ carry n h = div-add-mod' (carry n h) (2 * h) in
    let r : carry n h % (2 * h) < 2 * h = mod-lt (carry n h) D in
    nearest_quotient_is n (2 * h) (carry n h / (2 * h)) D (carry_nearest n h (carry n h / (2 * h)) H (omega arith) (omega arith))

-- ---- where the divisor is u * (2 * h), n / u and the sticky digit are enough

pub sticky_most : (r : ℕ) → sticky r ≤ 1
sticky_most zero = omega arith
sticky_most (suc r) = omega arith

sticky_le : (n u c : ℕ) → 0 < u → sticky_quotient n u ≤ 2 * c → n ≤ c * u
sticky_le n u c U h = go (n % u) refl h
  where
    whole : n / u * u + n % u ≡ n
    whole = div-add-mod' n u

    go : (r : ℕ) → n % u ≡ r → 2 * (n / u) + sticky r ≤ 2 * c → n ≤ c * u
    go zero e l =
        let g : n / u * u ≤ c * u = mul-le-mul_right u (omega arith) in
        omega (arith, whole)
    go (suc r) e l =
        let g : suc (n / u) * u ≤ c * u = mul-le-mul_right u (omega arith) in
        omega (arith, whole, suc-mul (n / u) u, mod-lt n U)

sticky_ge : (n u c : ℕ) → 2 * c ≤ sticky_quotient n u → c * u ≤ n
sticky_ge n u c h = le_trans (mul-le-mul_right u (go (n % u) h)) (div-mul-le_self n u)
  where
    go : (r : ℕ) → 2 * c ≤ 2 * (n / u) + sticky r → c ≤ n / u
    go zero l = omega arith
    go (suc r) l = omega arith

sticky_exact : (n u c : ℕ) → 0 < u → n ≡ c * u → sticky_quotient n u ≡ 2 * c
sticky_exact n u c U e =
    ap (λ (x : ℕ). sticky_quotient x u) e ∙ ap (λ (x : ℕ). 2 * x + sticky (c * u % u)) (mul-div_cancel c U) ∙ ap (λ (x : ℕ). 2 * c + sticky x) (mul-mod_left c u) ∙ add-zero (2 * c)

-- (q * (2 * h) ± h) * u, the ends of what rounds to q
module _ (q u h : ℕ) where
  end : q * (u * (2 * h)) ≡ q * (2 * h) * u
  end = ap (λ (x : ℕ). q * x) (mul_comm u (2 * h)) ∙ sym (mul_assoc q (2 * h) u)

  half : u * (2 * h) ≡ 2 * (h * u)
  half = mul_comm u (2 * h) ∙ mul_assoc 2 h u

  double : q * (2 * (2 * h)) ≡ 2 * (q * (2 * h))
  double = mul_left_comm q 2 (2 * h)

-- the lower end, where there is one
lower : (n u h q : ℕ) → IsNearest (sticky_quotient n u) (2 * (2 * h)) q → q * (2 * h) * u ≤ n + h * u
lower n u h zero Q = le_trans (le_of_eq (ap (λ (x : ℕ). x * u) (zero-mul (2 * h)) ∙ zero-mul u)) zero-le
lower n u h (suc w) Q =
    let c = w * (2 * h) + h in
    let s : suc w * (2 * h) ≡ c + h = suc-mul w (2 * h) ∙ omega arith in
    let g : c * u ≤ n = sticky_ge n u c (omega (arith, Q.not_above, double (suc w) u h)) in
    omega (arith, ap (λ (x : ℕ). x * u) s ∙ add-mul c h u)

lower_even : (n u h q : ℕ) → 0 < u → IsNearest (sticky_quotient n u) (2 * (2 * h)) q → q * (2 * h) * u ≡ n + h * u → q % 2 ≡ 0
lower_even n u h zero U Q e = refl
lower_even n u h (suc w) U Q e =
    let c = w * (2 * h) + h in
    let s : suc w * (2 * h) ≡ c + h = suc-mul w (2 * h) ∙ omega arith in
    let t : suc w * (2 * h) * u ≡ c * u + h * u = ap (λ (x : ℕ). x * u) s ∙ add-mul c h u in
    let x : sticky_quotient n u ≡ 2 * c = sticky_exact n u c U (omega arith) in
    Q.even_above (omega (arith, double (suc w) u h))

sticky_nearest : (n u h q : ℕ) → 0 < u → IsNearest (sticky_quotient n u) (2 * (2 * h)) q → IsNearest n (u * (2 * h)) q
sticky_nearest n u h q U Q =
    let c = q * (2 * h) + h in
    let a : q * (u * (2 * h)) ≡ q * (2 * h) * u = end q u h in
    let b : u * (2 * h) ≡ 2 * (h * u) = half q u h in
    let d : q * (2 * (2 * h)) ≡ 2 * (q * (2 * h)) = double q u h in
    let t : c * u ≡ q * (2 * h) * u + h * u = add-mul (q * (2 * h)) h u in
    record {
      not_below = omega (arith, sticky_le n u c U (omega (arith, Q.not_below)));
      not_above = omega (arith, lower n u h q Q);
      even_below = λ e.
          let x : sticky_quotient n u ≡ 2 * c = sticky_exact n u c U (omega arith) in
          Q.even_below (omega arith);
      even_above = λ e. lower_even n u h q U Q (omega arith);
    }

pub nearest_by_sticky : (n u h : ℕ) → 0 < u → 0 < h → nearest_quotient n (u * (2 * h)) ≡ nearest_quotient (sticky_quotient n u) (2 * (2 * h))
nearest_by_sticky n u h U H =
    let q = nearest_quotient (sticky_quotient n u) (2 * (2 * h)) in
    nearest_quotient_is n (u * (2 * h)) q (mul-pos U (omega arith)) (sticky_nearest n u h q U (nearest_quotient_nearest (sticky_quotient n u) (2 * (2 * h)) (omega arith)))
