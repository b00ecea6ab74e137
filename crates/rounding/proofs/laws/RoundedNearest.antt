-- A fraction n / den rounded to p digits, as whole numbers: nothing that has p digits is nearer, at a tie the kept number is
-- even, and where the result reaches a power of two.
use mathlib.Core.Path.{◌≡◌, sym, ap, ◌∙◌, subst, subst₂}
use mathlib.Core.Logic.{◌⊎◌, inl, inr, ◌≢◌}
use Prim.Native.Nat.{ℕ, suc, ◌+◌, ◌-◌, ◌*◌, ◌%◌, ◌^◌, ◌≤◌, ◌<◌}
use native.Mathlib.Nat.{le_trans, le_of_eq, le_of_lt, lt_irrefl, lt_of_lt_of_le, lt_of_le_of_lt, mul-pos, mul_comm, mul_assoc, mul_left_comm, suc-mul, eq_of_mul-eq-mul_right, mul-le-mul_right, lt_of_mul-lt-mul_right, mul-lt-mul_of_pos_right, pow-succ'}
use native.Mathlib.Decide.{dec_le}
use native.Mathlib.Omega.{arith}
use lib.Pow.{pow-add, pow_pos, pow_mono, pow-lt}
use Rattle.rounding.proofs.laws.Nearest.{IsNearest}
use Rattle.rounding.proofs.laws.Rounding.{Rounded, at_most, at_least}
use Rattle.rounding.specs.NarrowNearest.{gap}

-- ---- among the multiples of d

multiple_near : (n d q c : ℕ) → IsNearest n d q → gap n (q * d) ≤ gap n (c * d)
multiple_near n d q c Q = go (dec_le c q) (dec_le q c)
  where
    go : Dec (c ≤ q) → Dec (q ≤ c) → gap n (q * d) ≤ gap n (c * d)
    go (no a) (no b) = absurd (omega arith)
    go (yes a) (yes b) = le_of_eq (ap (λ (x : ℕ). gap n (x * d)) (omega arith))
    go (yes a) (no b) =
        let g : suc c * d ≤ q * d = mul-le-mul_right d (omega arith) in
        omega (arith, suc-mul c d, Q.not_above)
    go (no a) (yes b) =
        let g : suc q * d ≤ c * d = mul-le-mul_right d (omega arith) in
        omega (arith, suc-mul q d, Q.not_below)

multiple_tie : (n d q c : ℕ) → 0 < d → IsNearest n d q → c ≢ q → gap n (q * d) ≡ gap n (c * d) → q % 2 ≡ 0
multiple_tie n d q c D Q ne e = go (dec_le c q) (dec_le q c)
  where
    go : Dec (c ≤ q) → Dec (q ≤ c) → q % 2 ≡ 0
    go (no a) (no b) = absurd (omega arith)
    go (yes a) (yes b) = absurd (ne (omega arith))
    go (yes a) (no b) =
        let g : suc c * d ≤ q * d = mul-le-mul_right d (omega arith) in
        Q.even_above (omega (arith, suc-mul c d, Q.not_above))
    go (no a) (yes b) =
        let g : suc q * d ≤ c * d = mul-le-mul_right d (omega arith) in
        Q.even_below (omega (arith, suc-mul q d, Q.not_below))

-- ---- among the numbers w * 2 ^ j with p digits

closer : (n b c : ℕ) → b < c → c ≤ n → gap n c < gap n b
closer n b c h l = omega arith

in_units : (c den k : ℕ) → c * 2 ^ k * den ≡ c * (den * 2 ^ k)
in_units c den k = mul_assoc c (2 ^ k) den ∙ ap (λ (x : ℕ). c * x) (mul_comm (2 ^ k) den)

module _ (p n den k q : ℕ) (P : 0 < p) (D : 0 < den) (R : Rounded p n den k q) where
  d_pos : 0 < den * 2 ^ k
  d_pos = mul-pos D (pow_pos k)

  -- such a number is a multiple of 2 ^ k, or it lies below a multiple that lies no higher than the fraction
  place : (w j : ℕ) → w < 2 ^ p → ((c : ℕ) × (w * 2 ^ j ≡ c * 2 ^ k)) ⊎ ((w * 2 ^ j * den < 2 ^ (p - 1) * (den * 2 ^ k)) × (2 ^ (p - 1) * (den * 2 ^ k) ≤ n))
  place w j W = go (dec_le k j) R.above
    where
      back : k ≤ j → 2 ^ j ≡ 2 ^ (j - k) * 2 ^ k
      back h = ap (λ (x : ℕ). 2 ^ x) (omega arith) ∙ pow-add 2 (j - k) k

      below : j < k → w * 2 ^ j < 2 ^ (p - 1) * 2 ^ k
      below h =
          let l : p + j ≤ p - 1 + k = omega arith in
          lt_of_lt_of_le (mul-lt-mul_of_pos_right W (pow_pos j)) (le_trans (le_of_eq (sym (pow-add 2 p j))) (le_trans (pow_mono l) (le_of_eq (pow-add 2 (p - 1) k))))

      go : Dec (k ≤ j) → (k ≡ 0) ⊎ (2 ^ (p - 1) * (den * 2 ^ k) ≤ n) → ((c : ℕ) × (w * 2 ^ j ≡ c * 2 ^ k)) ⊎ ((w * 2 ^ j * den < 2 ^ (p - 1) * (den * 2 ^ k)) × (2 ^ (p - 1) * (den * 2 ^ k) ≤ n))
      go (yes h) a = inl (w * 2 ^ (j - k), ap (λ (x : ℕ). w * x) (back h) ∙ sym (mul_assoc w (2 ^ (j - k)) (2 ^ k)))
      go (no h) (inl z) = absurd (omega arith)
      go (no h) (inr l) = inr (lt_of_lt_of_le (mul-lt-mul_of_pos_right (below (omega arith)) D) (le_of_eq (in_units (2 ^ (p - 1)) den k)), l)

  pub rounded_near : (w j : ℕ) → w < 2 ^ p → gap n (q * 2 ^ k * den) ≤ gap n (w * 2 ^ j * den)
  rounded_near w j W = subst (λ (x : ℕ). gap n x ≤ gap n (w * 2 ^ j * den)) (sym (in_units q den k)) (go (place w j W))
    where
      go : ((c : ℕ) × (w * 2 ^ j ≡ c * 2 ^ k)) ⊎ ((w * 2 ^ j * den < 2 ^ (p - 1) * (den * 2 ^ k)) × (2 ^ (p - 1) * (den * 2 ^ k) ≤ n)) → gap n (q * (den * 2 ^ k)) ≤ gap n (w * 2 ^ j * den)
      go (inl c) =
          subst (λ (x : ℕ). gap n (q * (den * 2 ^ k)) ≤ gap n x) (sym (ap (λ (x : ℕ). x * den) c.1 ∙ in_units c.0 den k)) (multiple_near n (den * 2 ^ k) q c.0 R.near)
      go (inr l) = le_trans (multiple_near n (den * 2 ^ k) q (2 ^ (p - 1)) R.near) (le_of_lt (closer n (w * 2 ^ j * den) (2 ^ (p - 1) * (den * 2 ^ k)) l.0 l.1))

  pub rounded_tie : (w j : ℕ) → w < 2 ^ p → w * 2 ^ j ≢ q * 2 ^ k → gap n (q * 2 ^ k * den) ≡ gap n (w * 2 ^ j * den) → q % 2 ≡ 0
  rounded_tie w j W ne e = go (place w j W) (ap (λ (x : ℕ). gap n x) (sym (in_units q den k)) ∙ e)
    where
      go : ((c : ℕ) × (w * 2 ^ j ≡ c * 2 ^ k)) ⊎ ((w * 2 ^ j * den < 2 ^ (p - 1) * (den * 2 ^ k)) × (2 ^ (p - 1) * (den * 2 ^ k) ≤ n)) → gap n (q * (den * 2 ^ k)) ≡ gap n (w * 2 ^ j * den) → q % 2 ≡ 0
      go (inl c) f =
          multiple_tie n (den * 2 ^ k) q c.0 d_pos R.near (λ (z : c.0 ≡ q). ne (c.1 ∙ ap (λ (x : ℕ). x * 2 ^ k) z))
          (f ∙ ap (λ (x : ℕ). gap n x) (ap (λ (x : ℕ). x * den) c.1 ∙ in_units c.0 den k))
      go (inr l) f =
          absurd (lt_irrefl (gap n (w * 2 ^ j * den)) (lt_of_le_of_lt (le_of_eq (sym f)) (lt_of_le_of_lt (multiple_near n (den * 2 ^ k) q (2 ^ (p - 1)) R.near)
          (closer n (w * 2 ^ j * den) (2 ^ (p - 1) * (den * 2 ^ k)) l.0 l.1))))

-- ---- the result reaches 2 ^ p * 2 ^ suc z exactly where the fraction reaches that less 2 ^ z

double : (den z : ℕ) → den * 2 ^ suc z ≡ 2 * (den * 2 ^ z)
double den z = ap (λ (x : ℕ). den * x) (pow-succ' 2 z) ∙ mul_left_comm den 2 (2 ^ z)

-- the fraction against the units at k
scale_le : (a b den j k : ℕ) → a + j ≤ b + k → 2 ^ a * (den * 2 ^ j) ≤ 2 ^ b * (den * 2 ^ k)
scale_le a b den j k l = subst₂ (λ (x y : ℕ). x ≤ y) (sym (one a j)) (sym (one b k)) (mul-le-mul_right den (pow_mono l))
  where
    one : (a j : ℕ) → 2 ^ a * (den * 2 ^ j) ≡ 2 ^ (a + j) * den
    one a j = sym (in_units (2 ^ a) den j) ∙ ap (λ (x : ℕ). x * den) (sym (pow-add 2 a j))

pow_le : (a b j k : ℕ) → a + j ≤ b + k → 2 ^ a * 2 ^ j ≤ 2 ^ b * 2 ^ k
pow_le a b j k l = subst₂ (λ (x y : ℕ). x ≤ y) (pow-add 2 a j) (pow-add 2 b k) (pow_mono l)

-- at k = suc z
module _ (n d q h w : ℕ) (D : 0 < d) (Q : IsNearest n d q) (e : d ≡ 2 * h) where
  level_reached : w % 2 ≡ 0 → 2 * (w * h) ≤ n + h → w * d ≡ 2 * (w * h) → w ≤ q
  level_reached v l f = elim (dec_le w q) [
    | yes g ↦ g
    | no g ↦
        let a : suc q * d ≤ w * d = mul-le-mul_right d (omega arith) in
        let b : suc q * d ≡ q * d + d = suc-mul q d in
        let o : q % 2 ≡ 0 = Q.even_below (omega (arith, Q.not_below)) in
        let c : suc q ≡ w = eq_of_mul-eq-mul_right d D (suc q) w (omega (arith, Q.not_below)) in
        absurd (omega arith)
  ]

  level_not_reached : n + h < 2 * (w * h) → w * d ≡ 2 * (w * h) → q < w
  level_not_reached l f = lt_of_mul-lt-mul_right d (omega (arith, Q.not_above))

module _ (p n den k q z : ℕ) (P : 0 < p) (D : 0 < den) (R : Rounded p n den k q) where
  half_pos : 0 < den * 2 ^ z
  half_pos = mul-pos D (pow_pos z)

  lead : 0 < k → (2 ^ (p - 1) * (den * 2 ^ k) ≤ n) × (2 ^ (p - 1) ≤ q)
  lead K = go R.above (at_least p n den k q D R)
    where
      go : (k ≡ 0) ⊎ (2 ^ (p - 1) * (den * 2 ^ k) ≤ n) → (k ≡ 0) ⊎ (2 ^ (p - 1) ≤ q) → (2 ^ (p - 1) * (den * 2 ^ k) ≤ n) × (2 ^ (p - 1) ≤ q)
      go (inl e) b = absurd (omega arith)
      go (inr l) (inl e) = absurd (omega arith)
      go (inr l) (inr m) = (l, m)

  even_top : 2 ^ p % 2 ≡ 0
  even_top = omega (arith, ap (λ (x : ℕ). 2 ^ x) (back p P) ∙ pow-succ' 2 (p - 1))
    where
      back : (p : ℕ) → 0 < p → p ≡ suc (p - 1)
      back p h = omega arith

  at_level : k ≡ suc z → den * 2 ^ k ≡ 2 * (den * 2 ^ z)
  at_level e = ap (λ (x : ℕ). den * 2 ^ x) e ∙ double den z

  pub reached : 2 * (2 ^ p * (den * 2 ^ z)) ≤ n + den * 2 ^ z → 2 ^ p * 2 ^ suc z ≤ q * 2 ^ k
  reached h = go (dec_le k z) (dec_le k (suc z))
    where
      go : Dec (k ≤ z) → Dec (k ≤ suc z) → 2 ^ p * 2 ^ suc z ≤ q * 2 ^ k
      go (yes a) b =
          let c : 2 ^ p * (den * 2 ^ k) ≤ 2 ^ p * (den * 2 ^ z) = scale_le p p den k z (omega arith) in
          let o : 1 * (den * 2 ^ z) ≤ 2 ^ p * (den * 2 ^ z) = mul-le-mul_right (den * 2 ^ z) (pow_pos p) in
          absurd (omega (arith, R.below, half_pos))
      go (no a) (yes b) =
          let e : k ≡ suc z = omega arith in
          let l = at_level e in
          let m : 2 ^ p ≤ q = level_reached n (den * 2 ^ k) q (den * 2 ^ z) (2 ^ p) (mul-pos D (pow_pos k)) R.near l even_top h (ap (λ (x : ℕ). 2 ^ p * x) l ∙ mul_left_comm (2 ^ p) 2 (den * 2 ^ z)) in
          subst (λ (x : ℕ). 2 ^ p * 2 ^ x ≤ q * 2 ^ k) e (mul-le-mul_right (2 ^ k) m)
      go (no a) (no b) = le_trans (pow_le p (p - 1) (suc z) k (omega arith)) (mul-le-mul_right (2 ^ k) (lead (omega arith)).1)

  pub not_reached : n + den * 2 ^ z < 2 * (2 ^ p * (den * 2 ^ z)) → q * 2 ^ k < 2 ^ p * 2 ^ suc z
  not_reached h = go (dec_le k z) (dec_le k (suc z))
    where
      go : Dec (k ≤ z) → Dec (k ≤ suc z) → q * 2 ^ k < 2 ^ p * 2 ^ suc z
      go (yes a) b = lt_of_le_of_lt (mul-le-mul_right (2 ^ k) (at_most p n den k q D R)) (subst₂ (λ (x y : ℕ). x < y) (pow-add 2 p k) (pow-add 2 p (suc z)) (pow-lt (omega arith)))
      go (no a) (yes b) =
          let e : k ≡ suc z = omega arith in
          let l = at_level e in
          let m : q < 2 ^ p = level_not_reached n (den * 2 ^ k) q (den * 2 ^ z) (2 ^ p) (mul-pos D (pow_pos k)) R.near l h (ap (λ (x : ℕ). 2 ^ p * x) l ∙ mul_left_comm (2 ^ p) 2 (den * 2 ^ z)) in
          subst (λ (x : ℕ). q * 2 ^ k < 2 ^ p * 2 ^ x) e (mul-lt-mul_of_pos_right m (pow_pos k))
      go (no a) (no b) =
          let c : 2 ^ p * (den * 2 ^ suc z) ≤ 2 ^ (p - 1) * (den * 2 ^ k) = scale_le p (p - 1) den (suc z) k (omega arith) in
          let f : 2 ^ p * (den * 2 ^ suc z) ≡ 2 * (2 ^ p * (den * 2 ^ z)) = ap (λ (x : ℕ). 2 ^ p * x) (double den z) ∙ mul_left_comm (2 ^ p) 2 (den * 2 ^ z) in
          absurd (omega (arith, (lead (omega arith)).0))
