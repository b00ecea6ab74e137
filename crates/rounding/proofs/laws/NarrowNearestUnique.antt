-- `Narrows` says all: it determines the f32.
use mathlib.Core.Path.{◌≡◌, refl, sym, ap, ◌∙◌, subst, subst₂}
use mathlib.Core.Logic.{◌⊎◌, inl, inr, ◌≢◌}
use mathlib.Core.Bool.{Bool}
use Prim.Native.Nat.{ℕ, suc, ◌+◌, ◌-◌, ◌*◌, ◌/◌, ◌%◌, ◌^◌, ◌≤◌, ◌<◌}
use native.Mathlib.Nat.{le_antisymm, le_trans, le_of_eq, lt_irrefl, le_of_lt, lt-suc_self, lt_of_lt_of_le, lt_trans, lt_of_not-le, not-le_of_lt, mul_assoc, mul-le-mul_right, mul-lt-mul_of_pos_right, lt_of_mul-lt-mul_right, eq_of_mul-eq-mul_right}
use native.Mathlib.Decide.{dec_le}
use native.Mathlib.Omega.{arith}
use lib.IntN.{ℤ}
use lib.Dec.{T}
use lib.Pow.{pow-add, pow_pos, pow_mono}
use lib.Ieee.{Float, nan, inf, fin, binary32, up, down, round, fits}
use lib.Ieee.Fits.{down_pos, round-fits}
use lib.Ieee.Exact.{HasValue, round_exact}
use Rattle.rounding.specs.Narrow.{narrowed, Signed}
use Rattle.rounding.proofs.laws.Narrow.{fits_units}
use Rattle.laws.proofs.laws.FloatValue.{value_unique}
use Rattle.rounding.specs.NarrowNearest.{gap, distance, LastDigitEven, IsNearestFloat, Narrows}
use Rattle.rounding.proofs.laws.NarrowNearest.{to_like, cross_back, narrowed_nearest}

-- ---- two numbers of 24 digits, each with an even last digit, are no neighbours: q + 1 in place of q lies between

even_multiple : (q i : ℕ) → q % 2 ≡ 0 → q * 2 ^ i % 2 ≡ 0
even_multiple q i z =
    let h : q ≡ 2 * (q / 2) = omega arith in
    let e : q * 2 ^ i ≡ 2 * (q / 2 * 2 ^ i) = ap (λ (x : ℕ). x * 2 ^ i) h ∙ mul_assoc 2 (q / 2) (2 ^ i) in
    omega arith

between : (q k r l : ℕ) → (k ≡ 0) ⊎ (2 ^ 23 ≤ q) → q % 2 ≡ 0 → r < 2 ^ 24 → r % 2 ≡ 0 → q * 2 ^ k < r * 2 ^ l → suc q * 2 ^ k < r * 2 ^ l
between q k r l lead z W y h = go (dec_le k l) lead
  where
    same : k ≤ l → r * 2 ^ l ≡ r * 2 ^ (l - k) * 2 ^ k
    same g = ap (λ (x : ℕ). r * x) (ap (λ (x : ℕ). 2 ^ x) (omega arith) ∙ pow-add 2 (l - k) k) ∙ sym (mul_assoc r (2 ^ (l - k)) (2 ^ k))

    far : l < k → r * 2 ^ l < 2 ^ 23 * 2 ^ k
    far g =
        let o : 24 + l ≤ 23 + k = omega arith in
        lt_of_lt_of_le (mul-lt-mul_of_pos_right W (pow_pos l)) (le_trans (le_of_eq (sym (pow-add 2 24 l))) (le_trans (pow_mono o) (le_of_eq (pow-add 2 23 k))))

    go : Dec (k ≤ l) → (k ≡ 0) ⊎ (2 ^ 23 ≤ q) → suc q * 2 ^ k < r * 2 ^ l
    go (yes g) x =
        let c = r * 2 ^ (l - k) in
        let m : q < c = lt_of_mul-lt-mul_right (2 ^ k) (subst (λ (x : ℕ). q * 2 ^ k < x) (same g) h) in
        let o : suc q < c = omega (arith, even_multiple r (l - k) y) in
        subst (λ (x : ℕ). suc q * 2 ^ k < x) (sym (same g)) (mul-lt-mul_of_pos_right o (pow_pos k))
    go (no g) (inl e) = absurd (omega arith)
    go (no g) (inr m) = absurd (not-le_of_lt h (le_of_lt (lt_of_lt_of_le (far (omega arith)) (mul-le-mul_right (2 ^ k) m))))

-- what is as near as two others to their middle is not between them
middle : (n a b : ℕ) → a < b → gap n a ≡ gap n b → 2 * n ≡ a + b
middle n a b h e = omega arith

not_nearer : (n a v b : ℕ) → a < v → v < b → 2 * n ≡ a + b → gap n a ≤ gap n v → ⊥
not_nearer n a v b h g m l = omega arith

-- ---- so no two are nearest

one_value : (x : Float) (s : Bool) (a b c : ℕ) → HasValue x s a c → HasValue x s b c → a ≡ b
one_value nan s a b c v w = absurd v
one_value (inf t) s a b c v w = absurd v
one_value (fin t m e) s a b c v w = eq_of_mul-eq-mul_right (down e) (down_pos e) a b (sym v.1 ∙ w.1)

gaps : (s : Bool) (m : ℕ) (e : ℤ) (t : Bool) (n : ℕ) (d : ℤ) (a : ℕ) → HasValue (fin t n d) s a (2 ^ 149) → (t' : Bool) (n' : ℕ) (d' : ℤ) (b : ℕ) → HasValue (fin t' n' d') s b (2 ^ 149)
    → distance (fin s m e) (fin t n d) * down d' ≤ distance (fin s m e) (fin t' n' d') * down d → gap (m * up e * 2 ^ 149) (a * down e) ≤ gap (m * up e * 2 ^ 149) (b * down e)
gaps s m e t n d a v t' n' d' b v' h =
    cross_back (2 ^ 149) (distance (fin s m e) (fin t n d)) (distance (fin s m e) (fin t' n' d')) (down d) (down d') (gap (m * up e * 2 ^ 149) (a * down e)) (gap (m * up e * 2 ^ 149) (b * down e))
    (down_pos d) (down_pos d') (to_like s m e t n d a v) (to_like s m e t' n' d' b v') h

-- r = ±a units is below r' = ±b units
module _ (s : Bool) (m : ℕ) (e : ℤ) (t : Bool) (n : ℕ) (d : ℤ) (t' : Bool) (n' : ℕ) (d' : ℤ) (a b : ℕ)
    (v : HasValue (fin t n d) s a (2 ^ 149)) (v' : HasValue (fin t' n' d') s b (2 ^ 149)) (B : b < 2 ^ 277) (l : a < b)
    (R : IsNearestFloat (fin s m e) (fin t n d)) (R' : IsNearestFloat (fin s m e) (fin t' n' d')) where
  differ : fin t n d ≢ fin t' n' d'
  differ q = lt_irrefl b (subst (λ (x : ℕ). x < b) (one_value (fin t' n' d') s a b (2 ^ 149) (subst (λ (x : Float). HasValue x s a (2 ^ 149)) q v) v') l)

  alike_far : distance (fin s m e) (fin t n d) * down d' ≡ distance (fin s m e) (fin t' n' d') * down d
  alike_far = le_antisymm (R.nearest (fin t' n' d') tt R'.is_float) (R'.nearest (fin t n d) tt R.is_float)

  E : LastDigitEven (fin t n d)
  E = R.tie (fin t' n' d') tt R'.is_float (λ q. differ (sym q)) alike_far

  E' : LastDigitEven (fin t' n' d')
  E' = R'.tie (fin t n d) tt R.is_float differ (sym alike_far)

  a_is : a ≡ E.digits * 2 ^ E.shift
  a_is = one_value (fin t n d) s a (E.digits * 2 ^ E.shift) (2 ^ 149) v (v.0, E.value)

  b_is : b ≡ E'.digits * 2 ^ E'.shift
  b_is = one_value (fin t' n' d') s b (E'.digits * 2 ^ E'.shift) (2 ^ 149) v' (v'.0, E'.value)

  -- one more in r's last digit
  next_below : suc E.digits * 2 ^ E.shift < b
  next_below =
      subst (λ (x : ℕ). suc E.digits * 2 ^ E.shift < x) (sym b_is)
      (between E.digits E.shift E'.digits E'.shift E.least E.even E'.most E'.even (subst₂ (λ (x y : ℕ). x < y) a_is b_is l))

  next_above : a < suc E.digits * 2 ^ E.shift
  next_above = subst (λ (x : ℕ). x < suc E.digits * 2 ^ E.shift) (sym a_is) (mul-lt-mul_of_pos_right (lt-suc_self E.digits) (pow_pos E.shift))

  next_value : HasValue (round binary32 s (suc E.digits * 2 ^ E.shift) (2 ^ 149)) s (suc E.digits * 2 ^ E.shift) (2 ^ 149)
  next_value =
      round_exact binary32 s (suc E.digits * 2 ^ E.shift) (2 ^ 149) (suc E.digits) E.shift (pow_pos 149) (omega (arith, E.most, E.even)) (lt_trans next_below B) refl

  to_next : (y : Float) → HasValue y s (suc E.digits * 2 ^ E.shift) (2 ^ 149) → T (fits binary32 y)
      → gap (m * up e * 2 ^ 149) (a * down e) ≤ gap (m * up e * 2 ^ 149) (suc E.digits * 2 ^ E.shift * down e)
  to_next nan w F = absurd w
  to_next (inf u) w F = absurd w
  to_next (fin u k g) w F = gaps s m e t n d a v u k g (suc E.digits * 2 ^ E.shift) w (R.nearest (fin u k g) tt F)

  not_below : ⊥
  not_below =
      not_nearer (m * up e * 2 ^ 149) (a * down e) (suc E.digits * 2 ^ E.shift * down e) (b * down e)
      (mul-lt-mul_of_pos_right next_above (down_pos e)) (mul-lt-mul_of_pos_right next_below (down_pos e))
      (middle (m * up e * 2 ^ 149) (a * down e) (b * down e) (mul-lt-mul_of_pos_right l (down_pos e))
      (le_antisymm (gaps s m e t n d a v t' n' d' b v' (le_of_eq alike_far)) (gaps s m e t' n' d' b v' t n d a v (le_of_eq (sym alike_far)))))
      (to_next (round binary32 s (suc E.digits * 2 ^ E.shift) (2 ^ 149)) next_value (round-fits binary32 s (suc E.digits * 2 ^ E.shift) (2 ^ 149)))

nearest_one : (s : Bool) (m : ℕ) (e : ℤ) (r r' : Float) → Signed s r → Signed s r' → IsNearestFloat (fin s m e) r → IsNearestFloat (fin s m e) r' → r ≡ r'
nearest_one s m e nan r' p p' R R' = absurd p
nearest_one s m e (inf t) r' p p' R R' = absurd R.is_finite
nearest_one s m e (fin t n d) nan p p' R R' = absurd p'
nearest_one s m e (fin t n d) (inf t') p p' R R' = absurd R'.is_finite
nearest_one s m e (fin t n d) (fin t' n' d') p p' R R' = go (dec_le (n * 2 ^ J.0) (n' * 2 ^ J'.0)) (dec_le (n' * 2 ^ J'.0) (n * 2 ^ J.0))
  where
    J : (j : ℕ) × (n < 2 ^ 24) × (n * up d * 2 ^ 149 ≡ n * 2 ^ j * down d) × (n * 2 ^ j < 2 ^ 277)
    J = fits_units binary32 t n d R.is_float

    J' : (j : ℕ) × (n' < 2 ^ 24) × (n' * up d' * 2 ^ 149 ≡ n' * 2 ^ j * down d') × (n' * 2 ^ j < 2 ^ 277)
    J' = fits_units binary32 t' n' d' R'.is_float

    go : Dec (n * 2 ^ J.0 ≤ n' * 2 ^ J'.0) → Dec (n' * 2 ^ J'.0 ≤ n * 2 ^ J.0) → fin t n d ≡ fin t' n' d'
    go (no h) x = absurd (not_below s m e t' n' d' t n d (n' * 2 ^ J'.0) (n * 2 ^ J.0) (p', J'.2) (p, J.2) J.3 (lt_of_not-le h) R' R)
    go (yes h) (no g) = absurd (not_below s m e t n d t' n' d' (n * 2 ^ J.0) (n' * 2 ^ J'.0) (p, J.2) (p', J'.2) J'.3 (lt_of_not-le g) R R')
    go (yes h) (yes g) =
        value_unique binary32 (fin t n d) (fin t' n' d') s (n' * 2 ^ J'.0) (2 ^ 149) (pow_pos 149) R.is_float R'.is_float
        (p, J.2 ∙ ap (λ (x : ℕ). x * down d) (le_antisymm h g)) (p', J'.2)

pub narrows_unique : (s : Bool) (m : ℕ) (e : ℤ) (r : Float) → Narrows s m e r → r ≡ narrowed (fin s m e)
narrows_unique s m e r R = go (dec_le ((2 ^ 128 - 2 ^ 103) * down e) (m * up e))
  where
    N : Narrows s m e (narrowed (fin s m e))
    N = narrowed_nearest s m e

    go : Dec ((2 ^ 128 - 2 ^ 103) * down e ≤ m * up e) → r ≡ narrowed (fin s m e)
    go (yes h) = R.overflows h ∙ sym (N.overflows h)
    go (no h) = nearest_one s m e r (narrowed (fin s m e)) R.sign N.sign (R.otherwise (lt_of_not-le h)) (N.otherwise (lt_of_not-le h))
