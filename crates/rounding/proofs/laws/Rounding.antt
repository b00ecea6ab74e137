-- Laws of the library's `round`, for both formats: which digits it drops, that the rest is the nearest quotient, and what
-- the bits of its result are.
use mathlib.Core.Path.{◌≡◌, refl, sym, ap, ◌∙◌, subst, subst₂}
use mathlib.Core.Logic.{◌⊎◌, inl, inr, ⊎_map}
use mathlib.Core.Bool.{Bool, cond}
use Prim.Native.Nat.{ℕ, suc, ◌+◌, ◌-◌, ◌*◌, ◌/◌, ◌^◌, ◌≤◌, ◌<◌, min}
use native.Mathlib.Nat.{le_trans, le_of_eq, lt_of_lt_of_le, lt_of_le_of_lt, lt_of_not-le, not-le_of_lt, eq-or-lt_of_le, eq-zero-or-pos, mul-pos, mul_comm, mul_assoc, suc-mul, mul-le-mul_right, mul-div_cancel, le_of_mul-le-mul_right, mul-lt-mul_of_pos_right, le-div_iff_mul-le, div-lt_iff_lt-mul, pow-succ', add_assoc, min-eq_left, min-eq_right}
use native.Mathlib.Decide.{dec_le}
use native.Mathlib.Numerals.{add-one}
use native.Mathlib.Omega.{arith}
use lib.Dec.{ltb}
use lib.Arith.{le→nltb}
use lib.Pow.{pow-add, pow_pos, pow_mono, pow-lt}
use lib.Ieee.{Float, nan, inf, fin, Format, prec, emax, low, up, down, size, odd, units, round, hid, ones, top, to_bits}
use lib.Ieee.Digits.{size-lt, size-le, size_reaches}
use lib.Ieee.Fits.{two, reach, two-le_pos, round_is, down_pos}
use lib.Ieee.Exact.{HasValue, units_val}
use lib.Ieee.Bits.{is_false}
use lib.Ieee.Nearest.{closest}
use lib.Ieee.Order.{drop, kept}
use lib.Ieee.Scale.{grid, overflow}
use Rattle.rounding.specs.Nearest.{nearest_quotient}
use Rattle.rounding.proofs.laws.Nearest.{IsNearest, nearest_quotient_nearest, nearest_quotient_same, nearest_most, nearest_least}

-- ---- how many digits are dropped

pub size_gt : (w j : ℕ) → 2 ^ j ≤ w → j < size w
size_gt w j h = lt_of_not-le (λ (g : size w ≤ j). not-le_of_lt (lt_of_lt_of_le (size-lt w) (pow_mono g)) h)

-- of a number below 2 ^ (p + k) k digits, where it has as many or where k is 0
size_drop : (p w k : ℕ) → 0 < p → w < 2 ^ (p + k) → (k ≡ 0) ⊎ (2 ^ (p - 1 + k) ≤ w) → size w - p ≡ k
size_drop p w k P u (inl e) =
    let h : size w ≤ p + k = size-le w (p + k) u in
    omega arith
size_drop p w k P u (inr l) =
    let h : size w ≤ p + k = size-le w (p + k) u in
    let g : p - 1 + k < size w = size_gt w (p - 1 + k) l in
    omega arith

regroup : (a den k : ℕ) → 2 ^ a * (den * 2 ^ k) ≡ 2 ^ (a + k) * den
regroup a den k = ap (λ (x : ℕ). 2 ^ a * x) (mul_comm den (2 ^ k)) ∙ sym (mul_assoc (2 ^ a) (2 ^ k) den) ∙ ap (λ (x : ℕ). x * den) (sym (pow-add 2 a k))

-- The fraction n / den rounded to p digits: k digits are dropped, and q is kept.
pub record Rounded (p n den k q : ℕ) : Type 0 where
  pub below : n < 2 ^ p * (den * 2 ^ k)
  pub above : (k ≡ 0) ⊎ (2 ^ (p - 1) * (den * 2 ^ k) ≤ n)
  pub near : IsNearest n (den * 2 ^ k) q

pub drop_is : (p n den k : ℕ) → 0 < p → 0 < den → n < 2 ^ p * (den * 2 ^ k) → (k ≡ 0) ⊎ (2 ^ (p - 1) * (den * 2 ^ k) ≤ n) → drop p n den ≡ k
drop_is p n den k P D u l =
    size_drop p (n / den) k P ((div-lt_iff_lt-mul D).1 (subst (λ (x : ℕ). n < x) (regroup p den k) u))
    (⊎_map (λ e. e) (λ h. (le-div_iff_mul-le D).1 (subst (λ (x : ℕ). x ≤ n) (regroup (p - 1) den k) h)) l)

pub rounded : (p n den : ℕ) → 0 < p → 0 < den → Rounded p n den (drop p n den) (kept p n den)
unfolding nearest_quotient
rounded p n den P D =
    let k = drop p n den in
    let z = size (n / den) in
    record {
      below = subst (λ (x : ℕ). n < x) (sym (regroup p den k)) ((div-lt_iff_lt-mul D).0 (lt_of_lt_of_le (size-lt (n / den)) (pow_mono (cover z))));
      above = lead (eq-zero-or-pos k);
      near = nearest_quotient_nearest n (den * 2 ^ k) (mul-pos D (pow_pos k));
    }
  where
    cover : (z : ℕ) → z ≤ p + (z - p)
    cover z = omega arith

    last : (z : ℕ) → 0 < z - p → p - 1 + (z - p) < z
    last z h = omega arith

    lead : (drop p n den ≡ 0) ⊎ (0 < drop p n den) → (drop p n den ≡ 0) ⊎ (2 ^ (p - 1) * (den * 2 ^ drop p n den) ≤ n)
    lead (inl e) = inl e
    lead (inr h) =
        inr (subst (λ (x : ℕ). x ≤ n) (sym (regroup (p - 1) den (drop p n den)))
        ((le-div_iff_mul-le D).0 (size_reaches (n / den) (p - 1 + drop p n den) (last (size (n / den)) h))))

-- ---- how large the kept number is

twice : (p : ℕ) → 0 < p → 2 ^ p ≡ 2 * 2 ^ (p - 1)
twice p P = ap (λ (x : ℕ). 2 ^ x) (back p P) ∙ pow-succ' 2 (p - 1)
  where
    back : (p : ℕ) → 0 < p → p ≡ suc (p - 1)
    back p h = omega arith

module _ (p n den k q : ℕ) (D : 0 < den) (R : Rounded p n den k q) where
  unit_pos : 0 < den * 2 ^ k
  unit_pos = mul-pos D (pow_pos k)

  pub at_most : q ≤ 2 ^ p
  at_most = nearest_most n (den * 2 ^ k) q (2 ^ p) unit_pos R.below R.near

  pub at_least : (k ≡ 0) ⊎ (2 ^ (p - 1) ≤ q)
  at_least = ⊎_map (λ e. e) (λ h. nearest_least n (den * 2 ^ k) q (2 ^ (p - 1)) unit_pos h R.near) R.above

-- ---- the bits of a value

-- by its size a in units of the format's smallest value
pub bits_of_value : (f : Format) (x : Float) (s : Bool) (a : ℕ) → HasValue x s a (2 ^ low f)
    → to_bits f x ≡ cond s (top f) 0 + (size a - prec f) * hid f + a / 2 ^ (size a - prec f)
unfolding to_bits
bits_of_value f nan s a h = absurd h
bits_of_value f (inf t) s a h = absurd h
bits_of_value f (fin t m e) s a h =
    ap (λ (y : Bool). cond y (top f) 0 + (size n - prec f) * hid f + n / 2 ^ (size n - prec f)) h.0
    ∙ ap (λ (y : ℕ). cond s (top f) 0 + (size y - prec f) * hid f + y / 2 ^ (size y - prec f)) (ap (λ (y : ℕ). y / down e) h.1 ∙ mul-div_cancel a (down_pos e))
  where
    n : ℕ
    n = m * up e * 2 ^ low f / down e

-- q * 2 ^ k units, with no more than p digits in q, and no fewer where k is above 0: a carry to 2 ^ p goes to the field by itself
pub size_bits : (p q k : ℕ) → 0 < p → q ≤ 2 ^ p → (k ≡ 0) ⊎ (2 ^ (p - 1) ≤ q)
    → (size (q * 2 ^ k) - p) * 2 ^ (p - 1) + q * 2 ^ k / 2 ^ (size (q * 2 ^ k) - p) ≡ k * 2 ^ (p - 1) + q
size_bits p q k P m l = go (eq-or-lt_of_le m)
  where
    scaled : (k ≡ 0) ⊎ (2 ^ (p - 1 + k) ≤ q * 2 ^ k)
    scaled = ⊎_map (λ e. e) (λ g. subst (λ (x : ℕ). x ≤ q * 2 ^ k) (sym (pow-add 2 (p - 1) k)) (mul-le-mul_right (2 ^ k) g)) l

    carried : (p - 1) + suc k ≡ p + k
    carried = omega arith

    go : (q ≡ 2 ^ p) ⊎ (q < 2 ^ p) → (size (q * 2 ^ k) - p) * 2 ^ (p - 1) + q * 2 ^ k / 2 ^ (size (q * 2 ^ k) - p) ≡ k * 2 ^ (p - 1) + q
    go (inr u) =
        let z : size (q * 2 ^ k) - p ≡ k = size_drop p (q * 2 ^ k) k P (subst (λ (x : ℕ). q * 2 ^ k < x) (sym (pow-add 2 p k)) (mul-lt-mul_of_pos_right u (pow_pos k))) scaled in
        ap (λ (x : ℕ). x * 2 ^ (p - 1) + q * 2 ^ k / 2 ^ x) z ∙ ap (λ (x : ℕ). k * 2 ^ (p - 1) + x) (mul-div_cancel q (pow_pos k))
    go (inl e) =
        let w : q * 2 ^ k ≡ 2 ^ (p - 1) * 2 ^ suc k = ap (λ (x : ℕ). x * 2 ^ k) e ∙ sym (pow-add 2 p k) ∙ ap (λ (x : ℕ). 2 ^ x) (sym carried) ∙ pow-add 2 (p - 1) (suc k) in
        let v : 2 ^ (p - 1 + suc k) ≡ q * 2 ^ k = pow-add 2 (p - 1) (suc k) ∙ sym w in
        let z : size (q * 2 ^ k) - p ≡ suc k = size_drop p (q * 2 ^ k) (suc k) P (subst (λ (x : ℕ). x < 2 ^ (p + suc k)) v (pow-lt (omega arith))) (inr (le_of_eq v)) in
        ap (λ (x : ℕ). x * 2 ^ (p - 1) + q * 2 ^ k / 2 ^ x) z
        ∙ ap (λ (x : ℕ). suc k * 2 ^ (p - 1) + x) (ap (λ (x : ℕ). x / 2 ^ suc k) w ∙ mul-div_cancel (2 ^ (p - 1)) (pow_pos (suc k)))
        ∙ omega (arith, suc-mul k (2 ^ (p - 1)), twice p P)

-- ---- the largest finite value lies below 2 ^ t units with t = p - 1 + 2 * e, and an infinity's bits are those of a field of 2 * e + 1

module _ (p e q k : ℕ) (P : 0 < p) (E : 0 < e) (m : q ≤ 2 ^ p) (l : (k ≡ 0) ⊎ (2 ^ (p - 1) ≤ q)) where
  lead_of : 0 < k → 2 ^ (p - 1) ≤ q
  lead_of K = go l
    where
      go : (k ≡ 0) ⊎ (2 ^ (p - 1) ≤ q) → 2 ^ (p - 1) ≤ q
      go (inl z) = absurd (omega arith)
      go (inr g) = g

  -- a field that large is an infinity's
  high : 2 * e ≤ k → (2 ^ (p - 1 + 2 * e) ≤ q * 2 ^ k) × (suc (2 * e) * 2 ^ (p - 1) ≤ k * 2 ^ (p - 1) + q)
  high g =
      let a : 2 ^ (p - 1) ≤ q = lead_of (omega arith) in
      let b : suc (2 * e) * 2 ^ (p - 1) ≤ suc k * 2 ^ (p - 1) = mul-le-mul_right (2 ^ (p - 1)) (omega arith) in
      (le_trans (pow_mono (omega arith)) (le_trans (le_of_eq (pow-add 2 (p - 1) k)) (mul-le-mul_right (2 ^ k) a)), omega (arith, suc-mul k (2 ^ (p - 1))))

  two_more : suc (suc k) * 2 ^ (p - 1) ≡ k * 2 ^ (p - 1) + 2 ^ p
  two_more = omega (arith, suc-mul (suc k) (2 ^ (p - 1)), suc-mul k (2 ^ (p - 1)), twice p P)

  under : q * 2 ^ k < 2 ^ (p - 1 + 2 * e) → k * 2 ^ (p - 1) + q ≤ suc (2 * e) * 2 ^ (p - 1)
  under u = go (dec_le (2 * e) k)
    where
      go : Dec (2 * e ≤ k) → k * 2 ^ (p - 1) + q ≤ suc (2 * e) * 2 ^ (p - 1)
      go (yes h) = absurd (not-le_of_lt u (high h).0)
      go (no h) =
          let b : suc (suc k) * 2 ^ (p - 1) ≤ suc (2 * e) * 2 ^ (p - 1) = mul-le-mul_right (2 ^ (p - 1)) (omega arith) in
          omega (arith, two_more)

  over : 2 ^ (p - 1 + 2 * e) ≤ q * 2 ^ k → suc (2 * e) * 2 ^ (p - 1) ≤ k * 2 ^ (p - 1) + q
  over u = go (dec_le (2 * e) k) (dec_le (2 * e) (suc k))
    where
      last : 2 * e ≡ suc k → 2 ^ p * 2 ^ k ≤ q * 2 ^ k
      last d = subst (λ (x : ℕ). x ≤ q * 2 ^ k) (ap (λ (x : ℕ). 2 ^ x) (omega arith) ∙ pow-add 2 p k) u

      go : Dec (2 * e ≤ k) → Dec (2 * e ≤ suc k) → suc (2 * e) * 2 ^ (p - 1) ≤ k * 2 ^ (p - 1) + q
      go (yes h) d = (high h).1
      go (no h) (yes g) =
          let a : 2 ^ p ≤ q = le_of_mul-le-mul_right (last (omega arith)) (pow_pos k) in
          let b : suc (2 * e) * 2 ^ (p - 1) ≤ suc (suc k) * 2 ^ (p - 1) = mul-le-mul_right (2 ^ (p - 1)) (omega arith) in
          omega (arith, two_more)
      go (no h) (no g) =
          absurd (not-le_of_lt (lt_of_le_of_lt (mul-le-mul_right (2 ^ k) m) (lt_of_le_of_lt (le_of_eq (sym (pow-add 2 p k))) (pow-lt (omega arith)))) u)

-- ---- the bits of what `units` makes of q * 2 ^ k, and so of what `round` gives: the digits dropped in the exponent's field, plus the
-- digits kept, up to an infinity's bits

emax_pos : (f : Format) → 0 < emax f
emax_pos f = omega (arith, two f, reach f)

-- where the finite values end
ends : (f : Format) → low f + suc (emax f) ≡ prec f - 1 + 2 * emax f
ends f = omega (arith, two f)

abbrev pub bits : Format → Bool → ℕ → ℕ → ℕ
bits f s q k = cond s (top f) 0 + min (k * hid f + q) (ones f * hid f)

units_infinite : (f : Format) (s : Bool) (q k : ℕ) → 2 ^ (low f + suc (emax f)) ≤ q * 2 ^ k → units f s q k ≡ inf s
unfolding units
units_infinite f s q k h =
    ap (λ (b : Bool). cond b (odd (suc (prec f)) s q k (low f)) (inf s))
    (is_false (ltb (q * 2 ^ k) (2 ^ (low f + suc (emax f)))) (le→nltb (q * 2 ^ k) (2 ^ (low f + suc (emax f))) h))

pub bits_of_infinity : (f : Format) (s : Bool) → to_bits f (inf s) ≡ cond s (top f) 0 + ones f * hid f
unfolding to_bits
bits_of_infinity f s = refl

units-bits : (f : Format) (s : Bool) (q k : ℕ) → q ≤ 2 ^ prec f → (k ≡ 0) ⊎ (hid f ≤ q) → to_bits f (units f s q k) ≡ bits f s q k
units-bits f s q k m l = go (dec_le (2 ^ (low f + suc (emax f))) (q * 2 ^ k))
  where
    P : 0 < prec f
    P = two-le_pos (prec f) (two f)

    cap : ones f * hid f ≡ suc (2 * emax f) * hid f
    cap = ap (λ (x : ℕ). x * hid f) (add-one (2 * emax f))

    go : Dec (2 ^ (low f + suc (emax f)) ≤ q * 2 ^ k) → to_bits f (units f s q k) ≡ bits f s q k
    go (yes h) =
        ap (to_bits f) (units_infinite f s q k h)
        ∙ bits_of_infinity f s
        ∙ ap (λ (x : ℕ). cond s (top f) 0 + x)
        (sym (min-eq_right (subst (λ (x : ℕ). x ≤ k * hid f + q) (sym cap) (over (prec f) (emax f) q k P (emax_pos f) m l (subst (λ (x : ℕ). 2 ^ x ≤ q * 2 ^ k) (ends f) h)))))
    go (no h) =
        let u : q * 2 ^ k < 2 ^ (low f + suc (emax f)) = lt_of_not-le h in
        bits_of_value f (units f s q k) s (q * 2 ^ k) (units_val f s q k u)
        ∙ add_assoc (cond s (top f) 0) ((size (q * 2 ^ k) - prec f) * hid f) (q * 2 ^ k / 2 ^ (size (q * 2 ^ k) - prec f))
        ∙ ap (λ (x : ℕ). cond s (top f) 0 + x)
        (size_bits (prec f) q k P m l
        ∙ sym (min-eq_left (subst (λ (x : ℕ). k * hid f + q ≤ x) (sym cap) (under (prec f) (emax f) q k P (emax_pos f) m l (subst (λ (x : ℕ). q * 2 ^ k < 2 ^ x) (ends f) u)))))

-- in `round`'s own terms
pub round_infinite : (f : Format) (s : Bool) (num den : ℕ) → overflow f ≤ grid f num den → round f s num den ≡ inf s
round_infinite f s num den h = round_is f s num den ∙ units_infinite f s (kept (prec f) (num * 2 ^ low f) den) (drop (prec f) (num * 2 ^ low f) den) h

pub round_value : (f : Format) (s : Bool) (num den : ℕ) → grid f num den < overflow f → HasValue (round f s num den) s (grid f num den) (2 ^ low f)
round_value f s num den h =
    subst (λ (x : Float). HasValue x s (grid f num den) (2 ^ low f)) (sym (round_is f s num den))
    (units_val f s (kept (prec f) (num * 2 ^ low f) den) (drop (prec f) (num * 2 ^ low f) den) h)

pub round-bits : (f : Format) (s : Bool) (num den : ℕ) → 0 < den
    → to_bits f (round f s num den) ≡ bits f s (kept (prec f) (num * 2 ^ low f) den) (drop (prec f) (num * 2 ^ low f) den)
round-bits f s num den D =
    let n = num * 2 ^ low f in
    let R = rounded (prec f) n den (two-le_pos (prec f) (two f)) D in
    let k = drop (prec f) n den in
    let q = kept (prec f) n den in
    ap (to_bits f) (round_is f s num den) ∙ units-bits f s q k (at_most (prec f) n den k q D R) (at_least (prec f) n den k q D R)

-- where the number of digits to drop is known
pub round-bits_at : (f : Format) (s : Bool) (num den k : ℕ) → 0 < den → num * 2 ^ low f < 2 ^ prec f * (den * 2 ^ k) → (k ≡ 0) ⊎ (hid f * (den * 2 ^ k) ≤ num * 2 ^ low f)
    → to_bits f (round f s num den) ≡ bits f s (nearest_quotient (num * 2 ^ low f) (den * 2 ^ k)) k
unfolding nearest_quotient
round-bits_at f s num den k D u l =
    round-bits f s num den D
    ∙ ap (λ (x : ℕ). bits f s (closest (num * 2 ^ low f) (den * 2 ^ x)) x) (drop_is (prec f) (num * 2 ^ low f) den k (two-le_pos (prec f) (two f)) D u l)

-- of a fraction d * 2 ^ y / 2 ^ l, by the quotient of d alone
module _ (f : Format) (s : Bool) (d y l j k : ℕ) (E : y + low f + j ≡ l + k) where
  scaled : (a : ℕ) → 2 ^ a * (2 ^ l * 2 ^ k) ≡ 2 ^ (a + j) * 2 ^ (y + low f)
  scaled a =
      ap (λ (x : ℕ). 2 ^ a * x) (sym (pow-add 2 l k)) ∙ sym (pow-add 2 a (l + k)) ∙ ap (λ (x : ℕ). 2 ^ x) (omega arith) ∙ pow-add 2 (a + j) (y + low f)

  gathered : d * 2 ^ y * 2 ^ low f ≡ d * 2 ^ (y + low f)
  gathered = mul_assoc d (2 ^ y) (2 ^ low f) ∙ ap (λ (x : ℕ). d * x) (sym (pow-add 2 y (low f)))

  quotient : nearest_quotient (d * 2 ^ y * 2 ^ low f) (2 ^ l * 2 ^ k) ≡ nearest_quotient d (2 ^ j)
  quotient = nearest_quotient_same (d * 2 ^ y * 2 ^ low f) (2 ^ l * 2 ^ k) d (2 ^ j) (mul-pos (pow_pos l) (pow_pos k)) (pow_pos j)
      (ap (λ (x : ℕ). x * 2 ^ j) gathered ∙ mul_assoc d (2 ^ (y + low f)) (2 ^ j)
      ∙ ap (λ (x : ℕ). d * x) (sym (pow-add 2 (y + low f) j) ∙ ap (λ (x : ℕ). 2 ^ x) E ∙ pow-add 2 l k))

  pub round-bits_of : d < 2 ^ (prec f + j) → (k ≡ 0) ⊎ (2 ^ (prec f - 1 + j) ≤ d)
      → to_bits f (round f s (d * 2 ^ y) (2 ^ l)) ≡ bits f s (nearest_quotient d (2 ^ j)) k
  round-bits_of u h =
      round-bits_at f s (d * 2 ^ y) (2 ^ l) k (pow_pos l)
      (subst₂ (λ (a b : ℕ). a < b) (sym gathered) (sym (scaled (prec f))) (mul-lt-mul_of_pos_right u (pow_pos (y + low f))))
      (⊎_map (λ e. e) (λ g. subst₂ (λ (a b : ℕ). a ≤ b) (sym (scaled (prec f - 1))) (sym gathered) (mul-le-mul_right (2 ^ (y + low f)) g)) h)
      ∙ ap (λ (x : ℕ). bits f s x k) quotient
