-- kira's interpolation of two floats, a + (b - a) * t, for an amount t from 0 to 1: where its result lies.
-- It rises or falls with t, as b - a has it. It is never above a where b ≤ a, and never below a where a ≤ b. Where b - a is exact it does not pass b either. Otherwise it passes b by a rounding at most: by less than 1, if
-- whole numbers bound a and b and the format holds the bounds' sum. At t = 1 it need not be b. Assumes nothing.
use mathlib.Core.Path.{◌≡◌, refl, sym, ap, ◌∙◌, subst}
use mathlib.Core.Logic.{◌⊎◌, inl, inr}
use Prim.Native.Nat.{ℕ, suc, ◌+◌, ◌-◌, ◌*◌, ◌/◌, ◌^◌, ◌≤◌, ◌<◌, zero-le}
use native.Mathlib.Nat.{le_refl, le_trans, le_of_eq, le_of_lt, le-add_right, le-add_left, lt_of_lt_of_le, lt_of_le_of_lt, zero-mul, mul-zero, mul_comm, mul_assoc, mul_right_comm, add-zero, zero-add, add_comm, add-mul, suc-mul, mul-pos, mul-le-mul_right, div-mul-le_self, lt-div-mul-add, le_of_mul-le-mul_right, lt_of_mul-lt-mul_right, mul-lt-mul_of_pos_right, zero-lt-suc, add-suc, pow-suc, sub-add_cancel, sub-le, mul-sub}
use native.Mathlib.Omega.{arith}
use mathlib.Core.Bool.{Bool, true, false, cond}
use lib.Dec.{T}
use lib.Pow.{pow-add, pow_pos, shl_lt}
use lib.Ieee.{Float, Format, prec, low, sub, mul, le}
use lib.Ieee.Fits.{sub-fits}
use lib.Ieee.Scale.{finite}
use Rattle.laws.proofs.laws.Arithmetic.{exponent_lt, rearranged}
use Rattle.laws.specs.FloatOrder.{Number, plus, minus}
use Rattle.laws.proofs.laws.FloatOrder.{OnGrid, le→units, units→le, minus_on_grid, one_sided}
use Rattle.laws.proofs.laws.FloatRound.{below_or_not, digits_below_low, between_widens, at_integer, number, units_least, units_most, units_between, add_most, add_least, add_between, sub_most, sub_least, sub_between, sub_exact, mul_between, add_mono, mul_rises, mul_falls}
use Rattle.laws.specs.FloatRound.{Between, integer}
use Rattle.laws.proofs.laws.Amount.{InUnit, amount_number, amount_minus, amount_plus}
use Rattle.laws.specs.Float.{pos_zero}
use Rattle.laws.proofs.laws.FloatLiteral.{at_pos_zero}
use Rattle.laws.specs.Interpolate.{interpolate, InRange}

-- x is a number of the format from -a to -b
abbrev pub InRangeBelow : Format → ℕ → ℕ → Float → Type 0
InRangeBelow f a b x = Between f (integer f true a) (integer f true b) x

-- ---- the product with an amount lies between pos_zero and the other factor

-- d * t lies beyond pos_zero and short of d, where d is p - n or n - p with n ≤ p, and t = u - v with v = 0
short : (p n u v U : ℕ) → v ≡ 0 → n ≤ p → u ≤ U → p * u + n * v + n * U ≤ p * v + n * u + p * U
short p n u v U z h k =
    let r : p * u + n * U ≤ n * u + p * U = rearranged n p u U h k in
    let x : n * v ≡ 0 = ap (λ (w : ℕ). n * w) z ∙ mul-zero n in
    omega arith

beyond : (p n u v U o o' : ℕ) → v ≡ 0 → n ≤ p → o ≡ 0 → p * v + n * u + o * U ≤ p * u + n * v + o' * U
beyond p n u v U o o' z h i =
    let r : n * u ≤ p * u = mul-le-mul_right u h in
    let x : p * v ≡ 0 = ap (λ (w : ℕ). p * w) z ∙ mul-zero p in
    let y : o * U ≡ 0 = ap (λ (w : ℕ). w * U) i ∙ zero-mul U in
    omega arith

module _ (f : Format) (d t : Float) (N : Number f d) (A : InUnit f t) where
  product_up : minus f d ≤ plus f d → Between f pos_zero d (mul f d t)
  product_up h =
      let o = at_pos_zero f in
      mul_between f d t pos_zero d N (amount_number f t A) o.0 N
      (beyond (plus f d) (minus f d) (plus f t) (minus f t) (2 ^ low f) (plus f pos_zero) (minus f pos_zero) (amount_minus f t A) h o.1)
      (short (plus f d) (minus f d) (plus f t) (minus f t) (2 ^ low f) (amount_minus f t A) h (amount_plus f t A))

  product_down : plus f d ≤ minus f d → Between f d pos_zero (mul f d t)
  product_down h =
      let o = at_pos_zero f in
      mul_between f d t d pos_zero N (amount_number f t A) N o.0
      (regroup (plus f d * minus f t) (minus f d * plus f t) (plus f d * 2 ^ low f) (plus f d * plus f t) (minus f d * minus f t) (minus f d * 2 ^ low f)
      (short (minus f d) (plus f d) (plus f t) (minus f t) (2 ^ low f) (amount_minus f t A) h (amount_plus f t A)))
      (regroup (plus f d * plus f t) (minus f d * minus f t) (minus f pos_zero * 2 ^ low f) (plus f d * minus f t) (minus f d * plus f t) (plus f pos_zero * 2 ^ low f)
      (beyond (minus f d) (plus f d) (plus f t) (minus f t) (2 ^ low f) (minus f pos_zero) (plus f pos_zero) (amount_minus f t A) h o.2))
    where
      regroup : (a b c d e g : ℕ) → b + a + c ≤ e + d + g → a + b + c ≤ d + e + g
      regroup a b c d e g h = omega arith

-- ---- never past a

-- b ≤ a: the difference is not above pos_zero, and a ≤ b: it is not below
module _ (f : Format) (a b : Float) (N : Number f a) (M : Number f b) (D : T (finite (sub f b a))) where
  difference : Number f (sub f b a)
  difference = record { held = sub-fits f b a; is_finite = D }

  falls : T (le b a) → plus f (sub f b a) ≤ minus f (sub f b a)
  falls h =
      let o = at_pos_zero f in
      sided (plus f pos_zero) (minus f pos_zero) o.1 o.2
      (le→units f (sub f b a) pos_zero difference o.0 (sub_most f b a pos_zero M N o.0 (against (plus f a) (minus f a) (plus f b) (minus f b) (plus f pos_zero) (minus f pos_zero) o.2 (le→units f b a M N h))))
    where
      against : (pa ma pb mb po mo : ℕ) → mo ≡ 0 → pb + ma ≤ pa + mb → pb + ma + mo ≤ mb + pa + po
      against pa ma pb mb po mo z h = omega arith

      sided : (po mo : ℕ) → po ≡ 0 → mo ≡ 0 → {p n : ℕ} → p + mo ≤ po + n → p ≤ n
      sided po mo y z {p} {n} h = omega arith

  rises : T (le a b) → minus f (sub f b a) ≤ plus f (sub f b a)
  rises h =
      let o = at_pos_zero f in
      sided (plus f pos_zero) (minus f pos_zero) o.1 o.2
      (le→units f pos_zero (sub f b a) o.0 difference (sub_least f b a pos_zero M N o.0 (against (plus f a) (minus f a) (plus f b) (minus f b) (plus f pos_zero) (minus f pos_zero) o.1 (le→units f a b N M h))))
    where
      against : (pa ma pb mb po mo : ℕ) → po ≡ 0 → pa + mb ≤ pb + ma → mb + pa + po ≤ pb + ma + mo
      against pa ma pb mb po mo z h = omega arith

      sided : (po mo : ℕ) → po ≡ 0 → mo ≡ 0 → {p n : ℕ} → po + n ≤ p + mo → n ≤ p
      sided po mo y z {p} {n} h = omega arith

  module _ (t : Float) (A : InUnit f t) where
    -- the step (b - a) * t as a number, between pos_zero and b - a as it is rounded
    step_down : T (le b a) → Between f (sub f b a) pos_zero (mul f (sub f b a) t)
    step_down h = product_down f (sub f b a) t difference A (falls h)

    step_up : T (le a b) → Between f pos_zero (sub f b a) (mul f (sub f b a) t)
    step_up h = product_up f (sub f b a) t difference A (rises h)

    pub never_above_start : T (le b a) → T (le (interpolate f a b t) a)
    unfolding interpolate
    never_above_start h =
        let o = at_pos_zero f in
        let m = mul f (sub f b a) t in
        let s = step_down h in
        let k = number f (sub f b a) pos_zero m difference o.0 s in
        add_most f a m a N k N (keeps (plus f a) (minus f a) (plus f m) (minus f m) (plus f pos_zero) (minus f pos_zero) o.1 o.2 (units_most f (sub f b a) pos_zero m difference o.0 s))
      where
        keeps : (pa ma pm mm po mo : ℕ) → po ≡ 0 → mo ≡ 0 → pm + mo ≤ po + mm → pa + pm + ma ≤ ma + mm + pa
        keeps pa ma pm mm po mo y z h = omega arith

    pub never_below_start : T (le a b) → T (le a (interpolate f a b t))
    unfolding interpolate
    never_below_start h =
        let o = at_pos_zero f in
        let m = mul f (sub f b a) t in
        let s = step_up h in
        let k = number f pos_zero (sub f b a) m o.0 difference s in
        add_least f a m a N k N (keeps (plus f a) (minus f a) (plus f m) (minus f m) (plus f pos_zero) (minus f pos_zero) o.1 o.2 (units_least f pos_zero (sub f b a) m o.0 difference s))
      where
        keeps : (pa ma pm mm po mo : ℕ) → po ≡ 0 → mo ≡ 0 → po + mm ≤ pm + mo → ma + mm + pa ≤ pa + pm + ma
        keeps pa ma pm mm po mo y z h = omega arith

  -- ---- at a part that is not less it lies as far or farther

  module _ (t u : Float) (A : InUnit f t) (B : InUnit f u) (h : T (le t u)) (X : Number f (interpolate f a b t)) (Y : Number f (interpolate f a b u)) where
    pub interpolate_rises : T (le a b) → T (le (interpolate f a b t) (interpolate f a b u))
    unfolding interpolate
    interpolate_rises l =
        let o = at_pos_zero f in
        let d = sub f b a in
        let P : Number f (mul f d t) = number f pos_zero d (mul f d t) o.0 difference (step_up t A l) in
        let Q : Number f (mul f d u) = number f pos_zero d (mul f d u) o.0 difference (step_up u B l) in
        add_mono f a (mul f d t) (mul f d u) N P Q (mul_rises f d t u difference (amount_number f t A) (amount_number f u B) h (rises l) P Q) X Y

    pub interpolate_falls : T (le b a) → T (le (interpolate f a b u) (interpolate f a b t))
    unfolding interpolate
    interpolate_falls l =
        let o = at_pos_zero f in
        let d = sub f b a in
        let P : Number f (mul f d t) = number f d pos_zero (mul f d t) difference o.0 (step_down t A l) in
        let Q : Number f (mul f d u) = number f d pos_zero (mul f d u) difference o.0 (step_down u B l) in
        add_mono f a (mul f d u) (mul f d t) N Q P (mul_falls f d t u difference (amount_number f t A) (amount_number f u B) h (falls l) P Q) Y X

-- ---- a start from -(p + 1) to q + 1 and a target from -p to q: the result stays from -(p + 1) to q + 1

-- k is the whole part of (A + g - h) / U, and at most n
record Whole (U A g h n : ℕ) : Type 0 where
  k : ℕ
  under : h + k * U ≤ A + g
  over : A + g < h + k * U + U
  few : k ≤ n

whole_below : (U A g h n : ℕ) → 0 < U → h ≤ A + g → A + g ≤ h + n * U → Whole U A g h n
whole_below U A g h n P l m =
    let x = A + g - h in
    let a : x / U * U ≤ x = div-mul-le_self x U in
    let b : x < x / U * U + U = lt-div-mul-add P in
    record {
      k = x / U;
      under = fits_in (A + g) h (x / U * U) l a;
      over = reaches (A + g) h (x / U * U) U l b;
      few = le_of_mul-le-mul_right (le_trans a (most (A + g) h (n * U) l m)) P;
    }
  where
    fits_in : (s h k : ℕ) → h ≤ s → k ≤ s - h → h + k ≤ s
    fits_in s h k l a = omega arith

    reaches : (s h k U : ℕ) → h ≤ s → s - h < k + U → s < h + k + U
    reaches s h k U l b = omega arith

    most : (s h n : ℕ) → h ≤ s → s ≤ h + n → s - h ≤ n
    most s h n l m = omega arith

-- x from -a to b, in units of the format's smallest value
pub record UnitsInRange (f : Format) (a b : ℕ) (x : Float) : Type 0 where
  pub is_number : Number f x
  pub least : minus f x ≤ a * 2 ^ low f + plus f x
  pub most : plus f x ≤ b * 2 ^ low f + minus f x

pub range→units : (f : Format) (a b : ℕ) (x : Float) → a < 2 ^ prec f → b < 2 ^ prec f → InRange f a b x → UnitsInRange f a b x
range→units f a b x A B h =
    let l = at_integer f true a A in
    let m = at_integer f false b B in
    let lo = integer f true a in
    let hi = integer f false b in
    record {
      is_number = number f lo hi x l.0 m.0 h;
      least = from_below (plus f lo) (minus f lo) (plus f x) (minus f x) (a * 2 ^ low f) l.1 l.2 (units_least f lo hi x l.0 m.0 h);
      most = from_above (plus f hi) (minus f hi) (plus f x) (minus f x) (b * 2 ^ low f) m.1 m.2 (units_most f lo hi x l.0 m.0 h);
    }
  where
    from_below : (pl ml px mx a : ℕ) → pl ≡ 0 → ml ≡ a → pl + mx ≤ px + ml → mx ≤ a + px
    from_below pl ml px mx a p q h = omega arith

    from_above : (ph mh px mx b : ℕ) → ph ≡ b → mh ≡ 0 → px + mh ≤ ph + mx → px ≤ b + mx
    from_above ph mh px mx b p q h = omega arith

pub range_number : (f : Format) (a b : ℕ) (x : Float) → a < 2 ^ prec f → b < 2 ^ prec f → InRange f a b x → Number f x
range_number f a b x A B h = (range→units f a b x A B h).is_number

integers_le : (f : Format) (s t : Bool) (m n : ℕ) → m < 2 ^ prec f → n < 2 ^ prec f → cond s 0 m + cond t n 0 ≤ cond t 0 n + cond s m 0 → T (le (integer f s m) (integer f t n))
integers_le f s t m n M N h =
    let x = at_integer f s m M in
    let y = at_integer f t n N in
    units→le f (integer f s m) (integer f t n) x.0 y.0 (go s t (plus f (integer f s m)) (minus f (integer f s m)) (plus f (integer f t n)) (minus f (integer f t n)) x.1 x.2 y.1 y.2 h)
  where
    U : ℕ
    U = 2 ^ low f

    scaled : (a b c d : ℕ) → a + b ≤ c + d → a * U + b * U ≤ c * U + d * U
    scaled a b c d h = le_trans (le_of_eq (sym (add-mul a b U))) (le_trans (mul-le-mul_right U h) (le_of_eq (add-mul c d U)))

    times : (s : Bool) (n : ℕ) → cond s 0 (n * U) ≡ cond s 0 n * U
    times true n = sym (zero-mul U)
    times false n = refl

    times' : (s : Bool) (n : ℕ) → cond s (n * U) 0 ≡ cond s n 0 * U
    times' true n = refl
    times' false n = sym (zero-mul U)

    join : (px mx py my a b c d : ℕ) → px ≡ a → mx ≡ d → py ≡ c → my ≡ b → a + b ≤ c + d → px + my ≤ py + mx
    join px mx py my a b c d p q r s h = omega arith

    go : (s t : Bool) (px mx py my : ℕ) → px ≡ cond s 0 (m * U) → mx ≡ cond s (m * U) 0 → py ≡ cond t 0 (n * U) → my ≡ cond t (n * U) 0 → cond s 0 m + cond t n 0 ≤ cond t 0 n + cond s m 0 → px + my ≤ py + mx
    go s t px mx py my p q r u h =
        join px mx py my (cond s 0 m * U) (cond t n 0 * U) (cond t 0 n * U) (cond s m 0 * U) (p ∙ times s m) (q ∙ times' s m) (r ∙ times t n) (u ∙ times' t n) (scaled (cond s 0 m) (cond t n 0) (cond t 0 n) (cond s m 0) h)

-- a wider range
pub range_widens : (f : Format) (a b a' b' : ℕ) (x : Float) → a' < 2 ^ prec f → b' < 2 ^ prec f → a ≤ a' → b ≤ b' → InRange f a b x → InRange f a' b' x
range_widens f a b a' b' x A B h k =
    let A' = lt_of_le_of_lt h A in
    let B' = lt_of_le_of_lt k B in
    between_widens f (integer f true a) (integer f false b) (integer f true a') (integer f false b') x
    (at_integer f true a A').0 (at_integer f false b B').0 (at_integer f true a' A).0 (at_integer f false b' B).0
    (integers_le f true true a' a A A' (le_trans (le_of_eq (zero-add a)) (le_trans h (le_of_eq (sym (zero-add a'))))))
    (integers_le f false false b b' B' B (le_trans (le_of_eq (add-zero b)) (le_trans k (le_of_eq (sym (add-zero b'))))))

-- from -p to -q is from -p to b
pub below→range : (f : Format) (p q b : ℕ) (x : Float) → p < 2 ^ prec f → q < 2 ^ prec f → b < 2 ^ prec f → InRangeBelow f p q x → InRange f p b x
below→range f p q b x P Q B =
    between_widens f (integer f true p) (integer f true q) (integer f true p) (integer f false b) x
    (at_integer f true p P).0 (at_integer f true q Q).0 (at_integer f true p P).0 (at_integer f false b B).0
    (integers_le f true true p p P P (le_refl (0 + p))) (integers_le f true false q b Q B zero-le)

-- the difference of two numbers from -p to q lies from -(p + q) to p + q: so it is finite
pub sub_in_range : (f : Format) (p q : ℕ) (a b : Float) → p + q < 2 ^ prec f → InRange f p q a → InRange f p q b → InRange f (p + q) (p + q) (sub f b a)
sub_in_range f p q a b S Ha Hb =
    let U = 2 ^ low f in
    let A = range→units f p q a (lt_of_le_of_lt (le-add_right p q) S) (lt_of_le_of_lt (le-add_left q p) S) Ha in
    let B = range→units f p q b (lt_of_le_of_lt (le-add_right p q) S) (lt_of_le_of_lt (le-add_left q p) S) Hb in
    let lo = integer f true (p + q) in
    let hi = integer f false (p + q) in
    let l = at_integer f true (p + q) S in
    let m = at_integer f false (p + q) S in
    sub_between f b a lo hi B.is_number A.is_number l.0 m.0
    (from_below (plus f a) (minus f a) (plus f b) (minus f b) (plus f lo) (minus f lo) (p * U) (q * U) l.1 (l.2 ∙ add-mul p q U) A.most B.least)
    (from_above (plus f a) (minus f a) (plus f b) (minus f b) (plus f hi) (minus f hi) (p * U) (q * U) (m.1 ∙ add-mul p q U) m.2 A.least B.most)
  where
    from_below : (pa ma pb mb pl ml P Q : ℕ) → pl ≡ 0 → ml ≡ P + Q → pa ≤ Q + ma → mb ≤ P + pb → mb + pa + pl ≤ pb + ma + ml
    from_below pa ma pb mb pl ml P Q x y h k = omega arith

    from_above : (pa ma pb mb ph mh P Q : ℕ) → ph ≡ P + Q → mh ≡ 0 → ma ≤ P + pa → pb ≤ Q + mb → pb + ma + mh ≤ mb + pa + ph
    from_above pa ma pb mb ph mh P Q x y h k = omega arith

-- The arithmetic of one direction, with a whole number k. The difference does not pass k, exact or rounded (`short_of`), so a plus the step does not pass the end A of the range (`stays_far`).
-- At the other end nothing is lost, since the step leads away from it (`stays_near`).
short_of : (pb mb pa ma pv mv P k U : ℕ) → pv ≡ 0 → mv ≡ k → mb ≤ P + pb → P + U + pa < ma + k + U → mb + pa + pv ≤ pb + ma + mv
short_of pb mb pa ma pv mv P k U y z h l = omega arith

not_beyond : (pb mb pa ma po mo : ℕ) → mo ≡ 0 → pb + ma ≤ pa + mb → pb + ma + mo ≤ mb + pa + po
not_beyond pb mb pa ma po mo z h = omega arith

stays_far : (pa ma pm mm pd md pv mv pl ml A k : ℕ) → pv ≡ 0 → mv ≡ k → pl ≡ 0 → ml ≡ A → ma + k ≤ A + pa → pv + md ≤ pd + mv → pd + mm ≤ pm + md → ma + mm + pl ≤ pa + pm + ml
stays_far pa ma pm mm pd md pv mv pl ml A k x y z w h i j = omega arith

stays_near : (pa ma pm mm po mo ph mh : ℕ) → po ≡ 0 → mo ≡ 0 → pa + mh ≤ ph + ma → pm + mo ≤ po + mm → pa + pm + mh ≤ ma + mm + ph
stays_near pa ma pm mm po mo ph mh x y h i = omega arith

on_side : (pa ma ph mh B : ℕ) → ph ≡ B → mh ≡ 0 → pa ≤ B + ma → pa + mh ≤ ph + ma
on_side pa ma ph mh B y z h = omega arith

commuted : (a b c d : ℕ) → a + b ≤ c + d → b + a ≤ d + c
commuted a b c d h = omega arith

either : (x y : ℕ) → (x ≤ y) ⊎ (y ≤ x)
either x y = elim (below_or_not y x) [ inl h ↦ inr (le_of_lt h) | inr h ↦ inl h ]

-- x - y is at most n units
span : (x y a b n U : ℕ) → n * U ≡ a + b → x ≤ b + y → a + x ≤ y + n * U
span x y a b n U e h = omega arith

module _ (f : Format) (p q : ℕ) (a b t : Float) (S : suc p + suc q < 2 ^ prec f) (Ha : InRange f (suc p) (suc q) a) (Hb : InRange f p q b) (A : InUnit f t) where
  start : UnitsInRange f (suc p) (suc q) a
  start = range→units f (suc p) (suc q) a (lt_of_le_of_lt (le-add_right (suc p) (suc q)) S) (lt_of_le_of_lt (le-add_left (suc q) (suc p)) S) Ha

  target : UnitsInRange f p q b
  target = range→units f p q b (smaller p q S) (smaller' p q S) Hb
    where
      smaller : (p q : ℕ) {n : ℕ} → suc p + suc q < n → p < n
      smaller p q {n} h = omega arith

      smaller' : (p q : ℕ) {n : ℕ} → suc p + suc q < n → q < n
      smaller' p q {n} h = omega arith

  stays_down : plus f b + minus f a ≤ plus f a + minus f b → InRange f (suc p) (suc q) (interpolate f a b t)
  unfolding interpolate
  stays_down h =
      let U = 2 ^ low f in
      let N : Number f a = start.is_number in
      let M : Number f b = target.is_number in
      let w : Whole U (suc p * U) (plus f a) (minus f a) (suc p + suc q) = whole_below U (suc p * U) (plus f a) (minus f a) (suc p + suc q) (pow_pos (low f)) start.least
      (span (plus f a) (minus f a) (suc p * U) (suc q * U) (suc p + suc q) U (add-mul (suc p) (suc q) U) start.most) in
      let v = integer f true w.k in
      let vs = at_integer f true w.k (lt_of_le_of_lt w.few S) in
      let o = at_pos_zero f in
      let d = sub f b a in
      let db : Between f v pos_zero d = sub_between f b a v pos_zero M N vs.0 o.0
      (short_of (plus f b) (minus f b) (plus f a) (minus f a) (plus f v) (minus f v) (p * U) (w.k * U) U vs.1 vs.2 target.least (subst (λ (z : ℕ). z + plus f a < minus f a + w.k * U + U) (suc-mul p U) w.over))
      (not_beyond (plus f b) (minus f b) (plus f a) (minus f a) (plus f pos_zero) (minus f pos_zero) o.2 h) in
      let D : Number f d = number f v pos_zero d vs.0 o.0 db in
      let m = mul f d t in
      let mb : Between f d pos_zero m = step_down f a b N M D.is_finite t A (units→le f b a M N h) in
      let lo = at_integer f true (suc p) (lt_of_le_of_lt (le-add_right (suc p) (suc q)) S) in
      let hi = at_integer f false (suc q) (lt_of_le_of_lt (le-add_left (suc q) (suc p)) S) in
      add_between f a m (integer f true (suc p)) (integer f false (suc q)) N (number f d pos_zero m D o.0 mb) lo.0 hi.0
      (stays_far (plus f a) (minus f a) (plus f m) (minus f m) (plus f d) (minus f d) (plus f v) (minus f v) (plus f (integer f true (suc p))) (minus f (integer f true (suc p))) (suc p * U) (w.k * U)
      vs.1 vs.2 lo.1 lo.2 w.under (units_least f v pos_zero d vs.0 o.0 db) (units_least f d pos_zero m D o.0 mb))
      (stays_near (plus f a) (minus f a) (plus f m) (minus f m) (plus f pos_zero) (minus f pos_zero) (plus f (integer f false (suc q))) (minus f (integer f false (suc q)))
      o.1 o.2 (on_side (plus f a) (minus f a) (plus f (integer f false (suc q))) (minus f (integer f false (suc q))) (suc q * U) hi.1 hi.2 start.most) (units_most f d pos_zero m D o.0 mb))

  -- the same with plus and minus in each other's place
  stays_up : plus f a + minus f b ≤ plus f b + minus f a → InRange f (suc p) (suc q) (interpolate f a b t)
  unfolding interpolate
  stays_up h =
      let U = 2 ^ low f in
      let N : Number f a = start.is_number in
      let M : Number f b = target.is_number in
      let w : Whole U (suc q * U) (minus f a) (plus f a) (suc p + suc q) = whole_below U (suc q * U) (minus f a) (plus f a) (suc p + suc q) (pow_pos (low f)) start.most
      (span (minus f a) (plus f a) (suc q * U) (suc p * U) (suc p + suc q) U (add-mul (suc p) (suc q) U ∙ add_comm (suc p * U) (suc q * U)) start.least) in
      let v = integer f false w.k in
      let vs = at_integer f false w.k (lt_of_le_of_lt w.few S) in
      let o = at_pos_zero f in
      let d = sub f b a in
      let db : Between f pos_zero v d = sub_between f b a pos_zero v M N o.0 vs.0
      (not_beyond (minus f b) (plus f b) (minus f a) (plus f a) (minus f pos_zero) (plus f pos_zero) o.1 (commuted (plus f a) (minus f b) (plus f b) (minus f a) h))
      (short_of (minus f b) (plus f b) (minus f a) (plus f a) (minus f v) (plus f v) (q * U) (w.k * U) U vs.2 vs.1 target.most (subst (λ (z : ℕ). z + minus f a < plus f a + w.k * U + U) (suc-mul q U) w.over)) in
      let D : Number f d = number f pos_zero v d o.0 vs.0 db in
      let m = mul f d t in
      let mb : Between f pos_zero d m = step_up f a b N M D.is_finite t A (units→le f a b N M h) in
      let lo = at_integer f true (suc p) (lt_of_le_of_lt (le-add_right (suc p) (suc q)) S) in
      let hi = at_integer f false (suc q) (lt_of_le_of_lt (le-add_left (suc q) (suc p)) S) in
      add_between f a m (integer f true (suc p)) (integer f false (suc q)) N (number f pos_zero d m o.0 D mb) lo.0 hi.0
      (stays_near (minus f a) (plus f a) (minus f m) (plus f m) (minus f pos_zero) (plus f pos_zero) (minus f (integer f true (suc p))) (plus f (integer f true (suc p)))
      o.2 o.1 (on_side (minus f a) (plus f a) (minus f (integer f true (suc p))) (plus f (integer f true (suc p))) (suc p * U) lo.2 lo.1 start.least) (commuted (plus f pos_zero) (minus f m) (plus f m) (minus f pos_zero) (units_least f pos_zero d m o.0 D mb)))
      (stays_far (minus f a) (plus f a) (minus f m) (plus f m) (minus f d) (plus f d) (minus f v) (plus f v) (minus f (integer f false (suc q))) (plus f (integer f false (suc q))) (suc q * U) (w.k * U)
      vs.2 vs.1 hi.2 hi.1 w.under (commuted (plus f d) (minus f v) (plus f v) (minus f d) (units_most f pos_zero v d o.0 vs.0 db)) (commuted (plus f m) (minus f d) (plus f d) (minus f m) (units_most f pos_zero d m o.0 D mb)))

  pub interpolate_stays : InRange f (suc p) (suc q) (interpolate f a b t)
  interpolate_stays = elim (either (plus f b + minus f a) (plus f a + minus f b)) [ inl h ↦ stays_down h | inr h ↦ stays_up h ]

-- ---- where b - a is exact the result lies between a and b

module _ (f : Format) (a b t : Float) (N : Number f a) (M : Number f b) (D : Number f (sub f b a)) (A : InUnit f t)
    (E : plus f (sub f b a) + (minus f b + plus f a) ≡ minus f (sub f b a) + (plus f b + minus f a)) where
  pub exact_down : T (le b a) → Between f b a (interpolate f a b t)
  unfolding interpolate
  exact_down h =
      let o = at_pos_zero f in
      let d = sub f b a in
      let m = mul f d t in
      let mb : Between f d pos_zero m = step_down f a b N M D.is_finite t A h in
      add_between f a m b a N (number f d pos_zero m D o.0 mb) M N
      (far (plus f a) (minus f a) (plus f b) (minus f b) (plus f m) (minus f m) (plus f d) (minus f d) E (units_least f d pos_zero m D o.0 mb))
      (stays_near (plus f a) (minus f a) (plus f m) (minus f m) (plus f pos_zero) (minus f pos_zero) (plus f a) (minus f a) o.1 o.2 (le_refl (plus f a + minus f a)) (units_most f d pos_zero m D o.0 mb))
    where
      far : (pa ma pb mb pm mm pd md : ℕ) → pd + (mb + pa) ≡ md + (pb + ma) → pd + mm ≤ pm + md → ma + mm + pb ≤ pa + pm + mb
      far pa ma pb mb pm mm pd md e h = omega arith

  pub exact_up : T (le a b) → Between f a b (interpolate f a b t)
  unfolding interpolate
  exact_up h =
      let o = at_pos_zero f in
      let d = sub f b a in
      let m = mul f d t in
      let mb : Between f pos_zero d m = step_up f a b N M D.is_finite t A h in
      add_between f a m a b N (number f pos_zero d m o.0 D mb) N M
      (stays_near (minus f a) (plus f a) (minus f m) (plus f m) (minus f pos_zero) (plus f pos_zero) (minus f a) (plus f a) o.2 o.1 (le_refl (minus f a + plus f a)) (commuted (plus f pos_zero) (minus f m) (plus f m) (minus f pos_zero) (units_least f pos_zero d m o.0 D mb)))
      (far (plus f a) (minus f a) (plus f b) (minus f b) (plus f m) (minus f m) (plus f d) (minus f d) E (units_most f pos_zero d m o.0 D mb))
    where
      far : (pa ma pb mb pm mm pd md : ℕ) → pd + (mb + pa) ≡ md + (pb + ma) → pm + md ≤ pd + mm → pa + pm + mb ≤ ma + mm + pb
      far pa ma pb mb pm mm pd md e h = omega arith

-- A number on the grid of at least half of 2 ^ (prec + j) units is a multiple of 2 ^ j.
multiple : (f : Format) (w j : ℕ) → OnGrid f w → 2 ^ (prec f + j) ≤ w * 2 → (q : ℕ) × (w ≡ q * 2 ^ j)
multiple f w j g h =
    let k = g.place in
    let l : 2 ^ (prec f + j) < 2 ^ (prec f + suc k) = lt_of_le_of_lt h
    (lt_of_lt_of_le (subst (λ (z : ℕ). z * 2 < 2 ^ (prec f + k) * 2) (sym g.is) (mul-lt-mul_of_pos_right (shl_lt (prec f) k g.few) (zero-lt-suc 1))) (le_of_eq (sym (pow-suc 2 (prec f + k)) ∙ ap (λ (z : ℕ). 2 ^ z) (sym (add-suc (prec f) k))))) in
    let i : j ≤ k = less (prec f) j k (exponent_lt (prec f + j) (prec f + suc k) l) in
    (g.digits * 2 ^ (k - j), g.is ∙ ap (λ (z : ℕ). g.digits * z) (ap (λ (z : ℕ). 2 ^ z) (sym (sub-add_cancel i)) ∙ pow-add 2 (k - j) j) ∙ sym (mul_assoc g.digits (2 ^ (k - j)) (2 ^ j)))
  where
    less : (p j k : ℕ) → p + j < p + suc k → j ≤ k
    less p j k h = omega arith

-- So the difference of two such numbers lies on the grid, if it is below 2 ^ (prec + j).
difference_on_grid : (f : Format) (x y j : ℕ) → OnGrid f x → OnGrid f y → 2 ^ (prec f + j) ≤ x * 2 → 2 ^ (prec f + j) ≤ y * 2 → x - y < 2 ^ (prec f + j) → OnGrid f (x - y)
difference_on_grid f x y j g h k l m =
    let a = multiple f x j g k in
    let b = multiple f y j h l in
    let e : x - y ≡ (a.0 - b.0) * 2 ^ j = ap (λ (z : ℕ). z - y) (a.1 ∙ mul_comm a.0 (2 ^ j)) ∙ ap (λ (z : ℕ). 2 ^ j * a.0 - z) (b.1 ∙ mul_comm b.0 (2 ^ j)) ∙ sym (mul-sub (2 ^ j) a.0 b.0) ∙ mul_comm (2 ^ j) (a.0 - b.0) in
    record {
      digits = a.0 - b.0;
      place = j;
      is = e;
      few = lt_of_mul-lt-mul_right (2 ^ j) (lt_of_le_of_lt (le_of_eq (sym e)) (lt_of_lt_of_le m (le_of_eq (pow-add 2 (prec f) j))));
      under = lt_of_le_of_lt (sub-le x y) g.under;
    }

-- ---- two numbers from -p to -q, with 2 ^ k ≤ q and p - q < 2 ^ (k + 1): their difference is exact, so the result lies from -p to -q

pub record UnitsBelow (f : Format) (p q : ℕ) (x : Float) : Type 0 where
  pub is_number : Number f x
  pub no_plus : plus f x ≡ 0
  pub least : minus f x ≤ p * 2 ^ low f
  pub most : q * 2 ^ low f ≤ minus f x

pub below→units : (f : Format) (p q : ℕ) (x : Float) → p < 2 ^ prec f → q < 2 ^ prec f → 0 < q → InRangeBelow f p q x → UnitsBelow f p q x
below→units f p q x P Q Z h =
    let l = at_integer f true p P in
    let m = at_integer f true q Q in
    let lo = integer f true p in
    let hi = integer f true q in
    let k : plus f lo + minus f x ≤ plus f x + minus f lo = units_least f lo hi x l.0 m.0 h in
    let n : plus f x + minus f hi ≤ plus f hi + minus f x = units_most f lo hi x l.0 m.0 h in
    let z : plus f x ≡ 0 = sided (one_sided f x) (plus f hi) (minus f hi) (q * 2 ^ low f) m.1 m.2 (mul-pos Z (pow_pos (low f))) n in
    record {
      is_number = number f lo hi x l.0 m.0 h;
      no_plus = z;
      least = from_below (plus f lo) (minus f lo) (plus f x) (minus f x) (p * 2 ^ low f) l.1 l.2 z k;
      most = from_above (plus f hi) (minus f hi) (plus f x) (minus f x) (q * 2 ^ low f) m.1 m.2 n;
    }
  where
    clash : (px mx ph mh Q : ℕ) → ph ≡ 0 → mh ≡ Q → 0 < Q → px + mh ≤ ph + mx → mx ≡ 0 → ⊥
    clash px mx ph mh Q i j k h e = omega arith

    sided : (plus f x ≡ 0) ⊎ (minus f x ≡ 0) → (ph mh Q : ℕ) → ph ≡ 0 → mh ≡ Q → 0 < Q → plus f x + mh ≤ ph + minus f x → plus f x ≡ 0
    sided (inl e) ph mh Q i j k h = e
    sided (inr e) ph mh Q i j k h = absurd (clash (plus f x) (minus f x) ph mh Q i j k h e)

    from_below : (pl ml px mx a : ℕ) → pl ≡ 0 → ml ≡ a → px ≡ 0 → pl + mx ≤ px + ml → mx ≤ a
    from_below pl ml px mx a i j e h = omega arith

    from_above : (ph mh px mx b : ℕ) → ph ≡ 0 → mh ≡ b → px + mh ≤ ph + mx → b ≤ mx
    from_above ph mh px mx b i j h = omega arith

pub units→below : (f : Format) (p q : ℕ) (x : Float) → p < 2 ^ prec f → q < 2 ^ prec f → Number f x → minus f x ≤ p * 2 ^ low f + plus f x → plus f x + q * 2 ^ low f ≤ minus f x → InRangeBelow f p q x
units→below f p q x P Q N h k =
    let l = at_integer f true p P in
    let m = at_integer f true q Q in
    units_between f (integer f true p) (integer f true q) x l.0 m.0 N
    (from_below (plus f (integer f true p)) (minus f (integer f true p)) (plus f x) (minus f x) (p * 2 ^ low f) l.1 l.2 h)
    (from_above (plus f (integer f true q)) (minus f (integer f true q)) (plus f x) (minus f x) (q * 2 ^ low f) m.1 m.2 k)
  where
    from_below : (pl ml px mx a : ℕ) → pl ≡ 0 → ml ≡ a → mx ≤ a + px → pl + mx ≤ px + ml
    from_below pl ml px mx a i j h = omega arith

    from_above : (ph mh px mx b : ℕ) → ph ≡ 0 → mh ≡ b → px + b ≤ mx → px + mh ≤ ph + mx
    from_above ph mh px mx b i j h = omega arith

-- 2 ^ (k + 1) in units
scale : (f : Format) (k : ℕ) → 2 ^ (prec f + (low f + suc k - prec f)) ≡ 2 ^ k * 2 ^ low f * 2
scale f k =
    ap (λ (z : ℕ). 2 ^ z) (joined (prec f) (low f) k (digits_below_low f)) ∙ pow-suc 2 (k + low f) ∙ ap (λ (z : ℕ). z * 2) (pow-add 2 k (low f))
  where
    joined : (p l k : ℕ) → p ≤ l → p + (l + suc k - p) ≡ suc (k + l)
    joined p l k h = omega arith

module _ (f : Format) (p q k : ℕ) (a b : Float) (P : p < 2 ^ prec f) (Q : q < 2 ^ prec f) (K : 2 ^ k ≤ q) (R : p < q + 2 ^ k * 2) (Ha : InRangeBelow f p q a) (Hb : InRangeBelow f p q b) where
  first : UnitsBelow f p q a
  first = below→units f p q a P Q (lt_of_lt_of_le (pow_pos k) K) Ha

  second : UnitsBelow f p q b
  second = below→units f p q b P Q (lt_of_lt_of_le (pow_pos k) K) Hb

  large : (x : Float) → UnitsBelow f p q x → 2 ^ (prec f + (low f + suc k - prec f)) ≤ minus f x * 2
  large x u = le_trans (le_of_eq (scale f k)) (mul-le-mul_right 2 (le_trans (mul-le-mul_right (2 ^ low f) K) u.most))

  near : (x y : Float) → UnitsBelow f p q x → UnitsBelow f p q y → minus f x - minus f y < 2 ^ (prec f + (low f + suc k - prec f))
  near x y u v =
      let U = 2 ^ low f in
      let s : p * U < q * U + 2 ^ k * U * 2 = lt_of_lt_of_le (mul-lt-mul_of_pos_right R (pow_pos (low f))) (le_of_eq (add-mul q (2 ^ k * 2) U ∙ ap (λ (z : ℕ). q * U + z) (mul_right_comm (2 ^ k) 2 U))) in
      lt_of_lt_of_le (less (minus f x) (minus f y) (p * U) (q * U) (2 ^ k * U * 2) u.least v.most s (mul-pos (mul-pos (pow_pos k) (pow_pos (low f))) (zero-lt-suc 1))) (le_of_eq (sym (scale f k)))
    where
      less : (x y p q d : ℕ) → x ≤ p → q ≤ y → p < q + d → 0 < d → x - y < d
      less x y p q d h i j k = omega arith

  gap_on_grid : (x y : Float) → UnitsBelow f p q x → UnitsBelow f p q y → OnGrid f (minus f x - minus f y)
  gap_on_grid x y u v =
      difference_on_grid f (minus f x) (minus f y) (low f + suc k - prec f) (minus_on_grid f x u.is_number) (minus_on_grid f y v.is_number) (large x u) (large y v) (near x y u v)

  -- b - a is ±w units, and exact
  exactly : (s : Bool) (w : ℕ) → OnGrid f w → cond s 0 w + minus f b ≡ cond s w 0 + minus f a
      → Number f (sub f b a) × (plus f (sub f b a) + (minus f b + plus f a) ≡ minus f (sub f b a) + (plus f b + minus f a))
  exactly s w g e =
      sub_exact f b a s w second.is_number first.is_number g (joined (plus f a) (minus f a) (plus f b) (minus f b) (cond s 0 w) (cond s w 0) first.no_plus second.no_plus e)
    where
      joined : (pa ma pb mb x y : ℕ) → pa ≡ 0 → pb ≡ 0 → x + mb ≡ y + ma → x + (mb + pa) ≡ y + (pb + ma)
      joined pa ma pb mb x y h i e = omega arith

  -- what lies between two numbers from -p to -q does too
  between_below : (x y r : Float) → UnitsBelow f p q x → UnitsBelow f p q y → Between f x y r → InRangeBelow f p q r
  between_below x y r u v h =
      let N : Number f x = u.is_number in
      let M : Number f y = v.is_number in
      units→below f p q r P Q (number f x y r N M h)
      (far (plus f x) (minus f x) (plus f r) (minus f r) (p * 2 ^ low f) u.no_plus u.least (units_least f x y r N M h))
      (close (plus f y) (minus f y) (plus f r) (minus f r) (q * 2 ^ low f) v.no_plus v.most (units_most f x y r N M h))
    where
      far : (px mx pr mr P : ℕ) → px ≡ 0 → mx ≤ P → px + mr ≤ pr + mx → mr ≤ P + pr
      far px mx pr mr P e h i = omega arith

      close : (px mx pr mr Q : ℕ) → px ≡ 0 → Q ≤ mx → pr + mx ≤ px + mr → pr + Q ≤ mr
      close px mx pr mr Q e h i = omega arith

  module _ (t : Float) (A : InUnit f t) where
    below_down : minus f a ≤ minus f b → InRangeBelow f p q (interpolate f a b t)
    below_down h =
        let N : Number f a = first.is_number in
        let M : Number f b = second.is_number in
        let x = exactly true (minus f b - minus f a) (gap_on_grid b a second first) (parts (minus f a) (minus f b) h) in
        let l : T (le b a) = units→le f b a M N (order (plus f a) (minus f a) (plus f b) (minus f b) second.no_plus h) in
        between_below b a (interpolate f a b t) second first (exact_down f a b t N M x.0 A x.1 l)
      where
        parts : (x y : ℕ) → x ≤ y → 0 + y ≡ y - x + x
        parts x y h = omega arith

        order : (pa ma pb mb : ℕ) → pb ≡ 0 → ma ≤ mb → pb + ma ≤ pa + mb
        order pa ma pb mb e h = omega arith

    below_up : minus f b ≤ minus f a → InRangeBelow f p q (interpolate f a b t)
    below_up h =
        let N : Number f a = first.is_number in
        let M : Number f b = second.is_number in
        let x = exactly false (minus f a - minus f b) (gap_on_grid a b first second) (parts (minus f a) (minus f b) h) in
        let l : T (le a b) = units→le f a b N M (order (plus f a) (minus f a) (plus f b) (minus f b) first.no_plus h) in
        between_below a b (interpolate f a b t) first second (exact_up f a b t N M x.0 A x.1 l)
      where
        parts : (x y : ℕ) → y ≤ x → x - y + y ≡ 0 + x
        parts x y h = omega arith

        order : (pa ma pb mb : ℕ) → pa ≡ 0 → mb ≤ ma → pa + mb ≤ pb + ma
        order pa ma pb mb e h = omega arith

    pub interpolate_below : InRangeBelow f p q (interpolate f a b t)
    interpolate_below = elim (either (minus f a) (minus f b)) [ inl h ↦ below_down h | inr h ↦ below_up h ]
