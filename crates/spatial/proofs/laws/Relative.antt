-- The relative distance lies in 0..1, and so does 1 less it. The distance held to near..far is a number between the two; less near it lies from 0 to far less near, since
-- rounding keeps the order; and far less near is above 0. A zero may have either sign on the way. Assumes nothing.
use mathlib.Core.Path.{◌≡◌, refl, sym, ap, ◌∙◌, subst}
use mathlib.Core.Bool.{Bool, true, false, not, cond}
use Prim.Native.Nat.{ℕ, suc, ◌+◌, ◌-◌, ◌*◌, ◌^◌, ◌≤◌, ◌<◌}
use native.Mathlib.Nat.{le_refl, le_trans, le_of_eq, lt_of_lt_of_le, not-le_of_lt, zero-mul, add-mul, mul_comm, one-mul, mul-le-mul_right, le-add_right}
use native.Mathlib.Omega.{arith}
use lib.IntN.{pos}
use lib.Dec.{T, ltb, ltb→lt, lit<}
use lib.Pow.{pow_pos, pow_mono}
use lib.Ieee.{Float, nan, inf, fin, Format, binary32, emax, low, up, down, round, neg, sum, add, sub, div, lt, le, fits, of_int}
use lib.Ieee.Fits.{sub-fits}
use lib.Ieee.Order.{round_mono}
use lib.Ieee.Scale.{finite}
use Rattle.laws.proofs.laws.Unsigned.{unsigned}
use Rattle.laws.specs.Float.{pos_zero, one, whole}
use Rattle.laws.specs.FloatOrder.{Number, plus, minus}
use Rattle.laws.specs.FloatRound.{Between}
use Rattle.laws.proofs.laws.Amount.{InUnit, round-unsigned}
use Rattle.laws.proofs.laws.Arithmetic.{one_digit, or_le}
use Rattle.laws.proofs.laws.Choice.{true-T}
use Rattle.laws.proofs.laws.FloatLiteral.{round-one, at_pos_zero}
use Rattle.laws.proofs.laws.FloatOrder.{OnGrid, magnitude_zero, le→units, units→le, lt→units, not_lt→units, lt→le}
use Rattle.laws.proofs.laws.FloatRound.{Rounded, upward, downward, digits_below_low, at_grid, at_integer, number, sub_rounded, sub_least, sub_most, div_between}
use Rattle.laws.proofs.laws.FloatValue.{round_zero}
use Rattle.laws.proofs.laws.Interpolate.{range_number, sub_in_range}
use Rattle.spatial.specs.declared.spatial.Distances.{Distances}
use Rattle.spatial.specs.Spatial.{clamp, relative_distance, DistancesIn}

-- ---- the clamp

-- the value that a test picks
pub picked : (P : Float → Type 0) (b : Bool) (x y : Float) → (T b → P x) → (T (not b) → P y) → P (cond b x y)
picked P true x y p q = p tt
picked P false x y p q = q tt

own : (f : Format) (x : Float) → Number f x → T (le x x)
own f x N = units→le f x x N N (le_refl (plus f x + minus f x))

module _ (f : Format) (x lo hi : Float) (N : Number f x) (L : Number f lo) (H : Number f hi) (h : T (le lo hi)) where
  clamp_between : Between f lo hi (clamp x lo hi)
  unfolding clamp
  clamp_between =
      picked (Between f lo hi) (lt x lo) lo (cond (lt hi x) hi x)
      (λ t. record { held = L.held; least = own f lo L; most = h })
      (λ t. picked (Between f lo hi) (lt hi x) hi x
      (λ u. record { held = H.held; least = h; most = own f hi H })
      (λ u. record { held = N.held; least = units→le f lo x L N (not_lt→units f x lo N L t); most = units→le f x hi N H (not_lt→units f hi x H N u) }))

-- ---- rounding keeps the order of two differences from 0 up

zero_units : (f : Format) (s : Bool) → (plus f (fin s 0 (pos 0)) ≡ 0) × (minus f (fin s 0 (pos 0)) ≡ 0)
unfolding plus minus
zero_units f true = (refl, magnitude_zero f true (pos 0))
zero_units f false = (magnitude_zero f false (pos 0), refl)

zero_below : (f : Format) (s : Bool) (y : Float) → Number f y → minus f y ≤ plus f y → T (le (fin s 0 (pos 0)) y)
zero_below f s y N h =
    let z = zero_units f s in
    units→le f (fin s 0 (pos 0)) y (record { held = unfold fits in tt; is_finite = tt }) N (go (plus f (fin s 0 (pos 0))) (minus f (fin s 0 (pos 0))) (plus f y) (minus f y) z.0 z.1 h)
  where
    go : (a b c d : ℕ) → a ≡ 0 → b ≡ 0 → d ≤ c → a + d ≤ c + b
    go a b c d p q h = omega arith

-- of (p - n) / c and (p' - n') / c, where n ≤ p
rounded_rises : (f : Format) (x y : Float) (p n p' n' c : ℕ) → 0 < c → Number f y → minus f y ≤ plus f y → n ≤ p → p + n' ≤ p' + n → Rounded f x p n c → Rounded f y p' n' c → T (le x y)
rounded_rises f x y p n p' n' c C N h k l (upward d e i) (upward d' e' i') =
    subst (λ (z : Float). T (le z y)) (sym i)
    (subst (λ (z : Float). T (le (round f false d c) z)) (sym i') (round_mono f d c d' c C C (mul-le-mul_right c (order p n p' n' d d' e e' l))))
  where
    order : (p n p' n' d d' : ℕ) → p ≡ n + d → p' ≡ n' + d' → p + n' ≤ p' + n → d ≤ d'
    order p n p' n' d d' e e' l = omega arith
rounded_rises f x y p n p' n' c C N h k l (upward d e i) (downward d' e' i') =
    subst (λ (z : Float). T (le z y)) (sym (i ∙ ap (λ (z : ℕ). round f false z c) (none p n p' n' d d' e e' l) ∙ round_zero f false c C)) (zero_below f false y N h)
  where
    none : (p n p' n' d d' : ℕ) → p ≡ n + d → n' ≡ p' + d' → p + n' ≤ p' + n → d ≡ 0
    none p n p' n' d d' e e' l = omega arith
rounded_rises f x y p n p' n' c C N h k l (downward d e i) r =
    subst (λ (z : Float). T (le z y)) (sym (i ∙ ap (λ (z : ℕ). round f true z c) (none p n d e k) ∙ round_zero f true c C)) (zero_below f true y N h)
  where
    none : (p n d : ℕ) → n ≡ p + d → n ≤ p → d ≡ 0
    none p n d e k = omega arith

-- ---- the two differences, and their quotient

-- the smallest value above 0
unit_on_grid : (f : Format) → OnGrid f 1
unit_on_grid f =
    record {
      digits = 1;
      place = 0;
      is = refl;
      few = one_digit f;
      under = lt_of_lt_of_le (one_digit f) (le_trans (pow_mono (digits_below_low f)) (pow_mono (le-add_right (low f) (suc (emax f)))));
    }

pub at_one : (f : Format) → Number f one × (plus f one ≡ 2 ^ low f) × (minus f one ≡ 0)
at_one f =
    subst (λ (x : Float). Number f x × (plus f x ≡ 2 ^ low f) × (minus f x ≡ 0)) (round-one f)
    (let o = at_integer f false 1 (one_digit f) in (o.0, o.1 ∙ one-mul (2 ^ low f), o.2))

module _ (f : Format) (lo hi : Float) (L : Number f lo) (H : Number f hi) (W : Number f (sub f hi lo)) (h : T (lt lo hi)) where
  abbrev span : Float
  span = sub f hi lo

  span_units : 1 + minus f span ≤ plus f span
  span_units =
      let v = round f false 1 (2 ^ low f) in
      let K = at_grid f false 1 (unit_on_grid f) in
      above (plus f v) (minus f v) (plus f span) (minus f span) K.1 K.2
      (le→units f v span K.0 W (sub_least f hi lo v H L K.0 (apart (plus f lo) (minus f lo) (plus f hi) (minus f hi) (plus f v) (minus f v) K.1 K.2 (lt→units f lo hi L H h))))
    where
      apart : (pl ml ph mh pv mv : ℕ) → pv ≡ 1 → mv ≡ 0 → pl + mh < ph + ml → mh + pl + pv ≤ ph + ml + mv
      apart pl ml ph mh pv mv p q h = omega arith

      above : (pv mv ps ms : ℕ) → pv ≡ 1 → mv ≡ 0 → pv + ms ≤ ps + mv → 1 + ms ≤ ps
      above pv mv ps ms p q h = omega arith

  module _ (x : Float) (b : Between f lo hi x) where
    abbrev part : Float
    part = sub f x lo

    part_between : Between f pos_zero span part
    part_between =
        let N = number f lo hi x L H b in
        let o = at_pos_zero f in
        let least : plus f lo + minus f x ≤ plus f x + minus f lo = le→units f lo x L N b.least in
        let most : plus f x + minus f hi ≤ plus f hi + minus f x = le→units f x hi N H b.most in
        record {
          held = sub-fits f x lo;
          least = sub_least f x lo pos_zero N L o.0 (from_least (plus f lo) (minus f lo) (plus f x) (minus f x) (plus f pos_zero) (minus f pos_zero) o.1 least);
          most =
              rounded_rises f part span (plus f x + minus f lo) (minus f x + plus f lo) (plus f hi + minus f lo) (minus f hi + plus f lo) (2 ^ low f) (pow_pos (low f)) W
              (positive (plus f span) (minus f span) span_units) (turned (plus f lo) (minus f x) (plus f x) (minus f lo) least)
              (from_most (plus f lo) (minus f lo) (plus f x) (minus f x) (plus f hi) (minus f hi) most) (sub_rounded f x lo N L) (sub_rounded f hi lo H L);
        }
      where
        from_least : (pl ml px mx po mo : ℕ) → po ≡ 0 → pl + mx ≤ px + ml → mx + pl + po ≤ px + ml + mo
        from_least pl ml px mx po mo z h = omega arith

        from_most : (pl ml px mx ph mh : ℕ) → px + mh ≤ ph + mx → px + ml + (mh + pl) ≤ ph + ml + (mx + pl)
        from_most pl ml px mx ph mh h = omega arith

        turned : (a b c d : ℕ) → a + b ≤ c + d → b + a ≤ c + d
        turned a b c d h = omega arith

        positive : (p m : ℕ) → 1 + m ≤ p → m ≤ p
        positive p m h = omega arith

    quotient_between : Between f pos_zero one (div f part span)
    quotient_between =
        let o = at_pos_zero f in
        let i = at_one f in
        let p = part_between in
        let N = number f pos_zero span part o.0 W p in
        div_between f part span pos_zero one N W o.0 i.0 (positive (plus f span) (minus f span) span_units)
        (from_least (plus f part) (minus f part) (plus f span) (plus f pos_zero) (minus f pos_zero) (2 ^ low f) o.1 o.2 (le→units f pos_zero part o.0 N p.least))
        (from_most (plus f part) (minus f part) (plus f span) (minus f span) (plus f one) (minus f one) (2 ^ low f) i.1 i.2 (le→units f part span N W p.most))
      where
        positive : (p m : ℕ) → 1 + m ≤ p → 0 < p
        positive p m h = omega arith

        from_least : (px mx pw po mo U : ℕ) → po ≡ 0 → mo ≡ 0 → po + mx ≤ px + mo → mx * U + po * pw ≤ px * U + mo * pw
        from_least px mx pw po mo U a b h =
            let x : mx * U ≤ px * U = mul-le-mul_right U (omega arith) in
            let y : po * pw ≡ 0 = ap (λ (z : ℕ). z * pw) a ∙ zero-mul pw in
            omega arith

        from_most : (px mx pw mw pi mi U : ℕ) → pi ≡ U → mi ≡ 0 → px + mw ≤ pw + mx → px * U + mi * pw ≤ mx * U + pi * pw
        from_most px mx pw mw pi mi U a b h =
            let x : px * U ≤ mx * U + pw * U = le_trans (mul-le-mul_right U (omega arith)) (le_of_eq (add-mul mx pw U)) in
            let y : mi * pw ≡ 0 = ap (λ (z : ℕ). z * pw) b ∙ zero-mul pw in
            let z : pi * pw ≡ pw * U = ap (λ (z : ℕ). z * pw) a ∙ mul_comm U pw in
            omega arith

-- ---- 1 less what lies in 0..1

less_unsigned : (f : Format) (r : Float) → T (finite r) → T (le r one) → T (unsigned (sub f one r))
unfolding sub add neg sum le
less_unsigned f nan h k = absurd h
less_unsigned f (inf s) h k = absurd h
less_unsigned f (fin true m e) h k = round-unsigned f (1 * 1 * down e + m * up e * 1) (1 * down e)
less_unsigned f (fin false m e) h k = go (1 * 1 * down e) (m * up e * 1) (ltb (1 * 1 * down e) (m * up e * 1)) (ltb→lt (1 * 1 * down e) (m * up e * 1)) (or_le (m * up e * 1) (1 * 1 * down e) k)
  where
    go : (a b : ℕ) (t : Bool) → (T t → a < b) → b ≤ a → T (unsigned (cond t (round f true (b - a) (1 * down e)) (round f false (a - b) (1 * down e))))
    go a b true p q = absurd (not-le_of_lt (p tt) q)
    go a b false p q = round-unsigned f (a - b) (1 * down e)

less_amount : (f : Format) (r : Float) → Between f pos_zero one r → InUnit f (sub f one r)
less_amount f r b =
    let o = at_pos_zero f in
    let i = at_one f in
    let N = number f pos_zero one r o.0 i.0 b in
    record {
      held = sub-fits f one r;
      sign = less_unsigned f r N.is_finite b.most;
      most = sub_most f one r one i.0 N i.0 (no_more (plus f r) (minus f r) (plus f one) (minus f one) (plus f pos_zero) (minus f pos_zero) o.1 o.2 (le→units f pos_zero r o.0 N b.least));
    }
  where
    no_more : (pr mr pi mi po mo : ℕ) → po ≡ 0 → mo ≡ 0 → po + mr ≤ pr + mo → pi + mr + mi ≤ mi + pr + pi
    no_more pr mr pi mi po mo y z h = omega arith

-- ---- of a distance that is a number

module _ (distances : Distances) (D : DistancesIn distances) (d : Float) (N : Number binary32 d) where
  relative_between : Between binary32 pos_zero one (relative_distance distances d)
  unfolding relative_distance
  relative_between =
      let lo = distances.min_distance in
      let hi = distances.max_distance in
      let L = range_number binary32 0 1000 lo (lit< tt) (lit< tt) D.min in
      let H = range_number binary32 0 1000 hi (lit< tt) (lit< tt) D.max in
      let W = range_number binary32 1000 1000 (sub binary32 hi lo) (lit< tt) (lit< tt) (sub_in_range binary32 0 1000 lo hi (lit< tt) D.min D.max) in
      let h = true-T (lt lo hi) D.apart in
      quotient_between binary32 lo hi L H W h (clamp d lo hi) (clamp_between binary32 d lo hi N L H (lt→le lo hi h))

  pub less_relative : InUnit binary32 (sub binary32 (whole 1) (relative_distance distances d))
  unfolding of_int
  less_relative = less_amount binary32 (relative_distance distances d) relative_between
