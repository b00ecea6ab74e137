-- An amplitude of a level from -60 to 0 decibels is at most 1. Below entry 950 the curve's upper end is below 2^40. From there to entry 960, which is 2^40, the entries bend upward,
-- so that the correction takes off from a line that ends at 2^40 or below. Assumes nothing.
use mathlib.Core.Path.{◌≡◌, sym, ap, ◌∙◌, subst}
use mathlib.Core.Logic.{inl, inr}
use mathlib.Core.Bool.{Bool, true, false, not, cond, ◌&&◌, ◌||◌, beq}
use Prim.Native.Nat.{ℕ, zero, suc, ◌+◌, ◌-◌, ◌*◌, ◌%◌, ◌^◌, ◌≤◌, ◌<◌, zero-le}
use native.Mathlib.Nat.{le_trans, le_of_eq, le_of_lt, eq-or-lt_of_le, eq-zero-or-pos, le_of_suc-le-suc, not-suc-le-zero, add-zero, add-suc, add_comm, zero-mul, add-mul, mul-add, mul_comm, mul_assoc, mul-mul-mul_comm, mul-le-mul_right, mul-pos, mod-lt, div-lt_iff_lt-mul, le_dest}
use native.Mathlib.Omega.{arith}
use lib.Dec.{T, leb, eqb, leb→le, T_not, lit<, lit≤}
use lib.Pow.{pow_pos}
use lib.Ieee.{Float, nan, inf, fin, Format, binary32, binary64, low, up, down, unlike, neg, add, sub, mul, div, eq, le, fits, of_int}
use lib.Ieee.Fits.{and_i, down_pos, eq→eqb, mul-fits, sub-fits, add-fits, div-fits}
use lib.Ieee.Scale.{finite}
use Rattle.gain_table.specs.GainTable.{entry, digits, at_most}
use Rattle.gain_table.proofs.laws.GainTable.{entry_rises, entry_below_lem, entry_under}
use Rattle.laws.specs.Float.{pos_zero, one, two, whole}
use Rattle.laws.specs.FloatOrder.{Number, plus, minus}
use Rattle.laws.specs.FloatRound.{Between, integer}
use Rattle.laws.specs.Interpolate.{interpolate}
use Rattle.laws.proofs.laws.Amount.{InUnit, amount_number, amount_minus, amount_plus, round_amount}
use Rattle.laws.proofs.laws.Arithmetic.{or_le}
use Rattle.laws.proofs.laws.FloatLiteral.{at_pos_zero, round-two}
use Rattle.laws.proofs.laws.FloatOrder.{le→units, le_through}
use Rattle.laws.proofs.laws.FloatRound.{below_or_not, at_integer, number, add_most, add_least, sub_most, sub_least, mul_most, div_most}
use Rattle.laws.proofs.laws.Interpolate.{exact_up}
use Rattle.laws.proofs.laws.Table.{both, both_left, both_right}
use Rattle.rounding.proofs.laws.Narrow.{narrowed-le}
use Rattle.decibels.specs.Decibels.{silence, last_entry, admitted, sixteenths, entry_below, rest_above, line_at, second_difference, correction_at, curve_at, curve, amplitude}
use Rattle.decibels.proofs.laws.Position.{Steps, steps}
use Rattle.decibels.proofs.laws.Correction.{in_row, high_end_lem}
use Rattle.decibels.proofs.laws.Decibels.{whole_le, whole_number, exact, curve_least, curve_most, curve_inside, ends_rise}
use Rattle.spatial.proofs.laws.Relative.{picked, at_one}

-- ---- a level below 0 stands below entry 960

entry_few : (n : Float) → T (le n (whole 0)) → T (not (eq n (whole 0))) → entry_below n < 960
unfolding le eq of_int entry_below
entry_few nan h k = absurd h
entry_few (inf true) h k = lit< tt
entry_few (inf false) h k = absurd h
entry_few (fin false m e) h k =
    absurd (T_not (eq (fin false m e) (whole 0)) k (and_i (eqb (m * up e * 1) (0 * down e)) true (eq→eqb (none (m * up e * 1) (0 * down e) (zero-mul (down e)) (or_le (m * up e * 1) (0 * down e) h))) tt))
  where
    none : (a b : ℕ) → b ≡ 0 → a ≤ b → a ≡ b
    none a b e h = omega arith
entry_few (fin true m e) h k = (div-lt_iff_lt-mul (down_pos e)).1 (under (m * up e) (down e) (down_pos e) (some (m * up e * 1) (down e) k))
  where
    under : (a c : ℕ) → 0 < c → 0 < a * 1 → 960 * c - 16 * a < 960 * c
    under a c h k = omega arith

    some : (A C : ℕ) → T (not (eqb A (0 * C) && (false || eqb A 0))) → 0 < A
    some A C k = elim (eq-zero-or-pos A) [
      | inl z ↦ absurd (T_not (eqb A (0 * C) && eqb A 0) k (and_i (eqb A (0 * C)) (eqb A 0) (eq→eqb (z ∙ sym (zero-mul C))) (eq→eqb z)))
      | inr l ↦ l
    ]

-- ---- entries

rise : (i d : ℕ) → i + d < 1345 → entry i ≤ entry (i + d)
rise i zero h = le_of_eq (ap entry (sym (add-zero i)))
rise i (suc d) h = le_trans (rise i d (omega arith)) (le_trans (entry_rises (i + d) (omega arith)) (le_of_eq (ap entry (sym (add-suc i d)))))

entry_950 : entry 950 ≤ 1024000000000
unfolding entry digits at_most
entry_950 = lit≤ tt

-- the curve's upper end before entry 950
early_end : (k : ℕ) → k < 950 → curve_most k ≤ 2 ^ 40
early_end k h =
    let r = in_row k (omega arith) in
    let l : entry (suc k) ≤ 1024000000000 = le_trans (rise (suc k) (950 - suc k) (omega arith)) (le_trans (le_of_eq (ap entry {x = suc k + (950 - suc k)} {y = 950} (omega arith))) entry_950) in
    omega (arith, r.rises, r.grows, r.rises_on, r.grows_on)

-- three entries bend upward, and so each from 950 to 960
abbrev bends : ℕ → Bool
bends k = leb (2 * entry (suc k)) (entry k + entry (suc (suc k)))

abbrev bend : ℕ → Bool
bend zero = true
bend (suc i) = let rest = bend i in both (bends (950 + i)) rest

ten_bend : T (bend 10)
unfolding entry digits at_most
ten_bend = tt

bend_at : (n : ℕ) → T (bend n) → (i : ℕ) → i < n → T (bends (950 + i))
bend_at zero t i h = absurd (not-suc-le-zero h)
bend_at (suc n) t i h = elim (eq-or-lt_of_le (le_of_suc-le-suc h)) [
  | inl e ↦ subst (λ (j : ℕ). T (bends (950 + j))) (sym e) (both_left (bends (950 + n)) (bend n) t)
  | inr l ↦ bend_at n (both_right (bends (950 + n)) (bend n) t) i l
]

late_bends : (k : ℕ) → 950 ≤ k → k < 960 → 2 * entry (suc k) ≤ entry k + entry (suc (suc k))
late_bends k h l =
    leb→le (2 * entry (suc k)) (entry k + entry (suc (suc k))) (subst (λ (j : ℕ). T (bends j)) {x = 950 + (k - 950)} {y = k} (omega arith) (bend_at 10 ten_bend (k - 950) (omega arith)))

-- entry 960 is 2^40
entry_unity : (k : ℕ) → k ≤ 960 → entry k ≤ 2 ^ 40
entry_unity k h = le_of_suc-le-suc (entry_under k 0 (suc (2 ^ 40)) (omega arith) (omega arith) (lit< tt))

-- ---- what a finite result says of its operands

finite_neither : (b : Bool) (s : Bool) → T (finite (cond b (inf s) nan)) → ⊥
finite_neither true s h = h
finite_neither false s h = h

finite_neither' : (b : Bool) (s : Bool) → T (finite (cond b nan (inf s))) → ⊥
finite_neither' true s h = h
finite_neither' false s h = h

add-finite : (x y : Float) → T (finite (add binary64 x y)) → T (finite x) × T (finite y)
unfolding add
add-finite nan y h = absurd h
add-finite (inf s) nan h = absurd h
add-finite (inf s) (inf t) h = absurd (finite_neither (beq s t) s h)
add-finite (inf s) (fin t n d) h = absurd h
add-finite (fin s m e) nan h = absurd h
add-finite (fin s m e) (inf t) h = absurd h
add-finite (fin s m e) (fin t n d) h = (tt, tt)

mul-finite : (x y : Float) → T (finite (mul binary64 x y)) → T (finite x) × T (finite y)
unfolding mul
mul-finite nan y h = absurd h
mul-finite (inf s) nan h = absurd h
mul-finite (inf s) (inf t) h = absurd h
mul-finite (inf s) (fin t n d) h = absurd (finite_neither' (eqb n 0) (unlike s t) h)
mul-finite (fin s m e) nan h = absurd h
mul-finite (fin s m e) (inf t) h = absurd (finite_neither' (eqb m 0) (unlike s t) h)
mul-finite (fin s m e) (fin t n d) h = (tt, tt)

neg-finite : (x : Float) → T (finite (neg x)) → T (finite x)
unfolding neg
neg-finite nan h = h
neg-finite (inf s) h = h
neg-finite (fin s m e) h = tt

sub-finite : (x y : Float) → T (finite (sub binary64 x y)) → T (finite x) × T (finite y)
unfolding sub
sub-finite x y h = let k = add-finite x (neg y) h in (k.0, neg-finite y k.1)

half_finite : (x : Float) → T (finite (div binary64 x two)) → T (finite x)
unfolding div
half_finite nan h = h
half_finite (inf s) h = h
half_finite (fin s m e) h = tt

-- ---- signs

module _ (f : Format) (x : Float) (N : Number f x) where
  below_zero : T (le x pos_zero) → plus f x ≤ minus f x
  below_zero h = let o = at_pos_zero f in go (plus f x) (minus f x) (plus f pos_zero) (minus f pos_zero) o.1 (le→units f x pos_zero N o.0 h)
    where
      go : (p m po mo : ℕ) → po ≡ 0 → p + mo ≤ po + m → p ≤ m
      go p m po mo a h = omega arith

  above_zero : T (le pos_zero x) → minus f x ≤ plus f x
  above_zero h = let o = at_pos_zero f in go (plus f x) (minus f x) (plus f pos_zero) (minus f pos_zero) o.2 (le→units f pos_zero x o.0 N h)
    where
      go : (p m po mo : ℕ) → mo ≡ 0 → po + m ≤ p + mo → m ≤ p
      go p m po mo a h = omega arith

-- a ≤ b and c ≤ d
rearranged : (a b c d : ℕ) → a ≤ b → c ≤ d → b * c + a * d ≤ a * c + b * d
rearranged a b c d h k =
    let l = le_dest h in
    let m = le_dest k in
    go a l.0 b c m.0 d (sym l.1) (sym m.1)
  where
    go : (a k b c l d : ℕ) → b ≡ a + k → d ≡ c + l → b * c + a * d ≤ a * c + b * d
    go a k b c l d p q =
        let x : b * c ≡ a * c + k * c = ap (λ (z : ℕ). z * c) p ∙ add-mul a k c in
        let y : b * d ≡ a * d + k * d = ap (λ (z : ℕ). z * d) p ∙ add-mul a k d in
        let z : k * d ≡ k * c + k * l = ap (λ (z : ℕ). k * z) q ∙ mul-add k c l in
        omega arith

-- products of a number from 0 up and one from 0 down, and half of the latter
module _ (f : Format) (x y : Float) (N : Number f x) (M : Number f y) where
  product_below : Number f (mul f x y) → plus f x * plus f y + minus f x * minus f y ≤ plus f x * minus f y + minus f x * plus f y → plus f (mul f x y) ≤ minus f (mul f x y)
  product_below K h =
      let o = at_pos_zero f in
      below_zero f (mul f x y) K
      (mul_most f x y pos_zero N M o.0
      (with_zero (plus f x * plus f y + minus f x * minus f y) (plus f x * minus f y + minus f x * plus f y) (plus f pos_zero) (minus f pos_zero) (2 ^ low f) o.2 h))
    where
      with_zero : (a b po mo U : ℕ) → mo ≡ 0 → a ≤ b → a + mo * U ≤ b + po * U
      with_zero a b po mo U e h = let x : mo * U ≡ 0 = ap (λ (z : ℕ). z * U) e ∙ zero-mul U in omega arith

  up_by_down : Number f (mul f x y) → minus f x ≤ plus f x → plus f y ≤ minus f y → plus f (mul f x y) ≤ minus f (mul f x y)
  up_by_down K h k =
      product_below K
      (le_trans (rearranged (minus f x) (plus f x) (plus f y) (minus f y) h k) (le_of_eq (add_comm (minus f x * plus f y) (plus f x * minus f y))))

  down_by_up : Number f (mul f x y) → plus f x ≤ minus f x → minus f y ≤ plus f y → plus f (mul f x y) ≤ minus f (mul f x y)
  down_by_up K h k =
      product_below K
      (le_trans (le_of_eq (add_comm (plus f x * plus f y) (minus f x * minus f y))) (rearranged (plus f x) (minus f x) (minus f y) (plus f y) h k))

  quotient_below : 0 < plus f y → Number f (div f x y) → plus f x ≤ minus f x → plus f (div f x y) ≤ minus f (div f x y)
  quotient_below P K h =
      let o = at_pos_zero f in
      below_zero f (div f x y) K
      (div_most f x y pos_zero N M o.0 P (with_zero (plus f x) (minus f x) (plus f pos_zero) (minus f pos_zero) (plus f y) (2 ^ low f) o.2 h))
    where
      with_zero : (a b po mo w U : ℕ) → mo ≡ 0 → a ≤ b → a * U + mo * w ≤ b * U + po * w
      with_zero a b po mo w U e h =
          let x : mo * w ≡ 0 = ap (λ (z : ℕ). z * w) e ∙ zero-mul w in
          let y : a * U ≤ b * U = mul-le-mul_right U h in
          omega arith

-- ---- the correction is not above 0

at_two : Number binary64 two × (0 < plus binary64 two)
at_two =
    subst (λ (x : Float). Number binary64 x × (0 < plus binary64 x)) (round-two binary64)
    (let o = at_integer binary64 false 2 (lit< tt) in (o.0, subst (λ (z : ℕ). 0 < z) (sym o.1) (mul-pos (lit< {m = 0} {n = 2} tt) (pow_pos 1074))))

less_one_below : (rest : Float) → InUnit binary64 rest → Number binary64 (sub binary64 rest one) → plus binary64 (sub binary64 rest one) ≤ minus binary64 (sub binary64 rest one)
less_one_below rest u D =
    let o = at_pos_zero binary64 in
    let i = at_one binary64 in
    below_zero binary64 (sub binary64 rest one) D
    (sub_most binary64 rest one pos_zero (amount_number binary64 rest u) i.0 o.0
    (go (plus binary64 rest) (minus binary64 rest) (plus binary64 one) (minus binary64 one) (plus binary64 pos_zero) (minus binary64 pos_zero) (2 ^ 1074) (amount_plus binary64 rest u) i.1 i.2 o.2))
  where
    go : (pr mr pi mi po mo U : ℕ) → pr ≤ U → pi ≡ U → mi ≡ 0 → mo ≡ 0 → pr + mi + mo ≤ mr + pi + po
    go pr mr pi mi po mo U h a b c = omega arith

module _ (rest s : Float) (u : InUnit binary64 rest) (S : Number binary64 s) (bent : minus binary64 s ≤ plus binary64 s) where
  abbrev less : Float
  less = sub binary64 rest one

  abbrev product : Float
  product = mul binary64 rest less

  correction_below : T (finite (mul binary64 (div binary64 product two) s)) → plus binary64 (mul binary64 (div binary64 product two) s) ≤ minus binary64 (mul binary64 (div binary64 product two) s)
  correction_below h =
      let half = div binary64 product two in
      let hf = (mul-finite half s h).0 in
      let H : Number binary64 half = record { held = div-fits binary64 product two; is_finite = hf } in
      let P : Number binary64 product = record { held = mul-fits binary64 rest less; is_finite = half_finite product hf } in
      let L : Number binary64 less = record { held = sub-fits binary64 rest one; is_finite = (mul-finite rest less P.is_finite).1 } in
      let R : Number binary64 rest = amount_number binary64 rest u in
      down_by_up binary64 half s H S (record { held = mul-fits binary64 half s; is_finite = h })
      (quotient_below binary64 product two P at_two.0 at_two.1 H
      (up_by_down binary64 rest less R L P (le_trans (le_of_eq (amount_minus binary64 rest u)) zero-le) (less_one_below rest u L)))
      bent

-- ---- the second difference is not below 0

module _ (a b c : ℕ) (A : a < 2 ^ 53) (B : 2 * b < 2 ^ 53) (C : c < 2 ^ 53) (up : c ≤ 2 * b) (bent : 2 * b ≤ a + c) where
  abbrev twice : Float
  twice = mul binary64 two (integer binary64 false b)

  abbrev step : Float
  step = sub binary64 (integer binary64 false c) twice

  second_above : T (finite (add binary64 step (integer binary64 false a))) → minus binary64 (add binary64 step (integer binary64 false a)) ≤ plus binary64 (add binary64 step (integer binary64 false a))
  second_above h =
      let U = 2 ^ 1074 in
      let ia = integer binary64 false a in
      let ib = integer binary64 false b in
      let ic = integer binary64 false c in
      let v = integer binary64 true (2 * b - c) in
      let w = integer binary64 false (2 * b) in
      let xa = at_integer binary64 false a A in
      let xb = at_integer binary64 false b (omega arith) in
      let xc = at_integer binary64 false c C in
      let xv = at_integer binary64 true (2 * b - c) (omega arith) in
      let xw = at_integer binary64 false (2 * b) B in
      let sf = (add-finite step ia h).0 in
      let S : Number binary64 step = record { held = sub-fits binary64 ic twice; is_finite = sf } in
      let M : Number binary64 twice = record { held = mul-fits binary64 two ib; is_finite = (sub-finite ic twice sf).1 } in
      let two_units = at_integer binary64 false 2 (lit< tt) in
      let t : T (le twice w) = subst (λ (x : Float). T (le (mul binary64 x ib) w)) (round-two binary64)
      (mul_most binary64 (integer binary64 false 2) ib w two_units.0 xb.0 xw.0
      (doubled b U (plus binary64 (integer binary64 false 2)) (minus binary64 (integer binary64 false 2)) (plus binary64 ib) (minus binary64 ib) (plus binary64 w) (minus binary64 w) two_units.1 two_units.2 xb.1 xw.1 xw.2)) in
      let l : T (le v step) = sub_least binary64 ic twice v xc.0 M xv.0
      (lower b c U (plus binary64 ic) (minus binary64 ic) (plus binary64 twice) (minus binary64 twice) (plus binary64 v) (minus binary64 v) (plus binary64 w) (minus binary64 w) up xc.1 xc.2 xv.1 xv.2 xw.1 xw.2 (le→units binary64 twice w M xw.0 t)) in
      let o = at_pos_zero binary64 in
      above_zero binary64 (add binary64 step ia) (record { held = add-fits binary64 step ia; is_finite = h })
      (add_least binary64 step ia pos_zero S xa.0 o.0
      (joined a b c U (plus binary64 step) (minus binary64 step) (plus binary64 ia) (minus binary64 ia) (plus binary64 v) (minus binary64 v) (plus binary64 pos_zero) (minus binary64 pos_zero) bent up xa.1 xa.2 xv.1 xv.2 o.1 (le→units binary64 v step xv.0 S l)))
    where
      doubled : (b U px mx py my pv mv : ℕ) → px ≡ 2 * U → mx ≡ 0 → py ≡ b * U → pv ≡ 2 * b * U → mv ≡ 0 → px * py + mx * my + mv * U ≤ px * my + mx * py + pv * U
      doubled b U px mx py my pv mv p q r s t =
          let x : px * py ≡ 2 * b * (U * U) = ap (λ (z : ℕ). z * py) p ∙ ap (λ (z : ℕ). 2 * U * z) r ∙ mul-mul-mul_comm 2 U b U in
          let y : pv * U ≡ 2 * b * (U * U) = ap (λ (z : ℕ). z * U) s ∙ mul_assoc (2 * b) U U in
          let z : mx * my ≡ 0 = ap (λ (z : ℕ). z * my) q ∙ zero-mul my in
          let w : mv * U ≡ 0 = ap (λ (z : ℕ). z * U) t ∙ zero-mul U in
          omega arith

      -- in units, with W for 2 b and D for 2 b - c
      apart : (b c U : ℕ) → c ≤ 2 * b → 2 * b * U ≡ c * U + (2 * b - c) * U
      apart b c U h = ap (λ (z : ℕ). z * U) {x = 2 * b} {y = c + (2 * b - c)} (omega arith) ∙ add-mul c (2 * b - c) U

      lower : (b c U pc mc pt mt pv mv pw mw : ℕ) → c ≤ 2 * b → pc ≡ c * U → mc ≡ 0 → pv ≡ 0 → mv ≡ (2 * b - c) * U → pw ≡ 2 * b * U → mw ≡ 0 → pt + mw ≤ pw + mt → mc + pt + pv ≤ pc + mt + mv
      lower b c U pc mc pt mt pv mv pw mw u p q r s t w h = omega (arith, apart b c U u)

      joined : (a b c U px mx pa ma pv mv po mo : ℕ) → 2 * b ≤ a + c → c ≤ 2 * b → pa ≡ a * U → ma ≡ 0 → pv ≡ 0 → mv ≡ (2 * b - c) * U → po ≡ 0 → pv + mx ≤ px + mv → mx + ma + po ≤ px + pa + mo
      joined a b c U px mx pa ma pv mv po mo h u p q r s t k =
          let l : (2 * b - c) * U ≤ a * U = mul-le-mul_right {m = 2 * b - c} {n = a} U (omega arith) in
          omega arith

-- ---- the curve up to entry 960

line_most : (k : ℕ) (rest : Float) → k < 960 → InUnit binary64 rest → Between binary64 (whole (entry k)) (whole (entry (suc k))) (line_at k rest)
unfolding line_at interpolate
line_most k rest h u =
    let rises = entry_rises k (omega arith) in
    let next = entry_below_lem (suc k) (omega arith) in
    let x = exact (entry k) (entry (suc k)) rises (omega arith) in
    exact_up binary64 (whole (entry k)) (whole (entry (suc k))) rest (whole_number (entry k) (omega arith)) (whole_number (entry (suc k)) (omega arith)) x.is_number u x.exactly
    (whole_le (entry k) (entry (suc k)) rises (omega arith))

sum_number : (k : ℕ) (rest : Float) → k < 960 → InUnit binary64 rest → Number binary64 (add binary64 (line_at k rest) (correction_at k rest))
sum_number k rest h u =
    let l : k ≤ last_entry = omega arith in
    number binary64 (whole (curve_least k)) (whole (curve_most k)) (add binary64 (line_at k rest) (correction_at k rest))
    (whole_number (curve_least k) (omega (arith, high_end_lem (entry k) (entry (suc k)) (entry (suc (suc k))) (in_row k l), ends_rise k l))) (whole_number (curve_most k) (omega (arith, high_end_lem (entry k) (entry (suc k)) (entry (suc (suc k))) (in_row k l))))
    (curve_inside k rest l u)

late_correction : (k : ℕ) (rest : Float) → 950 ≤ k → k < 960 → InUnit binary64 rest → T (finite (correction_at k rest)) → plus binary64 (correction_at k rest) ≤ minus binary64 (correction_at k rest)
unfolding correction_at second_difference of_int
late_correction k rest g h u c =
    let r = in_row k (omega arith) in
    let s = second_difference k in
    let sf = (mul-finite (div binary64 (mul binary64 rest (sub binary64 rest one)) two) s c).1 in
    correction_below rest s u (record { held = add-fits binary64 (sub binary64 (whole (entry (suc (suc k)))) (mul binary64 (whole 2) (whole (entry (suc k))))) (whole (entry k)); is_finite = sf })
    (second_above (entry k) (entry (suc k)) (entry (suc (suc k))) (omega (arith, r.most, r.rises)) (omega (arith, r.most)) (omega (arith, r.most, r.grows_on)) (omega (arith, r.least, r.rises, r.grows_on)) (late_bends k g h) sf) c

late_most : (k : ℕ) (rest : Float) → 950 ≤ k → k < 960 → InUnit binary64 rest → T (le (add binary64 (line_at k rest) (correction_at k rest)) (whole (entry (suc k))))
unfolding correction_at
late_most k rest g h u =
    let line = line_at k rest in
    let off = correction_at k rest in
    let next = entry_below_lem (suc k) (omega arith) in
    let E = whole_number (entry (suc k)) (omega arith) in
    let A = whole_number (entry k) (omega (arith, entry_below_lem k (omega arith))) in
    let b = line_most k rest h u in
    let L = number binary64 (whole (entry k)) (whole (entry (suc k))) line A E b in
    let F = (add-finite line off (sum_number k rest h u).is_finite).1 in
    let K : Number binary64 off = record { held = mul-fits binary64 (div binary64 (mul binary64 rest (sub binary64 rest (whole 1))) (whole 2)) (second_difference k); is_finite = F } in
    add_most binary64 line off (whole (entry (suc k))) L K E
    (joined (plus binary64 line) (minus binary64 line) (plus binary64 off) (minus binary64 off) (plus binary64 (whole (entry (suc k)))) (minus binary64 (whole (entry (suc k)))) (le→units binary64 line (whole (entry (suc k))) L E b.most) (late_correction k rest g h u F))
  where
    joined : (pl ml po mo pe me : ℕ) → pl + me ≤ pe + ml → po ≤ mo → pl + po + me ≤ ml + mo + pe
    joined pl ml po mo pe me h k = omega arith

sum_most : (k : ℕ) (rest : Float) → k < 960 → InUnit binary64 rest → T (le (add binary64 (line_at k rest) (correction_at k rest)) (whole (2 ^ 40)))
sum_most k rest h u = elim (below_or_not k 950) [
  | inl e ↦
      let l : k ≤ last_entry = omega arith in
      let m = early_end k e in
      le_through binary64 (add binary64 (line_at k rest) (correction_at k rest)) (whole (curve_most k)) (whole (2 ^ 40)) (sum_number k rest h u) (whole_number (curve_most k) (omega arith)) (whole_number (2 ^ 40) (lit< tt))
      (curve_inside k rest l u).most (whole_le (curve_most k) (2 ^ 40) m (lit< tt))
  | inr e ↦
      let m = entry_unity (suc k) h in
      le_through binary64 (add binary64 (line_at k rest) (correction_at k rest)) (whole (entry (suc k))) (whole (2 ^ 40)) (sum_number k rest h u) (whole_number (entry (suc k)) (omega arith)) (whole_number (2 ^ 40) (lit< tt))
      (late_most k rest e h u) (whole_le (entry (suc k)) (2 ^ 40) m (lit< tt))
]

-- a number at most 2^40
record Most (x : Float) : Type 0 where
  is_number : Number binary64 x
  most : T (le x (whole (2 ^ 40)))

curve_most_lem : (k : ℕ) (rest : Float) → k < 960 → InUnit binary64 rest → Most (curve_at k rest)
unfolding curve_at
curve_most_lem k rest h u =
    let m = entry_unity k (omega arith) in
    picked Most (eq rest (whole 0)) (whole (entry k)) (add binary64 (line_at k rest) (correction_at k rest))
    (λ t. record { is_number = whole_number (entry k) (omega arith); most = whole_le (entry k) (2 ^ 40) m (lit< tt) })
    (λ t. record { is_number = sum_number k rest h u; most = sum_most k rest h u })

-- over 2^40
quotient_most : (x : Float) → Most x → T (le (div binary64 x (whole (2 ^ 40))) (whole 1))
unfolding of_int
quotient_most x b =
    let y = at_integer binary64 false (2 ^ 40) (lit< tt) in
    let i = at_one binary64 in
    let Y = whole (2 ^ 40) in
    div_most binary64 x Y one b.is_number y.0 i.0 (subst (λ (p : ℕ). 0 < p) (sym y.1) (mul-pos (lit< {m = 0} {n = 2 ^ 40} tt) (pow_pos 1074)))
    (over (2 ^ 40) (plus binary64 x) (minus binary64 x) (plus binary64 Y) (minus binary64 Y) (plus binary64 one) (minus binary64 one) (2 ^ 1074) y.1 y.2 i.1 i.2 (le→units binary64 x Y b.is_number y.0 b.most))
  where
    over : (n px mx py my pi mi U : ℕ) → py ≡ n * U → my ≡ 0 → pi ≡ U → mi ≡ 0 → px + my ≤ py + mx → px * U + mi * py ≤ mx * U + pi * py
    over n px mx py my pi mi U p q r s h =
        let a : px * U ≤ mx * U + py * U = le_trans (mul-le-mul_right {m = px} {n = mx + py} U (omega arith)) (le_of_eq (add-mul mx py U)) in
        let b : mi * py ≡ 0 = ap (λ (z : ℕ). z * py) s ∙ zero-mul py in
        let c : pi * py ≡ py * U = ap (λ (z : ℕ). z * py) r ∙ mul_comm U py in
        omega arith

curve_unity : (n : Float) → T (le n (whole 0)) → T (not (eq n (whole 0))) → Steps n → T (le (curve n) (whole 1))
unfolding curve
curve_unity n h k S =
    let u : InUnit binary64 (rest_above n) =
    subst (InUnit binary64) (sym S.rest) (round_amount binary64 (sixteenths S.s S.a S.c % S.c) S.c S.above (le_of_lt (mod-lt (sixteenths S.s S.a S.c) S.above))) in
    let x = curve_at (entry_below n) (rest_above n) in
    narrowed-le (div binary64 x (whole (2 ^ 40))) (whole 1) (unfold fits of_int in tt) (quotient_most x (curve_most_lem (entry_below n) (rest_above n) (entry_few n h k) u))

pub amplitude_unity_most : (n : Float) → T (fits binary32 n) → T (admitted n) → T (le n (whole 0)) → T (le (amplitude n) (whole 1))
unfolding amplitude
amplitude_unity_most n f t h =
    picked (λ (x : Float). T (le x (whole 1))) (eq n (whole 0)) (whole 1) (cond (le n silence) (whole 0) (curve n))
    (λ e. unfold le of_int in tt)
    (λ e. picked (λ (x : Float). T (le x (whole 1))) (le n silence) (whole 0) (curve n) (λ l. unfold le of_int in tt) (λ l. curve_unity n h e (steps n f t l e)))
