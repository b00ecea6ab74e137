-- Thousandths made f32: a raised number z stands for z - 2^31, and gives (z - 2^31) / 1000. What lies in a range stays in it, and two numbers that differ from 0 to 1000 stay apart:
-- between a / 1000 and (a + 1) / 1000 lie two multiples of 1 / 2048, which f32 holds, and rounding does not pass them. Assumes nothing.
use mathlib.Core.Path.{◌≡◌, refl, sym, ap, ◌∙◌, subst}
use mathlib.Core.Bool.{Bool, true, false, cond}
use Prim.Native.Nat.{ℕ, suc, ◌+◌, ◌-◌, ◌*◌, ◌/◌, ◌^◌, ◌≤◌, ◌<◌}
use native.Mathlib.Nat.{le_trans, le_of_eq, lt_of_lt_of_le, lt_of_le_of_lt, zero-mul, mul_assoc, mul_right_comm, mul-le-mul_right, mul-lt-mul_of_pos_right, mul-pos, div-mul-le_self, lt-div-mul-add, suc-mul}
use native.Mathlib.Omega.{arith}
use borrow.Author.Tests.{leb-true, leb-false, le-leb}
use lib.IntN.{pos, negsuc}
use lib.Dec.{T, leb, lit<, lit≤}
use lib.Pow.{pow_pos}
use lib.Ieee as Ieee
use lib.Ieee.{Float, binary32, low, round, div, lt, le, of_int}
use lib.Ieee.Bits.{is_true}
use Rattle.laws.specs.FloatOrder.{Number, plus, minus}
use Rattle.laws.specs.FloatRound.{integer}
use Rattle.laws.specs.Interpolate.{InRange}
use Rattle.laws.proofs.laws.DecibelRange.{quotient_in_range}
use Rattle.laws.proofs.laws.FloatOrder.{OnGrid, le→units, units→lt}
use Rattle.laws.proofs.laws.FloatRound.{at_grid, at_integer, div_most, div_least}
use Rattle.laws.proofs.laws.Interpolate.{range_number}

-- as crate `scene` has it
abbrev thousandths : ℕ → Float
thousandths z = div binary32 (of_int binary32 (Ieee.minus z 2147483648)) (of_int binary32 (pos 1000))

-- ---- ranges

-- a number from -p to q thousands
pub thousandths_in : (z p q : ℕ) → p * 1000 < 2 ^ 24 → q * 1000 < 2 ^ 24 → 2147483648 ≤ z + p * 1000 → z ≤ 2147483648 + q * 1000 → InRange binary32 p q (thousandths z)
unfolding of_int
thousandths_in z p q P Q h k = go (leb 2147483648 z) refl
  where
    go : (b : Bool) → leb 2147483648 z ≡ b → InRange binary32 p q (div binary32 (of_int binary32 (cond b (pos (z - 2147483648)) (negsuc (2147483648 - suc z)))) (of_int binary32 (pos 1000)))
    go true e =
        let l : 2147483648 ≤ z = leb-true 2147483648 z e in
        quotient_in_range binary32 (z - 2147483648) 1000 p q (omega arith) (lit< tt) (omega arith) (omega arith) (lit< tt) false (omega arith)
    go false e =
        let l : z < 2147483648 = leb-false 2147483648 z e in
        quotient_in_range binary32 (suc (2147483648 - suc z)) 1000 p q (omega arith) (lit< tt) (omega arith) (omega arith) (lit< tt) true (omega arith)

-- ---- apart

-- j / 2048 in units, each of which is 2 ^ -149
abbrev grain : ℕ
grain = 2 ^ 138

grains : 2 ^ 149 ≡ 2048 * grain
grains = refl

grain_on_grid : (j : ℕ) → j < 2 ^ 24 → OnGrid binary32 (j * grain)
grain_on_grid j h = record { digits = j; place = 138; is = refl; few = h; under = lt_of_lt_of_le (mul-lt-mul_of_pos_right h (pow_pos 138)) (lit≤ tt) }

-- n / 1000 ≤ j / 2048, and j / 2048 ≤ n / 1000, in units: U is 2048 grains
scaled_most : (n j E U : ℕ) → U ≡ 2048 * E → n * 2048 ≤ j * 1000 → n * U * U ≤ j * E * (1000 * U)
scaled_most n j E U e h =
    le_trans (le_of_eq (ap (λ (z : ℕ). n * z * U) e ∙ ap (λ (z : ℕ). z * U) (sym (mul_assoc n 2048 E))))
    (le_trans (mul-le-mul_right U (mul-le-mul_right E h)) (le_of_eq (ap (λ (z : ℕ). z * U) (mul_right_comm j 1000 E) ∙ mul_assoc (j * E) 1000 U)))

scaled_least : (n j E U : ℕ) → U ≡ 2048 * E → j * 1000 ≤ n * 2048 → j * E * (1000 * U) ≤ n * U * U
scaled_least n j E U e h =
    le_trans (le_of_eq (sym (mul_assoc (j * E) 1000 U) ∙ ap (λ (z : ℕ). z * U) (mul_right_comm j E 1000)))
    (le_trans (mul-le-mul_right U (mul-le-mul_right E h)) (le_of_eq (ap (λ (z : ℕ). z * U) (mul_assoc n 2048 E) ∙ sym (ap (λ (z : ℕ). n * z * U) e))))

below_grain : (n j E U pn mn pk pv mv : ℕ) → U ≡ 2048 * E → n * 2048 ≤ j * 1000 → pn ≡ n * U → pk ≡ 1000 * U → pv ≡ j * E → mv ≡ 0 → pn * U + mv * pk ≤ mn * U + pv * pk
below_grain n j E U pn mn pk pv mv e h a b c d =
    let x : pn * U ≡ n * U * U = ap (λ (z : ℕ). z * U) a in
    let y : mv * pk ≡ 0 = ap (λ (z : ℕ). z * pk) d ∙ zero-mul pk in
    let w : pv * pk ≡ j * E * (1000 * U) = ap (λ (z : ℕ). z * pk) c ∙ ap (λ (z : ℕ). j * E * z) b in
    let l : n * U * U ≤ j * E * (1000 * U) = scaled_most n j E U e h in
    omega arith

above_grain : (n j E U pn mn pk pv mv : ℕ) → U ≡ 2048 * E → j * 1000 ≤ n * 2048 → pn ≡ n * U → mn ≡ 0 → pk ≡ 1000 * U → pv ≡ j * E → mn * U + pv * pk ≤ pn * U + mv * pk
above_grain n j E U pn mn pk pv mv e h a b c d =
    let x : pn * U ≡ n * U * U = ap (λ (z : ℕ). z * U) a in
    let y : mn * U ≡ 0 = ap (λ (z : ℕ). z * U) b ∙ zero-mul U in
    let w : pv * pk ≡ j * E * (1000 * U) = ap (λ (z : ℕ). z * pk) d ∙ ap (λ (z : ℕ). j * E * z) c in
    let l : j * E * (1000 * U) ≤ n * U * U = scaled_least n j E U e h in
    omega arith

abbrev over : ℕ → Float
over n = div binary32 (integer binary32 false n) (integer binary32 false 1000)

thousand : Number binary32 (integer binary32 false 1000) × (plus binary32 (integer binary32 false 1000) ≡ 1000 * 2 ^ 149) × (minus binary32 (integer binary32 false 1000) ≡ 0)
thousand = at_integer binary32 false 1000 (lit< tt)

thousand_positive : 0 < plus binary32 (integer binary32 false 1000)
thousand_positive = subst (λ (z : ℕ). 0 < z) (sym thousand.1) (mul-pos (lit< {m = 0} {n = 1000} tt) (pow_pos 149))

module _ (n j : ℕ) (N : n < 2 ^ 24) (J : j < 2 ^ 24) where
  abbrev mark : Float
  mark = round binary32 false (j * grain) (2 ^ 149)

  at_mark : Number binary32 mark × (plus binary32 mark ≡ j * grain) × (minus binary32 mark ≡ 0)
  at_mark = at_grid binary32 false (j * grain) (grain_on_grid j J)

  below_mark : n * 2048 ≤ j * 1000 → T (le (over n) mark)
  below_mark h =
      let x = integer binary32 false n in
      let k = integer binary32 false 1000 in
      let X = at_integer binary32 false n N in
      div_most binary32 x k mark X.0 thousand.0 at_mark.0 thousand_positive
      (below_grain n j grain (2 ^ 149) (plus binary32 x) (minus binary32 x) (plus binary32 k) (plus binary32 mark) (minus binary32 mark) grains h X.1 thousand.1 at_mark.1 at_mark.2)

  above_mark : j * 1000 ≤ n * 2048 → T (le mark (over n))
  above_mark h =
      let x = integer binary32 false n in
      let k = integer binary32 false 1000 in
      let X = at_integer binary32 false n N in
      div_least binary32 x k mark X.0 thousand.0 at_mark.0 thousand_positive
      (above_grain n j grain (2 ^ 149) (plus binary32 x) (minus binary32 x) (plus binary32 k) (plus binary32 mark) (minus binary32 mark) grains h X.1 X.2 thousand.1 at_mark.1)

over_number : (n : ℕ) → n ≤ 1000000 → Number binary32 (over n)
over_number n h =
    range_number binary32 0 1000 (over n) (lit< tt) (lit< tt) (quotient_in_range binary32 n 1000 0 1000 (lt_of_le_of_lt h (lit< tt)) (lit< tt) (lit< tt) (lit< tt) (lit< tt) false h)

-- the first multiple of 1 / 2048 from n / 1000 on
record Mark (n : ℕ) : Type 0 where
  j : ℕ
  reaches : n * 2048 ≤ j * 1000
  soon : suc j * 1000 ≤ suc n * 2048

first_mark : (n : ℕ) → Mark n
first_mark n =
    let j = (256 * n + 124) / 125 in
    let a : j * 125 ≤ 256 * n + 124 = div-mul-le_self (256 * n + 124) 125 in
    let b : 256 * n + 124 < j * 125 + 125 = lt-div-mul-add (lit< {m = 0} {n = 125} tt) in
    record { j = j; reaches = least n j b; soon = most n j a }
  where
    least : (n j : ℕ) → 256 * n + 124 < j * 125 + 125 → n * 2048 ≤ j * 1000
    least n j h = omega arith

    most : (n j : ℕ) → j * 125 ≤ 256 * n + 124 → suc j * 1000 ≤ suc n * 2048
    most n j h = omega arith

over_apart : (m n : ℕ) → m < n → n ≤ 1000000 → T (lt (over m) (over n))
over_apart m n h k =
    let i = first_mark m in
    let J : suc i.j < 2 ^ 24 = few m n i.j h k i.soon in
    let J' : i.j < 2 ^ 24 = omega arith in
    let M : m < 2 ^ 24 = omega arith in
    let N : n < 2 ^ 24 = omega arith in
    let low = at_mark m i.j M J' in
    let high = at_mark n (suc i.j) N J in
    let v = mark m i.j M J' in
    let w = mark n (suc i.j) N J in
    let X = over_number m (omega arith) in
    let Y = over_number n k in
    units→lt binary32 (over m) (over n) X Y
    (between (plus binary32 (over m)) (minus binary32 (over m)) (plus binary32 (over n)) (minus binary32 (over n)) (plus binary32 v) (minus binary32 v) (plus binary32 w) (minus binary32 w) (i.j * grain) grain
    low.1 low.2 (high.1 ∙ suc-mul i.j grain) high.2 (pow_pos 138)
    (le→units binary32 (over m) v X low.0 (below_mark m i.j M J' i.reaches))
    (le→units binary32 w (over n) high.0 Y (above_mark n (suc i.j) N J (le_trans i.soon (mul-le-mul_right 2048 h)))))
  where
    few : (m n j : ℕ) → m < n → n ≤ 1000000 → suc j * 1000 ≤ suc m * 2048 → suc j < 16777216
    few m n j h k l = omega arith

    between : (px mx py my pv mv pw mw G E : ℕ) → pv ≡ G → mv ≡ 0 → pw ≡ G + E → mw ≡ 0 → 0 < E → px + mv ≤ pv + mx → pw + my ≤ py + mw → px + my < py + mx
    between px mx py my pv mv pw mw G E a b c d e h k = omega arith

-- numbers from 0 to 1000000 thousandths
raised_is : (z : ℕ) → 2147483648 ≤ z → thousandths z ≡ over (z - 2147483648)
unfolding of_int
raised_is z h = ap (λ (b : Bool). div binary32 (of_int binary32 (cond b (pos (z - 2147483648)) (negsuc (2147483648 - suc z)))) (of_int binary32 (pos 1000))) (le-leb 2147483648 z h)

pub thousandths_apart : (a b : ℕ) → 2147483648 ≤ a → a < b → b ≤ 2148483648 → lt (thousandths a) (thousandths b) ≡ true
thousandths_apart a b h k l =
    ap (λ (x : Float). lt x (thousandths b)) (raised_is a h)
    ∙ ap (λ (x : Float). lt (over (a - 2147483648)) x) (raised_is b (omega arith))
    ∙ is_true (lt (over (a - 2147483648)) (over (b - 2147483648))) (over_apart (a - 2147483648) (b - 2147483648) (omega arith) (omega arith))
